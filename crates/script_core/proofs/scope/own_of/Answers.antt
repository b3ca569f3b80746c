use Rattle.std.proofs.Common.{◌∙◌, ap, refl, subst, sym, Err, Ok}
use Rattle.cmd_grammar.specs.CommandViews.{command_from}
use Rattle.script_core.specs.Checking.{environment_of}
use Rattle.script_core.specs.Effects.{IsDeclaredNamed, IsInMode, seen_by}
use Rattle.datatype_commands.specs.KnownDatatypes.{KnowsDatatypes}
use Rattle.term_store.specs.Script.{Kept}
use Rattle.script_core.specs.Environment.{Environment, signature_in}
use Rattle.script_core.specs.Keeping.{KeepsBelow, KeepsEarlier, group_in, with_datatypes}
use Rattle.script_core.proofs.KeptNumbers.{same_earlier}
use Rattle.logic_frag.specs.Following.{AppliesLower, plain_defs}
use Rattle.script_core.proofs.RuleMeanings.{command_in_mode, command_named, parts_earlier, parts_moved, same_definitions, tree_allowed, tree_broken, tree_no_command, tree_outside, tree_refused, whole_moved}
use Rattle.script_core.proofs.scope.own_of.Goals as goal

pub returns-in-Err-Fault-clause-answer : goal.returns-in-Err-Fault-clause-answer
returns-in-Err-Fault-clause-answer c = let names = c.args.scope.now.world.names in let fault = c.in-Err-Fault in
    tree_no_command (environment_of names c.args.scope.now) (environment_of names c.args.scope.now) (seen_by c.args.scope.now) c.args.tree.now fault.field-0 fault.place fault.field-0-is fault.ensures

pub returns-in-Err-clause-answer : goal.returns-in-Err-clause-answer
returns-in-Err-clause-answer c = let names = c.args.scope.now.world.names in
    tree_broken (environment_of names c.args.scope.now) (environment_of names c.args.scope.now) (seen_by c.args.scope.now) c.args.tree.now (command_from c.kind-kind.result) c.at-at.result
    c.in-Err.place (c.in-Ok.ensures.0 ∙ ap Ok c.kind-kind.ensures) (c.at-at.ensures ∙ c.in-Ok.ensures.1) (sym c.in-Err.ensures)

pub take_parts-requires-clause-named : goal.take_parts-requires-clause-named
take_parts-requires-clause-named c =
    subst (λ ns. IsDeclaredNamed ns (command_from c.kind-kind.result)) (sym c.begin_names.ensures.names)
    (command_named c.args.scope.now.world.names c.args.tree.now (command_from c.kind-kind.result) c.requires.interned (c.in-Ok.ensures.0 ∙ ap Ok c.kind-kind.ensures))

pub take_parts-requires-clause-mode : goal.take_parts-requires-clause-mode
take_parts-requires-clause-mode c =
    command_in_mode c.args.scope.now c.begin_names.new.scope c.at-at.result (command_from c.kind-kind.result) (sym c.in-Ok-judge_mode.ensures) c.begin_names.ensures.same

pub returns-in-Err-take_parts-clause-answer : goal.returns-in-Err-take_parts-clause-answer
returns-in-Err-take_parts-clause-answer c = let old = c.args.scope.now in let here = c.begin_names.new.scope in let new = c.take_parts.new.scope in let names = old.world.names in
    tree_refused (environment_of names old) (environment_of names new) (seen_by new) c.args.tree.now (command_from c.kind-kind.result) c.at-at.result
    (c.in-Ok.ensures.0 ∙ ap Ok c.kind-kind.ensures) (c.at-at.ensures ∙ c.in-Ok.ensures.1) (sym c.in-Ok-judge_mode.ensures) c.in-Err-take_parts.error
    (parts_moved old here new c.at-at.result (command_from c.kind-kind.result) (Err c.in-Err-take_parts.error) (seen_by new) c.begin_names.ensures.same c.begin_names.ensures.names c.in-Err-take_parts.ensures.answer)

pub judge_whole-requires : goal.judge_whole-requires
judge_whole-requires c =
    subst AppliesLower (sym (same_definitions c.args.scope.now.world.script c.take_parts.new.scope.world.script c.defs.result.now c.in-Ok-take_parts.command c.defs.ensures
    (c.in-Ok-take_parts.ensures.script ∙ ap (λ (k : Kept). with_datatypes k (group_in c.in-Ok-take_parts.command)) c.begin_names.ensures.script))) c.requires.lower

pub returns-in-Ok-judge_whole-clause-answer : goal.returns-in-Ok-judge_whole-clause-answer
returns-in-Ok-judge_whole-clause-answer c = let old = c.args.scope.now in let here = c.begin_names.new.scope in let new = c.take_parts.new.scope in let names = old.world.names in
    tree_allowed (environment_of names old) (environment_of names new) (seen_by new) c.args.tree.now (command_from c.kind-kind.result) c.at-at.result
    (c.in-Ok.ensures.0 ∙ ap Ok c.kind-kind.ensures) (c.at-at.ensures ∙ c.in-Ok.ensures.1) (sym c.in-Ok-judge_mode.ensures) c.in-Ok-take_parts.command
    (parts_moved old here new c.at-at.result (command_from c.kind-kind.result) (Ok c.in-Ok-take_parts.command) (seen_by new) c.begin_names.ensures.same c.begin_names.ensures.names c.in-Ok-take_parts.ensures.answer)
    (whole_moved old new c.defs.result.now c.at-at.result c.in-Ok-take_parts.command (Ok tt) (c.take_parts.ensures.names ∙ c.begin_names.ensures.names)
    (same_definitions old.world.script new.world.script c.defs.result.now c.in-Ok-take_parts.command c.defs.ensures
    (c.in-Ok-take_parts.ensures.script ∙ ap (λ (k : Kept). with_datatypes k (group_in c.in-Ok-take_parts.command)) c.begin_names.ensures.script)) c.in-Ok-judge_whole.ensures)

pub returns-in-Err-judge_whole-clause-answer : goal.returns-in-Err-judge_whole-clause-answer
returns-in-Err-judge_whole-clause-answer c = let old = c.args.scope.now in let here = c.begin_names.new.scope in let new = c.take_parts.new.scope in let names = old.world.names in
    tree_outside (environment_of names old) (environment_of names new) (seen_by new) c.args.tree.now (command_from c.kind-kind.result) c.at-at.result
    (c.in-Ok.ensures.0 ∙ ap Ok c.kind-kind.ensures) (c.at-at.ensures ∙ c.in-Ok.ensures.1) (sym c.in-Ok-judge_mode.ensures) c.in-Ok-take_parts.command
    (parts_moved old here new c.at-at.result (command_from c.kind-kind.result) (Ok c.in-Ok-take_parts.command) (seen_by new) c.begin_names.ensures.same c.begin_names.ensures.names c.in-Ok-take_parts.ensures.answer)
    c.in-Err-judge_whole.error
    (whole_moved old new c.defs.result.now c.at-at.result c.in-Ok-take_parts.command (Err c.in-Err-judge_whole.error) (c.take_parts.ensures.names ∙ c.begin_names.ensures.names)
    (same_definitions old.world.script new.world.script c.defs.result.now c.in-Ok-take_parts.command c.defs.ensures
    (c.in-Ok-take_parts.ensures.script ∙ ap (λ (k : Kept). with_datatypes k (group_in c.in-Ok-take_parts.command)) c.begin_names.ensures.script)) c.in-Err-judge_whole.ensures)

pub returns-in-Err-NoMemory-clause-earlier : goal.returns-in-Err-NoMemory-clause-earlier
returns-in-Err-NoMemory-clause-earlier c = same_earlier c.args.scope.now.world.script c.args.scope.now.world.script c.args.scope.now.next refl

pub returns-in-Err-Fault-clause-earlier : goal.returns-in-Err-Fault-clause-earlier
returns-in-Err-Fault-clause-earlier c = same_earlier c.args.scope.now.world.script c.args.scope.now.world.script c.args.scope.now.next refl

pub returns-in-Err-clause-earlier : goal.returns-in-Err-clause-earlier
returns-in-Err-clause-earlier c = same_earlier c.args.scope.now.world.script c.args.scope.now.world.script c.args.scope.now.next refl

pub take_parts-requires-clause-known : goal.take_parts-requires-clause-known
take_parts-requires-clause-known c = subst (λ (e : Environment). KnowsDatatypes (signature_in e)) (sym c.begin_names.ensures.same) c.requires.known

pub take_parts-requires-clause-kept : goal.take_parts-requires-clause-kept
take_parts-requires-clause-kept c = let old = c.args.scope.now in let here = c.begin_names.new.scope in
    subst (λ n. KeepsBelow n here.world.script.defs) (sym c.begin_names.ensures.next) (subst (λ (k : Kept). KeepsBelow old.next k.defs) (sym c.begin_names.ensures.script) c.requires.kept)

pub returns-in-Err-take_parts-clause-earlier : goal.returns-in-Err-take_parts-clause-earlier
returns-in-Err-take_parts-clause-earlier c = let old = c.args.scope.now in let new = c.take_parts.new.scope in
    subst (λ n. KeepsEarlier n old.world.script new.world.script) c.begin_names.ensures.next (subst (λ (k : Kept). KeepsEarlier c.begin_names.new.scope.next k new.world.script) c.begin_names.ensures.script c.in-Err-take_parts.ensures.earlier)

pub returns-in-Ok-judge_whole-clause-script : goal.returns-in-Ok-judge_whole-clause-script
returns-in-Ok-judge_whole-clause-script c = c.in-Ok-take_parts.ensures.script ∙ ap (λ (k : Kept). with_datatypes k (group_in c.in-Ok-take_parts.command)) c.begin_names.ensures.script

pub returns-in-Err-judge_whole-clause-earlier : goal.returns-in-Err-judge_whole-clause-earlier
returns-in-Err-judge_whole-clause-earlier c = let old = c.args.scope.now in let here = c.begin_names.new.scope in let new = c.take_parts.new.scope in let names = old.world.names in
    parts_earlier (environment_of names old) c.at-at.result (command_from c.kind-kind.result) c.in-Ok-take_parts.command (environment_of names new) (seen_by new) old.world.script new.world.script
    (parts_moved old here new c.at-at.result (command_from c.kind-kind.result) (Ok c.in-Ok-take_parts.command) (seen_by new) c.begin_names.ensures.same c.begin_names.ensures.names c.in-Ok-take_parts.ensures.answer)
    (c.in-Ok-take_parts.ensures.script ∙ ap (λ (k : Kept). with_datatypes k (group_in c.in-Ok-take_parts.command)) c.begin_names.ensures.script)
