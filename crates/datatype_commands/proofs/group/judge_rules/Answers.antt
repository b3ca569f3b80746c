use Rattle.std.proofs.Common.{map, get_or, ap, ◌∙◌, subst, sym}
use Rattle.std.proofs.lemmas.List.{length-map}
use Rattle.dt_rules.specs.Groups.{known}
use Rattle.dt_rules.specs.Judgement.{IsAccepted, IsUnsettledAt}
use Rattle.dt_rules.specs.Unfolding.{IsTooWide}
use Rattle.term_store.specs.Command.{plain_datatype}
use Rattle.term_store.specs.Definitions.{Definitions}
use Rattle.typer.specs.FunctionSymbols.{datatypes_of}
use Rattle.typer.proofs.ReadyKept.{grown}
use Rattle.datatype_commands.proofs.WholeGroups.{too_wide_of, unsettled_of, whole_right, whole_too_wide, whole_unsettled}
use Rattle.datatype_commands.proofs.group.judge_rules.Goals as goal

pub returns-in-Ok-clause-answer : goal.returns-in-Ok-clause-answer
returns-in-Ok-clause-answer c = let group = map plain_datatype c.args.group.now in
    whole_right (datatypes_of c.args.world.now.script) c.args.at c.args.symbols.now group
    (subst (λ (d : Definitions). IsAccepted (known (map plain_datatype d.datatypes) group) group) c.defs.ensures c.in-Ok.ensures.answer)

pub returns-in-Err-TooWide-clause-answer : goal.returns-in-Err-TooWide-clause-answer
returns-in-Err-TooWide-clause-answer c = let group = map plain_datatype c.args.group.now in
    rw c.fault.ensures (whole_too_wide (datatypes_of c.args.world.now.script) c.args.at c.args.symbols.now group
    (subst (λ (d : Definitions). IsTooWide (known (map plain_datatype d.datatypes) group) group) c.defs.ensures
    (too_wide_of c.in-Err-TooWide.field-0 (known (map plain_datatype c.defs.result.now.datatypes) group) group c.in-Err-TooWide.field-0-is c.in-Err-TooWide.ensures.answer)))

pub returns-in-Err-NotSettled-clause-answer : goal.returns-in-Err-NotSettled-clause-answer
returns-in-Err-NotSettled-clause-answer c = let group = map plain_datatype c.args.group.now in
    rw c.fault-in-Err-NotSettled.ensures (whole_unsettled (datatypes_of c.args.world.now.script) c.args.at c.args.symbols.now group c.in-Err-NotSettled.i (get_or c.args.symbols.now c.in-Err-NotSettled.i c.index-symbols-i.result)
    (c.requires.each ∙ sym (length-map c.args.group.now plain_datatype)) (ap (λ s. get_or c.args.symbols.now c.in-Err-NotSettled.i s) c.index-symbols-i.is)
    (subst (λ (d : Definitions). IsUnsettledAt (known (map plain_datatype d.datatypes) group) group c.in-Err-NotSettled.i) c.defs.ensures
    (unsettled_of c.in-Err-NotSettled.field-0 c.in-Err-NotSettled.i (known (map plain_datatype c.defs.result.now.datatypes) group) group c.in-Err-NotSettled.field-0-is c.in-Err-NotSettled.ensures.answer)))

pub returns-in-Ok-clause-ready : goal.returns-in-Ok-clause-ready
returns-in-Ok-clause-ready c = grown c.args.world.now c.check_group.new.sorts c.check_group.ensures.grows c.check_group.ensures.distinct c.requires.ready

pub returns-in-Err-TooWide-clause-ready : goal.returns-in-Err-TooWide-clause-ready
returns-in-Err-TooWide-clause-ready c = grown c.args.world.now c.check_group.new.sorts c.check_group.ensures.grows c.check_group.ensures.distinct c.requires.ready

pub returns-in-Err-NotSettled-clause-ready : goal.returns-in-Err-NotSettled-clause-ready
returns-in-Err-NotSettled-clause-ready c = grown c.args.world.now c.check_group.new.sorts c.check_group.ensures.grows c.check_group.ensures.distinct c.requires.ready

pub returns-in-Err-NoMemory-clause-ready : goal.returns-in-Err-NoMemory-clause-ready
returns-in-Err-NoMemory-clause-ready c = grown c.args.world.now c.check_group.new.sorts c.check_group.ensures.grows c.check_group.ensures.distinct c.requires.ready
