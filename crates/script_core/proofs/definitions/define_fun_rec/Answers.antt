use Rattle.std.proofs.Common.{◌∙◌, Err, Ok}
use Rattle.std.proofs.lemmas.Result.{err_from_is_err_and}
use Rattle.cmd_grammar.specs.DeclarationViews.{fun_def_seen}
use Rattle.script_core.specs.Checking.{environment_of}
use Rattle.script_core.specs.Effects.{plain_header, seen_by}
use Rattle.script_core.specs.Rules.{with_header}
use Rattle.script_core.proofs.TakingDefinitions.{body_moved, bound_kept, live_under_own, named_ready, names_later, names_of_one, recursive_broken, recursive_right, same_under}
use Rattle.script_core.proofs.TakingParts.{here_env}
use Rattle.script_core.proofs.definitions.define_fun_rec.Goals as goal

pub add_header-requires-clause-schema : goal.add_header-requires-clause-schema
add_header-requires-clause-schema c = named_ready c.header_of.new.scope c.declare_name.new.scope c.in_ok-header.header c.declare_name.ensures.names c.declare_name.ensures.sorts c.in_ok-header.ensures.schema

pub body_of-requires-clause-vars : goal.body_of-requires-clause-vars
body_of-requires-clause-vars c =
    bound_kept c.header_of.new.scope c.add_header.new.scope c.in_ok-header.header (c.add_header.ensures.sorts ∙ c.declare_name.ensures.sorts) c.in_ok-header.ensures.schema

pub returns-in_err-body-clause-answer : goal.returns-in_err-body-clause-answer
returns-in_err-body-clause-answer c =
    let old = c.args.scope.now in let near = c.header_of.new.scope in let named = c.declare_name.new.scope in let live = c.add_header.new.scope in let h = c.in_ok-header.header in let f = fun_def_seen c.args.raw in
    let after = seen_by c.body_of.new.scope in
    let start = c.declare_name.ensures.same ∙ here_env old near c.header_of.ensures.grown in
    let p = err_from_is_err_and c.from_residual-in_err-body.result c.from_residual-in_err-body.ensures.1 in rw (p.1, p.2)
    (recursive_broken old c.args.at f h c.in_ok-header.ensures.answer (environment_of old.world.names c.body_of.new.scope) c.in_err-body.field-0.0 after
    (body_moved old c.args.at f h c.in_ok-header.ensures.answer (with_header (environment_of old.world.names old) (plain_header h)) live (Err c.in_err-body.field-0.0) after
    (live_under_own old named live h start c.add_header.ensures.names c.in_ok-add_header.ensures.effect)
    (names_later old named live _ c.add_header.ensures.unnamed (names_of_one old near named h.name c.requires.begins c.header_of.ensures.grown c.in_ok-declare_name.ensures.seen c.declare_name.ensures.first)) c.in_err-body.ensures.answer))

pub returns-clause-answer : goal.returns-clause-answer
returns-clause-answer c =
    let old = c.args.scope.now in let near = c.header_of.new.scope in let named = c.declare_name.new.scope in let live = c.add_header.new.scope in let h = c.in_ok-header.header in let f = fun_def_seen c.args.raw in
    let after = seen_by c.body_of.new.scope in
    let start = c.declare_name.ensures.same ∙ here_env old near c.header_of.ensures.grown in
    let own = live_under_own old named live h start c.add_header.ensures.names c.in_ok-add_header.ensures.effect in
    recursive_right old c.args.at f h c.in_ok-header.ensures.answer (environment_of old.world.names c.body_of.new.scope) c.in_ok-body.body c.definition.result after
    (body_moved old c.args.at f h c.in_ok-header.ensures.answer (with_header (environment_of old.world.names old) (plain_header h)) live (Ok c.in_ok-body.body) after own
    (names_later old named live _ c.add_header.ensures.unnamed (names_of_one old near named h.name c.requires.begins c.header_of.ensures.grown c.in_ok-declare_name.ensures.seen c.declare_name.ensures.first)) c.in_ok-body.ensures.answer)
    (same_under old c.body_of.new.scope h (c.body_of.ensures.same ∙ own)) c.definition.ensures
