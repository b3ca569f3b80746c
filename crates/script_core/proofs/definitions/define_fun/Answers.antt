use Rattle.std.proofs.Common.{◌∙◌, Err, Ok}
use Rattle.std.proofs.lemmas.Result.{err_from_is_err_and}
use Rattle.cmd_grammar.specs.DeclarationViews.{fun_def_seen}
use Rattle.script_core.specs.Checking.{environment_of}
use Rattle.script_core.specs.Effects.{seen_by}
use Rattle.script_core.proofs.TakingDefinitions.{body_moved, bound_kept, definition_broken, definition_right, header_later, live_under, named_ready, names_of_one}
use Rattle.script_core.proofs.TakingParts.{here_env}
use Rattle.script_core.proofs.definitions.define_fun.Goals as goal

pub body_of-requires-clause-vars : goal.body_of-requires-clause-vars
body_of-requires-clause-vars c = bound_kept c.header_of.new.scope c.declare_name.new.scope c.in_ok-header.header c.declare_name.ensures.sorts c.in_ok-header.ensures.schema

pub returns-in_err-body-clause-answer : goal.returns-in_err-body-clause-answer
returns-in_err-body-clause-answer c =
    let old = c.args.scope.now in let near = c.header_of.new.scope in let named = c.declare_name.new.scope in let h = c.in_ok-header.header in let f = fun_def_seen c.args.raw in let after = seen_by c.body_of.new.scope in
    let p = err_from_is_err_and c.from_residual-in_err-body.result c.from_residual-in_err-body.ensures.1 in rw (p.1, p.2)
    (definition_broken old c.args.at f h c.in_ok-header.ensures.answer (environment_of old.world.names c.body_of.new.scope) c.in_err-body.field-0.0 after
    (body_moved old c.args.at f h c.in_ok-header.ensures.answer (environment_of old.world.names old) named (Err c.in_err-body.field-0.0) after (c.declare_name.ensures.same ∙ here_env old near c.header_of.ensures.grown)
    (names_of_one old near named h.name c.requires.begins c.header_of.ensures.grown c.in_ok-declare_name.ensures.seen c.declare_name.ensures.first) c.in_err-body.ensures.answer))

pub add_header-requires-clause-schema : goal.add_header-requires-clause-schema
add_header-requires-clause-schema c =
    header_later c.declare_name.new.scope c.body_of.new.scope c.in_ok-header.header c.body_of.ensures.same c.body_of.ensures.grows
    (named_ready c.header_of.new.scope c.declare_name.new.scope c.in_ok-header.header c.declare_name.ensures.names c.declare_name.ensures.sorts c.in_ok-header.ensures.schema)

pub returns-clause-answer : goal.returns-clause-answer
returns-clause-answer c =
    let old = c.args.scope.now in let near = c.header_of.new.scope in let named = c.declare_name.new.scope in let h = c.in_ok-header.header in let f = fun_def_seen c.args.raw in let after = seen_by c.add_header.new.scope in
    let start = c.declare_name.ensures.same ∙ here_env old near c.header_of.ensures.grown in
    definition_right old c.args.at f h c.in_ok-header.ensures.answer (environment_of old.world.names c.add_header.new.scope) c.in_ok-body.body c.definition.result after
    (rw c.add_header.ensures.unnamed.0 (body_moved old c.args.at f h c.in_ok-header.ensures.answer (environment_of old.world.names old) named (Ok c.in_ok-body.body) (seen_by c.body_of.new.scope) start
    (names_of_one old near named h.name c.requires.begins c.header_of.ensures.grown c.in_ok-declare_name.ensures.seen c.declare_name.ensures.first) c.in_ok-body.ensures.answer))
    (live_under old c.body_of.new.scope c.add_header.new.scope h (c.body_of.ensures.same ∙ start) c.in_ok-add_header.ensures.effect) c.definition.ensures
