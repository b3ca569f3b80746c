use Rattle.std.proofs.lemmas.Result.{err_from_is_err_and}
use Rattle.script_core.specs.Checking.{environment_of}
use Rattle.script_core.specs.Effects.{seen_by}
use Rattle.script_core.proofs.TakingGroups.{all_named_ready, group_broken, group_right, names_of_group}
use Rattle.script_core.proofs.definitions.define_funs_rec.Goals as goal

pub members_of-requires-clause-ready : goal.members_of-requires-clause-ready
members_of-requires-clause-ready c =
    all_named_ready c.headers_of.new.scope c.declare_names.new.scope c.in_ok-headers.headers c.as_slice-2.result.now c.as_slice-2.ensures c.declare_names.ensures.names c.declare_names.ensures.sorts c.in_ok-headers.ensures.ready

pub returns-in_err-defs-clause-answer : goal.returns-in_err-defs-clause-answer
returns-in_err-defs-clause-answer c =
    let old = c.args.scope.now in let mid = c.headers_of.new.scope in let named = c.declare_names.new.scope in
    let p = err_from_is_err_and c.from_residual-in_err-defs.result c.from_residual-in_err-defs.ensures.1 in rw (p.1, p.2)
    (group_broken old mid named c.args.at c.args.declarations.now c.args.bodies.now c.in_ok-headers.headers c.in_ok-headers.ensures.answer c.headers_of.ensures.names c.in_ok-headers.ensures.effect c.declare_names.ensures.same
    (names_of_group old mid named c.in_ok-headers.headers c.as_slice.result.now c.requires.begins c.headers_of.ensures.unnamed c.in_ok-declare_names.ensures.seen c.declare_names.ensures.first c.as_slice.ensures)
    (environment_of old.world.names c.members_of.new.scope) c.as_slice-2.result.now c.in_err-defs.field-0.0 (seen_by c.members_of.new.scope) c.as_slice-2.ensures c.in_err-defs.ensures.answer)

pub returns-clause-answer : goal.returns-clause-answer
returns-clause-answer c =
    let old = c.args.scope.now in let mid = c.headers_of.new.scope in let named = c.declare_names.new.scope in
    group_right old mid named c.args.at c.args.declarations.now c.args.bodies.now c.in_ok-headers.headers c.in_ok-headers.ensures.answer c.headers_of.ensures.names c.in_ok-headers.ensures.effect c.declare_names.ensures.same
    (names_of_group old mid named c.in_ok-headers.headers c.as_slice.result.now c.requires.begins c.headers_of.ensures.unnamed c.in_ok-declare_names.ensures.seen c.declare_names.ensures.first c.as_slice.ensures)
    c.members_of.new.scope c.as_slice-2.result.now c.in_ok-defs.defs (seen_by c.members_of.new.scope) c.as_slice-2.ensures c.in_ok-defs.ensures.answer c.members_of.ensures.same
