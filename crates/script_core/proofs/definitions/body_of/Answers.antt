use Rattle.std.proofs.lemmas.Result.{err_from_is_err_and}
use Rattle.script_core.specs.Checking.{environment_of}
use Rattle.script_core.specs.Effects.{first_of, seen_by}
use Rattle.script_core.proofs.TakingDefinitions.{body_fault, body_wrong}
use Rattle.script_core.proofs.definitions.body_of.Goals as goal

pub returns-in_err-term-clause-answer : goal.returns-in_err-term-clause-answer
returns-in_err-term-clause-answer c =
    let p = err_from_is_err_and c.from_residual.result c.from_residual.ensures.1 in rw (p.1, p.2)
    (body_fault (first_of c.args.scope.now) (environment_of c.args.scope.now.world.names c.args.scope.now) c.args.header.now c.args.body c.as_slice.result.now (seen_by c.args.scope.now) (seen_by c.term_of.new.scope) c.as_slice.ensures c.in_err-term.field-0.0 c.in_err-term.ensures.answer)

pub returns-then-not-same_tree-clause-answer : goal.returns-then-not-same_tree-clause-answer
returns-then-not-same_tree-clause-answer c =
    rw c.broken.ensures (body_wrong (first_of c.args.scope.now) (environment_of c.args.scope.now.world.names c.args.scope.now) c.args.header.now c.args.body c.as_slice.result.now (seen_by c.args.scope.now) (seen_by c.term_of.new.scope) c.as_slice.ensures c.in_ok-term.term c.at-at.result
    c.same_tree.result c.sort.result.now c.in_ok-term.ensures.answer c.sort.ensures c.same_tree.ensures c.if-not-same_tree.true c.at-at.ensures)
