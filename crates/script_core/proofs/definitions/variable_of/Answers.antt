use Rattle.std.proofs.lemmas.Result.{err_from_is_err_and}
use Rattle.cmd_grammar.specs.DeclarationViews.{variable_seen}
use Rattle.script_core.specs.Checking.{environment_of}
use Rattle.script_core.proofs.TakingDefinitions.{variable_fault, variable_repeated, variable_right}
use Rattle.script_core.proofs.definitions.variable_of.Goals as goal

pub returns-then-is_bound-clause-answer : goal.returns-then-is_bound-clause-answer
returns-then-is_bound-clause-answer c =
    rw c.broken.ensures (variable_repeated (environment_of c.args.scope.now.world.names c.args.scope.now) c.args.before.now (variable_seen c.args.variable) c.is_bound.result c.is_bound.ensures c.if-is_bound.true)

pub returns-in_err-sort-clause-answer : goal.returns-in_err-sort-clause-answer
returns-in_err-sort-clause-answer c =
    let p = err_from_is_err_and c.from_residual.result c.from_residual.ensures.1 in rw (p.1, p.2)
    (variable_fault (environment_of c.args.scope.now.world.names c.args.scope.now) c.args.before.now (variable_seen c.args.variable) c.is_bound.result c.is_bound.ensures c.if-is_bound.false c.in_err-sort.field-0.0 c.in_err-sort.ensures.answer)

pub returns-clause-answer : goal.returns-clause-answer
returns-clause-answer c =
    variable_right (environment_of c.args.scope.now.world.names c.args.scope.now) c.args.before.now (variable_seen c.args.variable) c.is_bound.result c.is_bound.ensures c.if-is_bound.false c.in_ok-sort.sort c.in_ok-sort.ensures.answer
