use Rattle.std.proofs.Common.{ap}
use Rattle.std.proofs.lemmas.Result.{err_from_is_err_and}
use Rattle.script_core.specs.Checking.{environment_of}
use Rattle.script_core.specs.RuleAnswers.{variables_left}
use Rattle.script_core.proofs.TakingDefinitions.{grows_on, variables_broken, variables_onward, variables_taken, vars_ready}
use Rattle.script_core.proofs.definitions.variables_of.Goals as goal

pub returns-in_err-var-clause-answer : goal.returns-in_err-var-clause-answer
returns-in_err-var-clause-answer c =
    let l = c.loop-next in let p = err_from_is_err_and c.from_residual.result c.from_residual.ensures.1 in rw (p.1, p.2)
    (variables_broken c.args.scope.now l.scope c.args.params.now (variables_left l.next) c.in-Some.first c.in-Some.rest l.vars c.as_slice.result.now (ap variables_left c.in-Some.is) c.as_slice.ensures
    l.invariant.grown l.invariant.onward c.in_err-var.field-0.0 c.in_err-var.ensures.answer)

pub loop-next-preserved : goal.loop-next-preserved
loop-next-preserved c = let l = c.loop-next in record {
  onward = variables_onward c.args.scope.now l.scope c.args.params.now (variables_left l.next) c.in-Some.first c.in-Some.rest l.vars c.as_slice.result.now (ap variables_left c.in-Some.is) c.as_slice.ensures
      l.invariant.grown l.invariant.onward c.in_ok-var.var c.push.new.self c.split-next-in-Some.result c.in_ok-var.ensures.answer c.in-Ok.ensures.ok c.split-next-in-Some.ensures;
  grown = grows_on c.args.scope.now l.scope c.variable_of.new.scope l.invariant.grown c.variable_of.ensures.grown;
  ready = vars_ready l.scope c.variable_of.new.scope l.vars c.push.new.self c.in_ok-var.var c.variable_of.ensures.grown l.invariant.ready c.in_ok-var.ensures.schema c.in-Ok.ensures.ok;
  stands = c.variable_of.ensures.stands;
}

pub returns-clause-answer : goal.returns-clause-answer
returns-clause-answer c =
    variables_taken (environment_of c.args.scope.now.world.names c.args.scope.now) c.args.params.now (variables_left c.loop-next.next) c.loop-next.vars (ap variables_left c.in_default.is) c.loop-next.invariant.onward
