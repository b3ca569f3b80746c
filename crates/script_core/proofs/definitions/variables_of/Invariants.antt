use Rattle.std.proofs.Common.{[], length, map}
use Rattle.term_store.specs.Term.{plain_var}
use Rattle.script_core.specs.Checking.{IsReadyScope, environment_of}
use Rattle.script_core.specs.Effects.{AreReadyVars, OnlySortsGrow}
use Rattle.script_core.specs.RuleAnswers.{variables_left}
use Rattle.script_core.specs.Rules.{judge_variables}
use Rattle.script_core.proofs.TakingLists.{Onward}
use Rattle.script_core.proofs.definitions.variables_of.Given as goal

-- what the variables that are left have as outcome after those so far, all have it, and only sorts are new
abbrev pub invariant-loop-next : goal.invariant-loop-next
invariant-loop-next l = record {
  onward : Onward (judge_variables (environment_of l.fn.scope.world.names l.fn.scope)) [] l.params (map (λ v. v.0) l.vars) (variables_left l.next) (map plain_var l.vars) [] [];
  grown : OnlySortsGrow l.fn.scope l.scope;
  ready : AreReadyVars l.scope l.vars;
  stands : IsReadyScope l.scope;
}

abbrev pub decreases-loop-next : goal.decreases-loop-next
decreases-loop-next l = length (variables_left l.next)
