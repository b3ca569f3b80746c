use Rattle.std.proofs.Common.{◌≡◌, [], ◌++◌, map, length}
use Rattle.judgement.specs.Judging.{Outcome}
use Rattle.script_core.specs.RuleAnswers.{tokens_left}
use Rattle.script_core.specs.Rules.{judge_params}
use Rattle.script_core.proofs.effects.params_of.Given as goal

-- what the parameters that are left have as outcome after those so far, all have it
abbrev pub invariant-loop-next : goal.invariant-loop-next
invariant-loop-next l = record {
  onward : (o : Outcome (Unit {0})) → judge_params l.names (tokens_left l.next) [] o → judge_params [] l.params [] o;
  names : l.names ++ map (λ p. p.name) (tokens_left l.next) ≡ map (λ p. p.name) l.params;
}

abbrev pub decreases-loop-next : goal.decreases-loop-next
decreases-loop-next l = length (tokens_left l.next)
