use Rattle.std.proofs.Common.{◌≡◌, length, map}
use Rattle.term_store.specs.Term.{tree}
use Rattle.script_core.specs.Checking.{IsReadyScope, environment_of}
use Rattle.script_core.specs.Effects.{CountsNames, IsSameTo, seen_by}
use Rattle.script_core.specs.RuleAnswers.{literals_left}
use Rattle.script_core.proofs.TakingLiterals.{LiteralsOnward}
use Rattle.script_core.proofs.effects.assumptions.Given as goal

-- nothing has changed that the rules look at, and what the literals that are left have as outcome, all have it
abbrev pub invariant-loop-next : goal.invariant-loop-next
invariant-loop-next l = record {
  onward : LiteralsOnward (environment_of l.fn.scope.world.names l.fn.scope) l.literals (literals_left l.next) (map tree l.terms) (seen_by l.scope);
  counts : CountsNames l.scope;
  same : IsSameTo l.fn.scope l.scope;
  script : l.scope.world.script ≡ l.fn.scope.world.script;
  stands : IsReadyScope l.scope;
}

abbrev pub decreases-loop-next : goal.decreases-loop-next
decreases-loop-next l = length (literals_left l.next)
