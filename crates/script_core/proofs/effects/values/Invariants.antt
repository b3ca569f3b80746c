use Rattle.std.proofs.Common.{◌≡◌, length, map}
use Rattle.term_grammar.specs.Syntax.{each_term}
use Rattle.term_store.specs.Term.{tree}
use Rattle.script_core.specs.Checking.{IsReadyScope, environment_of}
use Rattle.script_core.specs.Effects.{IsSameTo, first_of, seen_by}
use Rattle.script_core.specs.RuleAnswers.{terms_left}
use Rattle.script_core.proofs.TakingTerms.{TermsOnward}
use Rattle.script_core.proofs.effects.values.Given as goal

-- nothing has changed that the rules look at, and what the terms that are left have as outcome, all have it
abbrev pub invariant-loop-next : goal.invariant-loop-next
invariant-loop-next l = record {
  onward : TermsOnward (environment_of l.fn.scope.world.names l.fn.scope) l.terms (terms_left l.next) (map tree l.made) (seen_by l.scope);
  first : first_of l.scope ≡ l.fn.scope.next;
  same : IsSameTo l.fn.scope l.scope;
  script : l.scope.world.script ≡ l.fn.scope.world.script;
  stands : IsReadyScope l.scope;
}

abbrev pub decreases-loop-next : goal.decreases-loop-next
decreases-loop-next l = length (each_term (terms_left l.next))
