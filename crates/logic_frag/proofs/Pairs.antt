-- Three arguments or more are no pair.
use Rattle.std.proofs.Common.{◌≡◌, Bool, false, List, [], ◌∷◌, ◌≤◌, length, refl, arith}
use Rattle.term_store.specs.NumberedNodes.{terms}
use Rattle.term_store.specs.Term.{NumberedTerm, trees}
use Rattle.logic_frag.specs.DifferenceTests.{is_unknown_constant, pair_test}
use Rattle.logic_frag.specs.StandsFor.{Context}
use Rattle.term_store.specs.declared.parts.Fun.{Fun}
use Rattle.logic_frag.specs.Occurrences.{Occurrence, Scope}

pub three_or_more : (test : Occurrence → Occurrence → Bool) (scope : Scope) (ts : List NumberedTerm) → 3 ≤ length ts → pair_test test scope (trees (terms ts)) ≡ false
three_or_more test scope [] l = absurd (omega (arith, l))
three_or_more test scope (t ∷ []) l = absurd (omega (arith, l))
three_or_more test scope (t ∷ (u ∷ [])) l = absurd (omega (arith, l))
three_or_more test scope (t ∷ (u ∷ (v ∷ ts))) l = refl

pub one_alone : (test : Occurrence → Occurrence → Bool) (scope : Scope) (ts : List NumberedTerm) → length ts ≡ 1 → pair_test test scope (trees (terms ts)) ≡ false
one_alone test scope [] l = absurd (omega (arith, l))
one_alone test scope (t ∷ []) l = refl
one_alone test scope (t ∷ (u ∷ ts)) l = absurd (omega (arith, l))

pub ruleset pair_words = (three_or_more, one_alone)

pub some_arguments : (context : Context) (f : Fun) (ts : List NumberedTerm) → 1 ≤ length ts → is_unknown_constant context f (trees (terms ts)) ≡ false
some_arguments context f [] l = absurd (omega (arith, l))
some_arguments context f (t ∷ ts) l = refl
