-- The last variable of a name is the innermost one.
use Rattle.std.proofs.Common.{◌≡◌, ℕ, ◌==◌, Bool, true, false, if◌then◌else◌, List, [], ◌∷◌, Option, Some, None, inl, inr, refl, ap, sym, ◌∙◌}
use Rattle.std.proofs.lemmas.Bool.{cases_Bool, eqb-true, eq-eqb, eqb-false, ne_eqb}
use Rattle.sort_store.specs.Tree.{Sort}
use Rattle.term_store.specs.SoundTerms.{Bound, sort_bound, bound_also}
use Rattle.typer.specs.SortSymbols.{or_else}
use Rattle.typer.specs.TermRules.{bound}
use Rattle.typer.proofs.BoundNames.{or_none}

same_test : (m n : ℕ) → (m == n) ≡ (n == m)
same_test m n = elim (cases_Bool (m == n)) [
  | inl e ↦ e ∙ sym (eq-eqb n m (sym (eqb-true m n e)))
  | inr e ↦ e ∙ sym (ne_eqb n m (λ s. eqb-false m n e (sym s)))
]

-- one of three, taken from the left
one_of_three : (o rest : Option Sort) (b : Bool) (s : Sort) → or_else o (if b then Some s else rest) ≡ or_else (or_else o (if b then Some s else None)) rest
one_of_three (Some x) rest b s = refl
one_of_three None rest true s = refl
one_of_three None rest false s = refl

bound_inside : (vars : List (ℕ × Sort)) (outer : Bound) (name : ℕ) → sort_bound (bound_also vars outer) name ≡ or_else (bound vars name) (sort_bound outer name)
bound_inside [] outer name = refl
bound_inside (v ∷ vars) outer name =
    bound_inside vars (v ∷ outer) name
    ∙ ap (λ b. or_else (bound vars name) (if b then Some v.1 else sort_bound outer name)) (same_test name v.0)
    ∙ one_of_three (bound vars name) (sort_bound outer name) (v.0 == name) v.1

pub same_bound : (vars : List (ℕ × Sort)) (name : ℕ) → sort_bound (bound_also vars []) name ≡ bound vars name
same_bound vars name = bound_inside vars [] name ∙ or_none name (bound vars name)
