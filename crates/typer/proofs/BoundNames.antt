-- What the last variable of a name has, over a slice, on what is left.
use Rattle.std.proofs.Common.{◌≡◌, ◌==◌, ℕ, zero, suc, ◌<◌, ◌≤◌, true, false, if◌then◌else◌, List, [], ◌∷◌, length, drop, get_or, Option, Some, None, refl, ap, sym, ◌∙◌, arith}
use Rattle.typer.specs.SortSymbols.{or_else}
use Rattle.typer.specs.TermRules.{bound}

some_last : {A : Type 0} (o found : Option A) (x : A) → or_else o (Some x) ≡ or_else (or_else o (Some x)) found
some_last (Some y) found x = refl
some_last None found x = refl

none_last : {A : Type 0} (o found : Option A) → or_else o found ≡ or_else (or_else o None) found
none_last (Some y) found = refl
none_last None found = refl

module _ {A : Type 0} (name : ℕ) where
  pub bound_here : (vs : List (ℕ × A)) (k : ℕ) (v : ℕ × A) (found : Option A) → k < length vs → v ≡ get_or vs k v → (v.0 == name) ≡ true
      → or_else (bound (drop (suc k) vs) name) (Some v.1) ≡ or_else (bound (drop k vs) name) found
  bound_here [] k v found l e t = absurd (omega (arith, l))
  bound_here (x ∷ vs) zero v found l e t =
      some_last (bound vs name) found v.1 ∙ ap (λ o. or_else (or_else (bound vs name) o) found) (sym (ap (λ b. if b then Some x.1 else None) (ap (λ z. z.0 == name) (sym e) ∙ t) ∙ ap (λ (z : ℕ × A). Some z.1) (sym e)))
  bound_here (x ∷ vs) (suc k) v found l e t = bound_here vs k v found (omega (arith, l)) e t

  pub bound_on : (vs : List (ℕ × A)) (k : ℕ) (v : ℕ × A) (found : Option A) → k < length vs → v ≡ get_or vs k v → (v.0 == name) ≡ false
      → or_else (bound (drop (suc k) vs) name) found ≡ or_else (bound (drop k vs) name) found
  bound_on [] k v found l e t = absurd (omega (arith, l))
  bound_on (x ∷ vs) zero v found l e t =
      none_last (bound vs name) found ∙ ap (λ o. or_else (or_else (bound vs name) o) found) (sym (ap (λ b. if b then Some x.1 else None) (ap (λ z. z.0 == name) (sym e) ∙ t)))
  bound_on (x ∷ vs) (suc k) v found l e t = bound_on vs k v found (omega (arith, l)) e t

  pub bound_end : (vs : List (ℕ × A)) (k : ℕ) (found : Option A) → length vs ≤ k → or_else (bound (drop k vs) name) found ≡ found
  bound_end [] zero found l = refl
  bound_end [] (suc k) found l = refl
  bound_end (x ∷ vs) zero found l = absurd (omega (arith, l))
  bound_end (x ∷ vs) (suc k) found l = bound_end vs k found (omega (arith, l))

  pub or_none : (o : Option A) → or_else o None ≡ o
  or_none (Some y) = refl
  or_none None = refl

pub ruleset bound_words = (bound_here, bound_on, bound_end, or_none)
