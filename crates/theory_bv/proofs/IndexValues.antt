-- What the tests on indices say of them and of their values.
use Rattle.std.proofs.Common.{◌≡◌, ℕ, zero, suc, Bool, true, false, not, List, [], ◌∷◌, map, Some, refl, ◌∙◌, ap, inl, inr, arith}
use Rattle.std.specs.List.{Contains, list_all}
use Rattle.std.proofs.lemmas.Bool.{cases_Bool}
use Rattle.std.proofs.lemmas.List.Folds.{list_all_at}
use Rattle.theory_bv.specs.declared.index.Index.{Index}
use Rattle.theory_bv.specs.declared.index.Index.TheVariants.{Numeral, Large, Symbol}
use Rattle.theory_bv.specs.Indices.{index_at, is_large, is_symbol, no_large, no_symbol, value_or_0}
use Rattle.theory_bv.specs.Ranks.{letter}

abbrev pub values_of : List Index → List ℕ
values_of is = map (λ index. value_or_0 (Some index)) is

pub letter-values_of : (is : List Index) (place : ℕ) → letter (values_of is) place ≡ index_at is place
letter-values_of [] place = refl
letter-values_of (x ∷ is) zero = refl
letter-values_of (x ∷ is) (suc place) = letter-values_of is place

pub numerals_found : (is : List Index) → no_symbol is ≡ true → no_large is ≡ true → is ≡ map Numeral (values_of is)
numerals_found [] s l = refl
numerals_found (Numeral v ∷ is) s l = ap (λ xs. Numeral v ∷ xs) (numerals_found is s l)
numerals_found (Large ∷ is) s l = cc
numerals_found (Symbol ∷ is) s l = cc

pub index_at-numerals : (values : List ℕ) (place : ℕ) → index_at (map Numeral values) place ≡ letter values place
index_at-numerals [] place = refl
index_at-numerals (v ∷ values) zero = refl
index_at-numerals (v ∷ values) (suc place) = index_at-numerals values place

pub no_symbol-numerals : (values : List ℕ) → no_symbol (map Numeral values) ≡ true
no_symbol-numerals [] = refl
no_symbol-numerals (v ∷ values) = no_symbol-numerals values

pub no_large-numerals : (values : List ℕ) → no_large (map Numeral values) ≡ true
no_large-numerals [] = refl
no_large-numerals (v ∷ values) = no_large-numerals values

-- an index that alone passes a test is among the indices exactly where not all fail it
module _ (p : Index → Bool) (s : Index) (own : p s ≡ true) (only : (x : Index) → p x ≡ true → x ≡ s) where
  contained : (is : List Index) → list_all (λ x. not (p x)) is ≡ false → Contains is s
  contained [] h = cc
  contained (x ∷ is) h = elim (cases_Bool (p x)) [
    | inl here ↦ (0, omega arith, only x here)
    | inr later ↦ let rest : Contains is s = contained is (rw later at h) in (suc rest.0, omega arith, rest.2)
  ]

  refuted : (is : List Index) → Contains is s → list_all (λ x. not (p x)) is ≡ false
  refuted is h = list_all_at (λ x. not (p x)) is h.0 s h.1 (ap (λ x. not (p x)) h.2 ∙ ap not own)

only_symbol : (x : Index) → is_symbol x ≡ true → x ≡ Symbol
only_symbol (Numeral v) h = cc
only_symbol Large h = cc
only_symbol Symbol h = refl

only_large : (x : Index) → is_large x ≡ true → x ≡ Large
only_large (Numeral v) h = cc
only_large Large h = refl
only_large Symbol h = cc

pub symbol_found : (is : List Index) → no_symbol is ≡ false → Contains is Symbol
symbol_found is h = contained is_symbol Symbol refl only_symbol is h

pub symbol_refuted : (is : List Index) → Contains is Symbol → no_symbol is ≡ false
symbol_refuted is h = refuted is_symbol Symbol refl only_symbol is h

pub no_symbol_from : (is : List Index) → (Contains is Symbol → ⊥) → no_symbol is ≡ true
no_symbol_from is none = elim (cases_Bool (no_symbol is)) [
  | inl all ↦ all
  | inr found ↦ absurd (none (symbol_found is found))
]

pub large_found : (is : List Index) → no_large is ≡ false → Contains is Large
large_found is h = contained is_large Large refl only_large is h

pub large_refuted : (is : List Index) → Contains is Large → no_large is ≡ false
large_refuted is h = refuted is_large Large refl only_large is h
