-- Names that are added one by one, where none of them came before, are distinct.
use Rattle.std.proofs.Common.{◌≡◌, ℕ, zero, suc, ◌==◌, ◌||◌, Bool, true, false, List, [], ◌∷◌, ◌++◌, length, Some, ◌⊎◌, inl, inr, refl, ap, sym, ◌∙◌}
use Rattle.std.specs.List.{list_any, slice_get}
use Rattle.std.proofs.lemmas.Bool.{eq-eqb}
use Rattle.term_store.specs.SoundTerms.{AreDistinct}

abbrev Absent : ℕ → List ℕ → Type 0
Absent name names = list_any (λ n. n == name) names ≡ false

none_of_or : (a b : Bool) → a || b ≡ false → (a ≡ false) × (b ≡ false)
none_of_or true b e = cc
none_of_or false b e = (refl, e)

-- an absent name stands at no place
not_there : (name : ℕ) (names : List ℕ) (i : ℕ) → Absent name names → slice_get names i ≡ Some name → ⊥
not_there name [] i a e = cc
not_there name (n ∷ names) zero a e = let same : n ≡ name = cc in let t : (n == name) ≡ true = eq-eqb n name same in let f = (none_of_or (n == name) (list_any (λ m. m == name) names) a).0 in cc
not_there name (n ∷ names) (suc i) a e = not_there name names i (none_of_or (n == name) (list_any (λ m. m == name) names) a).1 e

-- a place of the longer list is one of the list, or it is the name's
place_of : (names : List ℕ) (name i n : ℕ) → slice_get (names ++ name ∷ []) i ≡ Some n → (slice_get names i ≡ Some n) ⊎ ((i ≡ length names) × (n ≡ name))
place_of [] name zero n e = inr (refl, (let same : name ≡ n = cc in sym same))
place_of [] name (suc i) n e = cc
place_of (m ∷ names) name zero n e = inl e
place_of (m ∷ names) name (suc i) n e = elim (place_of names name i n e) [
  | inl h ↦ inl h
  | inr h ↦ inr (ap suc h.0, h.1)
]

pub distinct_push : (names : List ℕ) (name : ℕ) → AreDistinct names → Absent name names → AreDistinct (names ++ name ∷ [])
distinct_push names name h a = record {
  distinct = λ i j n e f. elim (place_of names name i n e) [
    | inl p ↦ elim (place_of names name j n f) [
      | inl q ↦ h.distinct i j n p q
      | inr q ↦ absurd (not_there name names i a (p ∙ ap Some q.1))
    ]
    | inr p ↦ elim (place_of names name j n f) [
      | inl q ↦ absurd (not_there name names j a (q ∙ ap Some p.1))
      | inr q ↦ p.0 ∙ sym q.0
    ]
  ];
}

pub distinct_none : AreDistinct []
distinct_none = record { distinct = λ i j n e f. cc }
