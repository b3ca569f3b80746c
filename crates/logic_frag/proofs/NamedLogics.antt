-- The rows of the code have the names of the logics, each with its place among them.
use Rattle.std.proofs.Common.{◌≡◌, ℕ, Bool, true, false, List, [], ◌∷◌, Option, Some, None, slice_get, refl, sym, ◌∙◌, ap, inl, inr}
use Rattle.std.specs.List.{list_all}
use Rattle.std.specs.Cmp.{first_so, second_so}
use Rattle.std.specs.Str.{bytes_eq}
use Rattle.std.proofs.lemmas.Bool.{cases_Bool}
use Rattle.std.proofs.lemmas.Slice.Eq.{bytes_eq-Decides}
use Rattle.sig_table.specs.Row.{Row, codes_of, listed}
use Rattle.logic_frag.specs.Logics.{Description, logic_named, logics, named_in}
use Rattle.logic_frag.specs.Places.{logic_rows}

-- the logic of each row's name is that at its place
abbrev ArePlaced : List Row → Type 0
ArePlaced [] = Unit {0}
ArePlaced (r ∷ rows) = (logic_named r.name ≡ slice_get logics r.code) × ArePlaced rows

rows_placed : ArePlaced logic_rows
unfolding logic_named
rows_placed =
    (refl, (refl, (refl, (refl, (refl, (refl, (refl, (refl, (refl, (refl, (refl, (refl, (refl, (refl, (refl, (refl, (refl, (refl, (refl, (refl, (refl, (refl, (refl, (refl, (refl, (refl, (refl, (refl, tt))))))))))))))))))))))))))))

place_found : (name : List ℕ) (rows : List Row) → ArePlaced rows → (c : ℕ) (cs : List ℕ) → codes_of name rows ≡ c ∷ cs → logic_named name ≡ slice_get logics c
place_found name [] all c cs h = cc
place_found name (r ∷ rows) all c cs h = elim (cases_Bool (bytes_eq r.name name)) [
  | inl same ↦
      let code : r.code ∷ codes_of name rows ≡ c ∷ cs = rw same at h in
      let place : r.code ≡ c = cc in
      sym (ap logic_named ((bytes_eq-Decides r.name name).0 same)) ∙ all.0 ∙ ap (λ n. slice_get logics n) place
  | inr other ↦ place_found name rows all.1 c cs (rw other at h)
]

abbrev is_found : List ℕ → Bool
is_found [] = false
is_found (c ∷ cs) = true

module _ (rows : List Row) where
  -- the rows have the name of each logic
  abbrev have_names : List Description → Bool
  have_names ls = list_all (λ l. is_found (codes_of l.name rows)) ls

  name_missed : (name : List ℕ) (ls : List Description) → have_names ls ≡ true → codes_of name rows ≡ [] → named_in ls name ≡ None
  name_missed name [] all h = refl
  name_missed name (l ∷ ls) all h = elim (cases_Bool (bytes_eq name l.name)) [
    | inl same ↦
        let here : is_found (codes_of l.name rows) ≡ true = first_so (is_found (codes_of l.name rows)) (have_names ls) all in
        let none : is_found (codes_of l.name rows) ≡ false = sym (ap (λ t. is_found (codes_of t rows)) ((bytes_eq-Decides name l.name).0 same)) ∙ ap is_found h in
        cc
    | inr other ↦ rw other (name_missed name ls (second_so (is_found (codes_of l.name rows)) (have_names ls) all) h)
  ]

names_had : have_names logic_rows logics ≡ true
names_had = refl

-- what a table of the rows answers
module _ (name : List ℕ) (rows : List Row) (place : Option ℕ) (same : rows ≡ logic_rows) (found : codes_of name rows ≡ listed place) where
  places_are : codes_of name logic_rows ≡ listed place
  places_are = sym (ap (codes_of name) same) ∙ found

  pub logic-listed : (n : ℕ) → place ≡ Some n → logic_named name ≡ slice_get logics n
  logic-listed n h = place_found name logic_rows rows_placed n [] (places_are ∙ ap listed h)

  pub logic-unlisted : place ≡ None → logic_named name ≡ None
  unfolding logic_named
  logic-unlisted h = name_missed logic_rows name logics names_had (places_are ∙ ap listed h)

pub ruleset named_words = (logic-listed, logic-unlisted)
