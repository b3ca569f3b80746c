-- A text has no code in the table of reserved words exactly where it is none of them.
use Rattle.std.proofs.Common.{◌≡◌, ℕ, ◌+◌, Bool, true, false, not, List, [], ◌∷◌, refl, ◌∙◌, ap, inl, inr}
use Rattle.std.specs.List.{Contains, list_any}
use Rattle.std.specs.Str.{bytes_eq}
use Rattle.std.proofs.lemmas.Bool.{cases_Bool, false_from_ne_true}
use Rattle.std.proofs.lemmas.Cmp.{nat_list_eq_equiv}
use Rattle.std.proofs.lemmas.Map.Views.{Contains-from_any, list_any-from_Contains}
use Rattle.std.proofs.lemmas.Slice.Eq.{bytes_eq-Decides}
use Rattle.sig_table.specs.Row.{codes_of}
use Rattle.sig_table.specs.Reserved.{numbered_from, reserved_words, reserved_rows}

abbrev is_empty : List ℕ → Bool
is_empty [] = true
is_empty (x ∷ xs) = false

empty_list : (xs : List ℕ) → is_empty xs ≡ true → xs ≡ []
empty_list [] h = refl
empty_list (x ∷ xs) h = cc

-- the rows of some words have a code for a text exactly where a test finds it among the words
codes_of-numbered_from : (text : List ℕ) (n : ℕ) (words : List (List ℕ))
    → is_empty (codes_of text (numbered_from n words)) ≡ not (list_any (bytes_eq text) words)
codes_of-numbered_from text n [] = refl
codes_of-numbered_from text n (word ∷ words) = elim (cases_Bool (bytes_eq word text)) [
  | inl same ↦ rw (nat_list_eq_equiv.symm text word, same) refl
  | inr other ↦ rw (nat_list_eq_equiv.symm text word, other) (codes_of-numbered_from text (n + 1) words)
]

-- a text that is no reserved word has no code
pub no_code-unreserved : (text : List ℕ) → (Contains reserved_words text → ⊥) → codes_of text reserved_rows ≡ []
no_code-unreserved text none =
    let missed : list_any (bytes_eq text) reserved_words ≡ false =
    false_from_ne_true _ (λ found. none (Contains-from_any (λ x y. (bytes_eq-Decides x y).0) text reserved_words found)) in
    empty_list (codes_of text reserved_rows) (codes_of-numbered_from text 1 reserved_words ∙ ap not missed)

-- a text that has no code is no reserved word
pub unreserved-no_code : (text : List ℕ) → codes_of text reserved_rows ≡ [] → Contains reserved_words text → ⊥
unreserved-no_code text h here =
    let found : list_any (bytes_eq text) reserved_words ≡ true = list_any-from_Contains nat_list_eq_equiv text reserved_words here in
    let some : is_empty (codes_of text reserved_rows) ≡ false = codes_of-numbered_from text 1 reserved_words ∙ ap not found in
    let none : is_empty (codes_of text reserved_rows) ≡ true = ap is_empty h in
    cc
