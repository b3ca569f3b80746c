-- The table of reserved words finds a text exactly where it is one of them.
use Rattle.std.proofs.Common.{◌≡◌, ℕ, true, false, not, List, [], ◌∷◌, Option, Some, None, map, refl, sym, ◌∙◌, ap, inl, inr}
use Rattle.std.specs.List.{list_any, list_all}
use Rattle.std.specs.Prelude.{slice_get}
use Rattle.std.specs.Option.{is_some}
use Rattle.std.specs.Str.{bytes_eq}
use Rattle.std.proofs.lemmas.Bool.{cases_Bool, false_from_ne_true}
use Rattle.std.proofs.lemmas.Slice.Eq.{bytes_eq-Decides}
use Rattle.lex_core.specs.Bytes.{is_digit, is_symbol_byte}
use Rattle.lex_core.specs.Spelling.{is_empty, is_symbol_word}
use Rattle.sig_table.specs.Row.{Row, codes_of, listed}

listed_some : (o : Option ℕ) → not (is_empty (listed o)) ≡ is_some o
listed_some None = refl
listed_some (Some code) = refl

eq_turned : (s t : List ℕ) → bytes_eq s t ≡ true → bytes_eq t s ≡ true
eq_turned s t h = (bytes_eq-Decides t s).1 (sym ((bytes_eq-Decides s t).0 h))

codes_any : (text : List ℕ) (rows : List Row) → not (is_empty (codes_of text rows)) ≡ list_any (bytes_eq text) (map (λ row. row.name) rows)
codes_any text [] = refl
codes_any text (row ∷ rows) = elim (cases_Bool (bytes_eq row.name text)) [
  | inl same ↦ rw (same, eq_turned row.name text same) refl
  | inr other ↦ (let turned : bytes_eq text row.name ≡ false = false_from_ne_true (bytes_eq text row.name) (λ same. let k = eq_turned text row.name same in cc) in
      rw (other, turned) (codes_any text rows))
]

pub found_any : (text : List ℕ) (rows : List Row) (found : Option ℕ) → codes_of text rows ≡ listed found → is_some found ≡ list_any (bytes_eq text) (map (λ row. row.name) rows)
found_any text rows found h = sym (listed_some found) ∙ ap (λ codes. not (is_empty codes)) (sym h) ∙ codes_any text rows

-- the bytes of a symbol, where the first is no digit
pub symbol_word_from : (text : List ℕ) (first : ℕ) → Some first ≡ slice_get text 0 → is_digit first ≡ false → list_all is_symbol_byte text ≡ is_symbol_word text
symbol_word_from [] first h k = cc
symbol_word_from (b ∷ bs) first h k =
    let e : first ≡ b = cc in
    let no : is_digit b ≡ false = ap is_digit (sym e) ∙ k in rw no refl
