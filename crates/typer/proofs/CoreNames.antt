-- The names of the functions of Core have the same numbers in every table.
use Rattle.std.proofs.Common.{◌≡◌, ℕ, Bool, true, false, ◌&&◌, List, [], ◌++◌, length, drop, get_or, inl, inr, refl, ap, sym, ◌∙◌, arith}
use Rattle.std.specs.List.{list_all}
use Rattle.std.proofs.Math.Dec.{leb}
use Rattle.std.proofs.lemmas.Bool.{agree_below, agree_below_at, and_parts, cases_lt, le-leb, leb-true}
use Rattle.std.proofs.lemmas.List.{take-append-drop, get_or_past, get_or_append_left}
use Rattle.lex_core.specs.NameTable.{IsNameTable, fixed_texts, number_of}
use Rattle.lex_core.proofs.NameNumbers.{number_at}
use Rattle.sort_store.specs.Ranks.{is_symbol}
use Rattle.sort_store.specs.CoreRanks.{core_symbols}
use Rattle.term_store.specs.SoundTerms.{IsCoreName}
use Rattle.theory_core.proofs.SymbolNames.{at_symbol}

-- of the fixed texts, those from the 47th on are symbols of Core
fixed_symbols : agree_below (λ n. leb 47 n) (λ n. is_symbol (get_or fixed_texts n []) core_symbols) 57 ≡ true
unfolding core_symbols
fixed_symbols = refl

pub core_symbol : (name : ℕ) → IsCoreName name → is_symbol (get_or fixed_texts name []) core_symbols ≡ true
core_symbol name c = sym (agree_below_at (λ n. leb 47 n) (λ n. is_symbol (get_or fixed_texts n []) core_symbols) 57 name fixed_symbols (omega (arith, c.1))) ∙ le-leb 47 name c.0

no_empty_symbol : is_symbol [] core_symbols ≡ false
unfolding core_symbols
no_empty_symbol = refl

abbrev is_core_number : ℕ → Bool
is_core_number n = leb 47 n && leb n 56

core_numbers : (rest : List (List ℕ)) → list_all (λ s. is_core_number (number_of s.name (fixed_texts ++ rest))) core_symbols ≡ true
unfolding core_symbols
core_numbers rest = refl

module _ (texts : List (List ℕ)) (table : IsNameTable texts) where
  begins : texts ≡ fixed_texts ++ drop 57 texts
  begins = sym (take-append-drop 57 texts) ∙ ap (λ xs. xs ++ drop 57 texts) table.fixed

  pub core_text : (name : ℕ) → IsCoreName name → get_or texts name [] ≡ get_or fixed_texts name []
  core_text name c = ap (λ xs. get_or xs name []) begins ∙ get_or_append_left fixed_texts (drop 57 texts) [] name (omega (arith, c.1))

  pub core_name : (name : ℕ) → is_symbol (get_or texts name []) core_symbols ≡ true → IsCoreName name
  core_name name e = elim (cases_lt name (length texts)) [
    | inl within ↦ (let text = get_or texts name [] in
        let number : number_of text (fixed_texts ++ drop 57 texts) ≡ name = ap (number_of text) (sym begins) ∙ number_at texts name table.distinct within in
        let at : is_core_number (number_of text (fixed_texts ++ drop 57 texts)) ≡ true =
        at_symbol (λ n. is_core_number (number_of n (fixed_texts ++ drop 57 texts))) core_symbols text (core_numbers (drop 57 texts)) e in
        let parts = and_parts (leb 47 name) (leb name 56) (ap is_core_number (sym number) ∙ at) in (leb-true 47 name parts.0, leb-true name 56 parts.1))
    | inr past ↦ (let none : is_symbol (get_or texts name []) core_symbols ≡ false = ap (λ text. is_symbol text core_symbols) (get_or_past texts name [] past) ∙ no_empty_symbol in cc)
  ]
