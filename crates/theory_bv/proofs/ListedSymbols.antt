-- The rows of the code have the symbols of the standard's groups, each with its declaration.
use Rattle.std.proofs.Common.{◌≡◌, ℕ, Bool, true, false, List, [], ◌∷◌, Option, Some, None, refl, sym, ◌∙◌, ap, inl, inr}
use Rattle.std.specs.List.{list_all, list_any}
use Rattle.std.specs.Cmp.{first_so, second_so}
use Rattle.std.specs.Str.{bytes_eq}
use Rattle.std.proofs.lemmas.Bool.{cases_Bool}
use Rattle.std.proofs.lemmas.Slice.Eq.{bytes_eq-Decides}
use Rattle.sig_table.specs.Row.{Row, codes_of, listed}
use Rattle.theory_bv.specs.declared.shape.Shape.{Shape}
use Rattle.theory_bv.specs.Declarations.{Declaration}
use Rattle.theory_bv.specs.Shapes.{bv_rows, shape_declaration, shape_numbered}
use Rattle.theory_bv.specs.Symbols.{Group, bv_groups, declared_in, listed_declaration}

abbrev numbered_declaration : ℕ → Declaration
numbered_declaration n = shape_declaration (shape_numbered n)

-- the groups declare the symbol of each row, with the declaration of its number
abbrev AreDeclared : List Row → Type 0
AreDeclared [] = Unit {0}
AreDeclared (r ∷ rows) = (listed_declaration r.name ≡ Some (numbered_declaration r.code)) × AreDeclared rows

rows_declared : AreDeclared bv_rows
unfolding listed_declaration
rows_declared =
    (refl, (refl, (refl, (refl, (refl, (refl, (refl, (refl, (refl, (refl, (refl, (refl, (refl, (refl, (refl, (refl, (refl, (refl, (refl, (refl, (refl, (refl, (refl, (refl, (refl, (refl, (refl, (refl, (refl, (refl, (refl, (refl, (refl, (refl, (refl, tt)))))))))))))))))))))))))))))))))))

declaration_found : (name : List ℕ) (rows : List Row) → AreDeclared rows → (c : ℕ) (cs : List ℕ) → codes_of name rows ≡ c ∷ cs → listed_declaration name ≡ Some (numbered_declaration c)
declaration_found name [] all c cs h = cc
declaration_found name (r ∷ rows) all c cs h = elim (cases_Bool (bytes_eq r.name name)) [
  | inl same ↦
      let code : r.code ∷ codes_of name rows ≡ c ∷ cs = rw same at h in
      let number : r.code ≡ c = cc in
      sym (ap listed_declaration ((bytes_eq-Decides r.name name).0 same)) ∙ all.0 ∙ ap (λ n. Some (numbered_declaration n)) number
  | inr other ↦ declaration_found name rows all.1 c cs (rw other at h)
]

abbrev is_found : List ℕ → Bool
is_found [] = false
is_found (c ∷ cs) = true

module _ (rows : List Row) where
  -- the rows have each symbol of the groups
  abbrev have_symbols : List (List ℕ) → Bool
  have_symbols symbols = list_all (λ s. is_found (codes_of s rows)) symbols

  abbrev have_groups : List Group → Bool
  have_groups groups = list_all (λ g. have_symbols g.symbols) groups

  symbol_missed : (name : List ℕ) (symbols : List (List ℕ)) → have_symbols symbols ≡ true → codes_of name rows ≡ [] → list_any (bytes_eq name) symbols ≡ false
  symbol_missed name [] all h = refl
  symbol_missed name (s ∷ symbols) all h = elim (cases_Bool (bytes_eq name s)) [
    | inl same ↦
        let here : is_found (codes_of s rows) ≡ true = first_so (is_found (codes_of s rows)) (have_symbols symbols) all in
        let none : is_found (codes_of s rows) ≡ false = sym (ap (λ t. is_found (codes_of t rows)) ((bytes_eq-Decides name s).0 same)) ∙ ap is_found h in
        cc
    | inr other ↦ rw other (symbol_missed name symbols (second_so (is_found (codes_of s rows)) (have_symbols symbols) all) h)
  ]

  declaration_missed : (name : List ℕ) (groups : List Group) → have_groups groups ≡ true → codes_of name rows ≡ [] → declared_in groups name ≡ None
  declaration_missed name [] all h = refl
  declaration_missed name (g ∷ groups) all h =
      let missed : list_any (bytes_eq name) g.symbols ≡ false = symbol_missed name g.symbols (first_so (have_symbols g.symbols) (have_groups groups) all) h in
      rw missed (declaration_missed name groups (second_so (have_symbols g.symbols) (have_groups groups) all) h)

groups_had : have_groups bv_rows bv_groups ≡ true
groups_had = refl

-- what a table of the rows answers
module _ (name : List ℕ) (rows : List Row) (code : Option ℕ) (same : rows ≡ bv_rows) (found : codes_of name rows ≡ listed code) where
  codes_are : codes_of name bv_rows ≡ listed code
  codes_are = sym (ap (codes_of name) same) ∙ found

  pub declaration-listed : (n : ℕ) (shape : Shape) → code ≡ Some n → shape ≡ shape_numbered n → listed_declaration name ≡ Some (shape_declaration shape)
  declaration-listed n shape h e = declaration_found name bv_rows rows_declared n [] (codes_are ∙ ap listed h) ∙ ap (λ s. Some (shape_declaration s)) (sym e)

  pub declaration-unlisted : code ≡ None → listed_declaration name ≡ None
  unfolding listed_declaration
  declaration-unlisted h = declaration_missed bv_rows name bv_groups groups_had (codes_are ∙ ap listed h)

pub ruleset listed_words = (declaration-listed, declaration-unlisted)
