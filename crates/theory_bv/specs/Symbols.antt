-- The function symbols on bit vectors (SMT-LIB 2.6, theory declaration FixedSizeBitVectors and logic declaration QF_BV),
-- each with its declaration, and how they are written.
use Rattle.std.specs.Prelude.{◌≡◌, ℕ, ◌<◌, Bool, false, ◌==◌, ◌&&◌, not, nat_le, if◌then◌else◌, List, [], ◌∷◌, length, Option, Some, None, codes}
use Rattle.std.specs.List.{list_all, list_any}
use Rattle.std.specs.Option.{option_map}
use Rattle.std.specs.Str.{bytes_eq}
use Rattle.sig_table.specs.declared.theories.NameForm.{NameForm}
use Rattle.sig_table.specs.declared.theories.NameForm.TheVariants.{Plain, Indexed}
use Rattle.theory_bv.specs.declared.index.Index.{Index}
use Rattle.theory_bv.specs.Declarations.{Declaration, concatenation, extraction, unary, binary, associative, predicate, comparison, repetition, extension, rotation, literal}

-- symbols that are declared alike
pub record Group : Type 0 where
  pub symbols : List (List ℕ)
  pub declaration : Declaration

abbrev pub group : List (List ℕ) → Declaration → Group
group symbols declaration = record { symbols = symbols; declaration = declaration }

-- the symbols of the theory, up to bvult, and then those that the logic adds
abbrev pub bv_groups : List Group
bv_groups =
    group (codes "concat" ∷ []) concatenation ∷
    group (codes "extract" ∷ []) extraction ∷
    group (codes "bvnot" ∷ codes "bvneg" ∷ []) unary ∷
    group (codes "bvand" ∷ codes "bvor" ∷ codes "bvadd" ∷ codes "bvmul" ∷ []) associative ∷
    group (codes "bvudiv" ∷ codes "bvurem" ∷ codes "bvshl" ∷ codes "bvlshr" ∷ []) binary ∷
    group (codes "bvult" ∷ []) predicate ∷
    group (codes "bvxor" ∷ []) associative ∷
    group (codes "bvnand" ∷ codes "bvnor" ∷ codes "bvxnor" ∷ []) binary ∷
    group (codes "bvcomp" ∷ []) comparison ∷
    group (codes "bvsub" ∷ codes "bvsdiv" ∷ codes "bvsrem" ∷ codes "bvsmod" ∷ codes "bvashr" ∷ []) binary ∷
    group (codes "repeat" ∷ []) repetition ∷
    group (codes "zero_extend" ∷ codes "sign_extend" ∷ []) extension ∷
    group (codes "rotate_left" ∷ codes "rotate_right" ∷ []) rotation ∷
    group (codes "bvule" ∷ codes "bvugt" ∷ codes "bvuge" ∷ codes "bvslt" ∷ codes "bvsle" ∷ codes "bvsgt" ∷ codes "bvsge" ∷ []) predicate ∷ []

-- the declaration of the first group that has the symbol
abbrev pub declared_in : List Group → List ℕ → Option Declaration
declared_in [] name = None
declared_in (g ∷ gs) name = if list_any (bytes_eq name) g.symbols then Some g.declaration else declared_in gs name

-- the declaration of the symbol in the table
unfoldable pub listed_declaration : List ℕ → Option Declaration
listed_declaration name = declared_in bv_groups name

abbrev pub is_digit : ℕ → Bool
is_digit b = nat_le 48 b && nat_le b 57

-- 0, or digits that do not begin with 0 (section 3.1)
abbrev pub is_numeral : List ℕ → Bool
is_numeral [] = false
is_numeral (b ∷ []) = is_digit b
is_numeral (b ∷ c ∷ bs) = (is_digit b && not (b == 48)) && list_all is_digit (c ∷ bs)

-- bvX with a numeral X
abbrev pub is_literal : List ℕ → Bool
is_literal (b ∷ v ∷ digits) = ((b == 98) && (v == 118)) && is_numeral digits
is_literal (b ∷ []) = false
is_literal [] = false

-- the declaration of the symbol; none where the name is no function symbol on bit vectors
unfoldable pub declaration_of : List ℕ → Option Declaration
declaration_of name = if is_literal name then Some literal else listed_declaration name

-- how a symbol with this declaration is written
abbrev pub form : Declaration → NameForm
form declaration = if declaration.indices == 0 then Plain else Indexed

abbrev pub form_of : List ℕ → Option NameForm
form_of name = option_map form (declaration_of name)

-- the symbol is written with these indices
abbrev pub IsWrittenWith : Option NameForm → List Index → Type 0
IsWrittenWith None is = ⊥
IsWrittenWith (Some Plain) is = length is ≡ 0
IsWrittenWith (Some Indexed) is = 0 < length is
