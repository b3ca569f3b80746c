-- The rules on terms and atoms over the integers (SMT-LIB 2.6, theory declaration Ints).
use Rattle.std.specs.Prelude.{◌≡◌, ℕ, ◌<◌, ◌≤◌, ◌⊎◌, IsTrue, List, [], ◌∷◌, None, Some, codes, slice_get}
use Rattle.std.specs.List.{All, Contains}
use Rattle.lex_core.specs.declared.token.TokKind.TheVariants as token
use Rattle.sort_store.specs.declared.head.Head.TheVariants as head
use Rattle.sort_store.specs.Tree.{Sort, sort, no_sorts}
use Rattle.term_store.specs.declared.parts.Fun.{Fun}
use Rattle.term_store.specs.declared.parts.Fun.TheVariants as fun
use Rattle.term_store.specs.Term.{PlainTerm, Terms, term, lit, var, app, no_terms, more_terms, plain_sort}
use Rattle.logic_frag.specs.Occurrences.{Occurrence, Scope, is_quantified, seen_in}
use Rattle.logic_frag.specs.StandsFor.{Context, StandsFor, definition_at}

abbrev pub int : Sort
int = sort head.Int no_sorts

abbrev pub HasSortInt : Occurrence → Type 0
HasSortInt o = plain_sort o.its ≡ int

abbrev pub each_seen_in : Scope → Terms (Unit {0}) Sort → List Occurrence
each_seen_in scope no_terms = []
each_seen_in scope (more_terms t ts) = seen_in scope t ∷ each_seen_in scope ts

-- the term applies the theory function of this name to these arguments
abbrev pub TermApplies : Context → Scope → PlainTerm → List ℕ → List Occurrence → Type 0
TermApplies context scope (term u s (app f ts)) name args = (f.fun ≡ fun.Theory) × (slice_get context.texts f.name ≡ Some name) × (args ≡ each_seen_in scope ts)
TermApplies context scope _ name args = ⊥

abbrev pub Applies : Context → Occurrence → List ℕ → List Occurrence → Type 0
Applies context o name args = TermApplies context o.scope o.its name args

pub record StandsForApplication (context : Context) (o : Occurrence) (name : List ℕ) (args : List Occurrence) : Type 0 where
  pub application : Occurrence
  pub stands : StandsFor context o application
  pub applies : Applies context application name args

-- Coefficients.

abbrev pub IsNumeral : Context → PlainTerm → List ℕ → Type 0
IsNumeral context (term u s (lit token.Numeral n)) text = slice_get context.texts n ≡ Some text
IsNumeral context _ text = ⊥

pub record StandsForNumeral (context : Context) (o : Occurrence) (text : List ℕ) : Type 0 where
  pub numeral : Occurrence
  pub stands : StandsFor context o numeral
  pub spelt : IsNumeral context numeral.its text

-- the term stands for minus a numeral
pub record StandsForNegative (context : Context) (o : Occurrence) (text : List ℕ) : Type 0 where
  pub arg : Occurrence
  pub minus : StandsForApplication context o (codes "-") (arg ∷ [])
  pub numeral : StandsForNumeral context arg text

abbrev pub IsCoefficientBy : Context → Occurrence → List ℕ → Type 0
IsCoefficientBy context o text = StandsForNumeral context o text ⊎ StandsForNegative context o text

abbrev pub IsCoefficient : Context → Occurrence → Type 0
IsCoefficient context o = (text : List ℕ) × IsCoefficientBy context o text

abbrev pub IsZero : Context → Occurrence → Type 0
IsZero context o = IsCoefficientBy context o (codes "0")

-- Linear terms.

-- a product of two arguments or more that are no coefficients
pub record IsNonlinearProduct (context : Context) (o : Occurrence) : Type 0 where
  pub args : List Occurrence
  pub product : Applies context o (codes "*") args
  pub first_at : ℕ
  pub second_at : ℕ
  pub apart : first_at < second_at
  pub first : Occurrence
  pub second : Occurrence
  pub first_is : slice_get args first_at ≡ Some first
  pub second_is : slice_get args second_at ≡ Some second
  pub first_no_coefficient : IsCoefficient context first → ⊥
  pub second_no_coefficient : IsCoefficient context second → ⊥

-- a quotient or a remainder by what is no coefficient, or is zero
pub record IsNonlinearQuotient (context : Context) (o : Occurrence) : Type 0 where
  pub args : List Occurrence
  pub quotient : Applies context o (codes "div") args ⊎ Applies context o (codes "mod") args
  pub divisor_at : ℕ
  pub past_first : 1 ≤ divisor_at
  pub divisor : Occurrence
  pub divisor_is : slice_get args divisor_at ≡ Some divisor
  pub no_divisor : (IsCoefficient context divisor → ⊥) ⊎ IsZero context divisor

abbrev pub IsNonlinear : Context → Occurrence → Type 0
IsNonlinear context o = IsNonlinearProduct context o ⊎ IsNonlinearQuotient context o

-- Difference logic.

-- a function without a definition
abbrev pub IsDeclaredOnly : Context → Fun → Type 0
IsDeclaredOnly context (fun.Declared d) = (definition_at context.kept d ≡ None) × (Contains context.own d → ⊥)
IsDeclaredOnly context _ = ⊥

-- a declared constant, a quantified variable or a parameter
abbrev pub IsUnknown : Context → Scope → PlainTerm → Type 0
IsUnknown context scope (term u s (app f no_terms)) = IsDeclaredOnly context f.fun
IsUnknown context scope (term u s (var n)) = IsTrue (is_quantified scope n)
IsUnknown context scope _ = ⊥

pub record IsAtomVariable (context : Context) (o : Occurrence) : Type 0 where
  pub unknown : Occurrence
  pub stands : StandsFor context o unknown
  pub is_unknown : IsUnknown context unknown.scope unknown.its
  pub of_int : HasSortInt o

-- the term stands for x + c, c + x or x - c, with an atom variable x and a coefficient c
pub record IsOffset (context : Context) (o : Occurrence) : Type 0 where
  pub variable : Occurrence
  pub offset : Occurrence
  pub is_variable : IsAtomVariable context variable
  pub is_offset : IsCoefficient context offset
  pub is_sum : StandsForApplication context o (codes "+") (variable ∷ offset ∷ [])
      ⊎ (StandsForApplication context o (codes "+") (offset ∷ variable ∷ []) ⊎ StandsForApplication context o (codes "-") (variable ∷ offset ∷ []))

abbrev pub IsSide : Context → Occurrence → Type 0
IsSide context o = IsAtomVariable context o ⊎ (IsCoefficient context o ⊎ IsOffset context o)

-- the term stands for x - y with two atom variables
pub record IsDifference (context : Context) (o : Occurrence) : Type 0 where
  pub first : Occurrence
  pub second : Occurrence
  pub is_first : IsAtomVariable context first
  pub is_second : IsAtomVariable context second
  pub minus : StandsForApplication context o (codes "-") (first ∷ second ∷ [])

-- all arguments are sides, or one of two is a difference and the other a coefficient
abbrev pub AreComparable : Context → List Occurrence → Type 0
AreComparable context (a ∷ b ∷ []) = (IsSide context a × IsSide context b) ⊎ ((IsDifference context a × IsCoefficient context b) ⊎ (IsCoefficient context a × IsDifference context b))
AreComparable context args = All (IsSide context) args

abbrev pub relations : List (List ℕ)
relations = codes "=" ∷ codes "distinct" ∷ codes "<" ∷ codes "<=" ∷ codes ">" ∷ codes ">=" ∷ []

-- a relation on the integers between arguments of another form
pub record IsOtherComparison (context : Context) (o : Occurrence) : Type 0 where
  pub args : List Occurrence
  pub at : ℕ
  pub name : List ℕ
  pub is_relation : slice_get relations at ≡ Some name
  pub applies : Applies context o name args
  pub on_int : All HasSortInt args
  pub not_comparable : AreComparable context args → ⊥

-- a term of sort Int that is neither a side nor a difference
pub record IsOtherInteger (context : Context) (o : Occurrence) : Type 0 where
  pub of_int : HasSortInt o
  pub no_side : IsSide context o → ⊥
  pub no_difference : IsDifference context o → ⊥

abbrev pub IsDivisibility : Context → Occurrence → Type 0
IsDivisibility context o = (args : List Occurrence) × Applies context o (codes "divisible") args

abbrev pub IsOutsideDifference : Context → Occurrence → Type 0
IsOutsideDifference context o = IsOtherInteger context o ⊎ (IsDivisibility context o ⊎ IsOtherComparison context o)
