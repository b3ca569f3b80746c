-- The logics (SMT-LIB 2.6, section 5.5) that a script can set. What each allows is this project's own choice; a published
-- logic of the same name may allow other things.
use Rattle.std.specs.Prelude.{ℕ, Bool, true, false, ◌==◌, if◌then◌else◌, List, [], ◌∷◌, Option, Some, None, codes}
use Rattle.std.specs.List.{list_any}
use Rattle.std.specs.Str.{bytes_eq}
use Rattle.logic_frag.specs.declared.logic.ArrayPart.{ArrayPart}
use Rattle.logic_frag.specs.declared.logic.ArrayPart.TheVariants as arrays
use Rattle.logic_frag.specs.declared.logic.Logic.{Logic}
use Rattle.logic_frag.specs.declared.logic.NumPart.{NumPart}
use Rattle.logic_frag.specs.declared.logic.NumPart.TheVariants as ints

-- what a logic allows beside Core
pub record Description : Type 0 where
  pub name : List ℕ
  -- quantifiers
  pub q : Bool
  -- declared sorts
  pub s : Bool
  -- declared functions with arguments
  pub f : Bool
  -- datatypes
  pub d : Bool
  -- recursive definitions
  pub r : Bool
  pub ints : NumPart
  pub arrays : ArrayPart
  pub bits : Bool

abbrev pub described : Logic → Description
described l = record { name = l.name.now; q = l.q; s = l.s; f = l.f; d = l.d; r = l.r; ints = l.ints; arrays = l.arrays; bits = l.bits }

-- the letter stands among these
abbrev pub has_letter : ℕ → List ℕ → Bool
has_letter letter letters = list_any (λ b. b == letter) letters

-- a logic that allows what the letters q, s, f, d and r say, each by its code
abbrev pub logic : List ℕ → List ℕ → NumPart → ArrayPart → Bool → Description
logic name letters ints arrays bits =
    record { name = name; q = has_letter 113 letters; s = has_letter 115 letters; f = has_letter 102 letters; d = has_letter 100 letters; r = has_letter 114 letters; ints = ints; arrays = arrays; bits = bits }

abbrev pub logics : List Description
logics =
    logic (codes "QF_UF") (codes "s f") ints.Absent arrays.Absent false ∷
    logic (codes "UF") (codes "q s f r") ints.Absent arrays.Absent false ∷
    logic (codes "QF_IDL") (codes "") ints.Difference arrays.Absent false ∷
    logic (codes "QF_LIA") (codes "") ints.Linear arrays.Absent false ∷
    logic (codes "LIA") (codes "q") ints.Linear arrays.Absent false ∷
    logic (codes "QF_UFLIA") (codes "s f") ints.Linear arrays.Absent false ∷
    logic (codes "UFLIA") (codes "q s f r") ints.Linear arrays.Absent false ∷
    logic (codes "QF_NIA") (codes "") ints.Any arrays.Absent false ∷
    logic (codes "NIA") (codes "q") ints.Any arrays.Absent false ∷
    logic (codes "QF_UFNIA") (codes "s f") ints.Any arrays.Absent false ∷
    logic (codes "UFNIA") (codes "q s f r") ints.Any arrays.Absent false ∷
    logic (codes "QF_AX") (codes "s") ints.Absent arrays.Any false ∷
    logic (codes "QF_AUFLIA") (codes "s f") ints.Linear arrays.Ints false ∷
    logic (codes "AUFLIA") (codes "q s f r") ints.Linear arrays.Ints false ∷
    logic (codes "QF_BV") (codes "") ints.Absent arrays.Absent true ∷
    logic (codes "BV") (codes "q") ints.Absent arrays.Absent true ∷
    logic (codes "QF_UFBV") (codes "s f") ints.Absent arrays.Absent true ∷
    logic (codes "UFBV") (codes "q s f r") ints.Absent arrays.Absent true ∷
    logic (codes "QF_ABV") (codes "") ints.Absent arrays.Bits true ∷
    logic (codes "ABV") (codes "q") ints.Absent arrays.Bits true ∷
    logic (codes "QF_AUFBV") (codes "s f") ints.Absent arrays.Bits true ∷
    logic (codes "AUFBV") (codes "q s f r") ints.Absent arrays.Bits true ∷
    logic (codes "QF_DT") (codes "s d") ints.Absent arrays.Absent false ∷
    logic (codes "QF_UFDT") (codes "s f d") ints.Absent arrays.Absent false ∷
    logic (codes "UFDT") (codes "q s f d r") ints.Absent arrays.Absent false ∷
    logic (codes "QF_UFDTLIA") (codes "s f d") ints.Linear arrays.Absent false ∷
    logic (codes "UFDTLIA") (codes "q s f d r") ints.Linear arrays.Absent false ∷
    logic (codes "ALL") (codes "q s f d r") ints.Any arrays.Any true ∷ []

abbrev pub named_in : List Description → List ℕ → Option Description
named_in [] name = None
named_in (l ∷ ls) name = if bytes_eq name l.name then Some l else named_in ls name

-- the logic of this name
unfoldable pub logic_named : List ℕ → Option Description
logic_named name = named_in logics name
