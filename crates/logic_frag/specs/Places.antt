-- The table of the code: the name of each logic, in ascending order of the bytes, with its place among the logics.
use Rattle.std.specs.Prelude.{ℕ, List, [], ◌∷◌, codes}
use Rattle.sig_table.specs.Row.{Row}

abbrev pub row : List ℕ → ℕ → Row
row name place = record { name = name; code = place }

abbrev pub logic_rows : List Row
logic_rows =
    row (codes "ABV") 19 ∷
    row (codes "ALL") 27 ∷
    row (codes "AUFBV") 21 ∷
    row (codes "AUFLIA") 13 ∷
    row (codes "BV") 15 ∷
    row (codes "LIA") 4 ∷
    row (codes "NIA") 8 ∷
    row (codes "QF_ABV") 18 ∷
    row (codes "QF_AUFBV") 20 ∷
    row (codes "QF_AUFLIA") 12 ∷
    row (codes "QF_AX") 11 ∷
    row (codes "QF_BV") 14 ∷
    row (codes "QF_DT") 22 ∷
    row (codes "QF_IDL") 2 ∷
    row (codes "QF_LIA") 3 ∷
    row (codes "QF_NIA") 7 ∷
    row (codes "QF_UF") 0 ∷
    row (codes "QF_UFBV") 16 ∷
    row (codes "QF_UFDT") 23 ∷
    row (codes "QF_UFDTLIA") 25 ∷
    row (codes "QF_UFLIA") 5 ∷
    row (codes "QF_UFNIA") 9 ∷
    row (codes "UF") 1 ∷
    row (codes "UFBV") 17 ∷
    row (codes "UFDT") 24 ∷
    row (codes "UFDTLIA") 26 ∷
    row (codes "UFLIA") 6 ∷
    row (codes "UFNIA") 10 ∷ []
