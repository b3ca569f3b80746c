-- The function symbols of the theory ArraysEx with their ranks, in the order of the standard's theory declaration
-- (SMT-LIB 2.6, section 3.7, and the theory declaration ArraysEx).
use Rattle.std.specs.Prelude.{List, [], ◌∷◌, codes}
use Rattle.sort_store.specs.declared.head.Head.TheVariants as heads
use Rattle.sort_store.specs.Tree.{Sort, sort, no_sorts, more_sorts}
use Rattle.sort_store.specs.Ranks.{each, RankedSymbol, symbol, param}

-- the arrays with this index sort and this element sort
abbrev pub array : Sort → Sort → Sort
array index element = sort heads.Array (more_sorts index (more_sorts element no_sorts))

unfoldable pub arrays_symbols : List RankedSymbol
arrays_symbols =
    symbol (codes "select") (each (array (param 0) (param 1) ∷ param 0 ∷ [])) (param 1) ∷
    symbol (codes "store") (each (array (param 0) (param 1) ∷ param 0 ∷ param 1 ∷ [])) (array (param 0) (param 1)) ∷ []
