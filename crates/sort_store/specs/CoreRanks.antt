-- The function symbols of the theory Core with their ranks, in the order of the standard's theory declaration
-- (SMT-LIB 2.6, section 3.7, and the theory declaration Core).
use Rattle.std.specs.Prelude.{List, [], ◌∷◌, codes}
use Rattle.sort_store.specs.declared.head.Head.TheVariants as heads
use Rattle.sort_store.specs.Tree.{Sort, sort, no_sorts}
use Rattle.sort_store.specs.Ranks.{left_assoc, right_assoc, chainable, pairwise, each, many, RankedSymbol, symbol, param}

abbrev pub bool : Sort
bool = sort heads.Bool no_sorts

unfoldable pub core_symbols : List RankedSymbol
core_symbols =
    symbol (codes "true") (each []) bool ∷
    symbol (codes "false") (each []) bool ∷
    symbol (codes "not") (each (bool ∷ [])) bool ∷
    symbol (codes "=>") (many right_assoc bool) bool ∷
    symbol (codes "and") (many left_assoc bool) bool ∷
    symbol (codes "or") (many left_assoc bool) bool ∷
    symbol (codes "xor") (many left_assoc bool) bool ∷
    symbol (codes "=") (many chainable (param 0)) bool ∷
    symbol (codes "distinct") (many pairwise (param 0)) bool ∷
    symbol (codes "ite") (each (bool ∷ param 0 ∷ param 0 ∷ [])) (param 0) ∷ []
