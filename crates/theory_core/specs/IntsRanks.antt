-- The function symbols of the theory Ints with their ranks, in the order of the standard's theory declaration
-- (SMT-LIB 2.6, section 3.7, and the theory declaration Ints).
use Rattle.std.specs.Prelude.{List, [], ◌∷◌, codes}
use Rattle.sort_store.specs.declared.head.Head.TheVariants as heads
use Rattle.sort_store.specs.Tree.{Sort, sort, no_sorts}
use Rattle.sort_store.specs.Ranks.{left_assoc, chainable, each, many, RankedSymbol, symbol}
use Rattle.sort_store.specs.CoreRanks.{bool}

abbrev pub int : Sort
int = sort heads.Int no_sorts

-- `divisible` stands here with its argument alone: its index is no part of the rank
unfoldable pub ints_symbols : List RankedSymbol
ints_symbols =
    symbol (codes "-") (each (int ∷ [])) int ∷
    symbol (codes "-") (many left_assoc int) int ∷
    symbol (codes "+") (many left_assoc int) int ∷
    symbol (codes "*") (many left_assoc int) int ∷
    symbol (codes "div") (many left_assoc int) int ∷
    symbol (codes "mod") (each (int ∷ int ∷ [])) int ∷
    symbol (codes "abs") (each (int ∷ [])) int ∷
    symbol (codes "<=") (many chainable int) bool ∷
    symbol (codes "<") (many chainable int) bool ∷
    symbol (codes ">=") (many chainable int) bool ∷
    symbol (codes ">") (many chainable int) bool ∷
    symbol (codes "divisible") (each (int ∷ [])) bool ∷ []
