-- Laws of lists of function symbols with their ranks.
use Rattle.std.specs.Prelude.{◌≡◌, ℕ, ◌⊎◌, IsTrue, List}
use Rattle.sort_store.specs.Tree.{Sort}
use Rattle.sort_store.specs.Ranks.{RankedSymbol, is_symbol, ranks_of, HasRank}
use Rattle.theory_core.specs.Answers.{HasSomeRank}

-- no name is among both
abbrev pub AreApart : List RankedSymbol → List RankedSymbol → Type 0
AreApart symbols others = (name : List ℕ) → IsTrue (is_symbol name symbols) → IsTrue (is_symbol name others) → ⊥

-- the name and the argument sorts tell the result sort
abbrev pub HaveOneResult : List RankedSymbol → Type 0
HaveOneResult symbols = (name : List ℕ) (args : List Sort) (t u : Sort) → HasRank (ranks_of name symbols) args t → HasRank (ranks_of name symbols) args u → t ≡ u

-- a name has a rank with these argument sorts or has none
abbrev pub HaveDecidedRanks : List RankedSymbol → Type 0
HaveDecidedRanks symbols = (name : List ℕ) (args : List Sort) → HasSomeRank (ranks_of name symbols) args ⊎ (HasSomeRank (ranks_of name symbols) args → ⊥)
