-- What the answer for a function symbol with argument sorts says.
use Rattle.std.specs.Prelude.{◌≡◌, ℕ, ◌<◌, ◌↔◌, ⊤, List, length, Option, Some, IsSome, IsSomeAnd, IfSome, slice_get}
use Rattle.sort_store.specs.Tree.{Sort}
use Rattle.sort_store.specs.Ranks.{Rank, HasRank}
use Rattle.sort_store.specs.CoreRanks.{bool}
use Rattle.theory_core.specs.declared.rank_found.RankFound.{RankFound}
use Rattle.theory_core.specs.declared.rank_found.RankFound.TheVariants as found
use Rattle.theory_core.specs.IntsRanks.{int}
use Rattle.theory_core.specs.ArraysRanks.{array}

-- the sort that the answer tells, given the argument sorts; `Element` tells the element sort of an array sort
abbrev pub IsFoundSort : RankFound → List Sort → Sort → Type 0
IsFoundSort found.Bool args t = t ≡ bool
IsFoundSort found.Int args t = t ≡ int
IsFoundSort (found.Arg i) args t = slice_get args i ≡ Some t
IsFoundSort (found.Element i) args t = (index : Sort) × (slice_get args i ≡ Some (array index t))

-- the argument that the answer names is one of so many
abbrev pub IsWithin : RankFound → ℕ → Type 0
IsWithin found.Bool count = ⊤
IsWithin found.Int count = ⊤
IsWithin (found.Arg i) count = i < count
IsWithin (found.Element i) count = i < count

-- one of the ranks has an instance with these argument sorts
abbrev pub HasSomeRank : List Rank → List Sort → Type 0
HasSomeRank ranks args = (t : Sort) × HasRank ranks args t

-- the answer tells a sort exactly where it is the result sort of one of the ranks with these argument sorts
abbrev pub TellsResults : Option RankFound → List Rank → List Sort → Type 0
TellsResults answer ranks args = (t : Sort) → IsSomeAnd answer (λ rank. IsFoundSort rank args t) ↔ HasRank ranks args t

-- the clauses on an answer, together
pub record Answers (answer : Option RankFound) (ranks : List Rank) (args : List Sort) : Type 0 where
  pub result : TellsResults answer ranks args
  pub some : IsSome answer ↔ HasSomeRank ranks args
  pub place : IfSome answer (λ rank. IsWithin rank (length args))
