-- What the lists of the code hold while a group is judged.
use Rattle.std.specs.Prelude.{◌≡◌, ◌≤◌, ◌⊎◌, ⊤, List, [], ◌∷◌, ◌++◌, Result, Ok, Err, length, map}
use Rattle.std.specs.List.{Contains}
use Rattle.std.specs.Prelude.{Vec}
use Rattle.std.specs.Global.{Global}
use Rattle.sort_store.specs.Interned.{AllInterned, HasNoRepeats}
use Rattle.sort_store.specs.Tree.{Sort, NumberedSort, tree, node_count}
use Rattle.term_store.specs.Command.{PlainDatatype}
use Rattle.dt_rules.specs.declared.error.DtError.{DtError}
use Rattle.dt_rules.specs.declared.error.DtError.TheVariants as error
use Rattle.dt_rules.specs.Unfolding.{IsMember, IsTooWide}

-- some members of the unfolding
pub record AreMembers (known group : List PlainDatatype) (store : List Sort) (rs : List NumberedSort) : Type 0 where
  pub interned : AllInterned store rs
  pub members : (s : Sort) → Contains (map tree rs) s → IsMember known group s
  pub distinct : HasNoRepeats (map tree rs)
  pub few : length rs ≤ 2000
  pub small : (s : Sort) → Contains (map tree rs) s → node_count s ≤ 1000

abbrev pub Extends : List NumberedSort → List NumberedSort → Type 0
Extends old new = (more : List NumberedSort) × (new ≡ old ++ more)

-- the sort is in the list, where it came last if it was not in it
abbrev pub HasAdded : List NumberedSort → List NumberedSort → NumberedSort → Type 0
HasAdded old new r = (Contains (map tree old) (tree r) × (new ≡ old)) ⊎ ((Contains (map tree old) (tree r) → ⊥) × (new ≡ old ++ r ∷ []) × (length new ≤ 2000))

pub record HasGained (known group : List PlainDatatype) (added : Sort → Type 0) (store : List Sort) (old new : List NumberedSort) : Type 0 where
  pub still : AreMembers known group store new
  pub more : Extends old new
  pub has : (s : Sort) → added s → Contains (map tree new) s

-- what a call leads to that puts sorts into the list
abbrev pub Gains : Result (Unit {0}) DtError → List PlainDatatype → List PlainDatatype → (Sort → Type 0) → List Sort → List NumberedSort → List NumberedSort → Type 0
Gains (Ok u) known group added store old new = HasGained known group added store old new
Gains (Err error.TooWide) known group added store old new = IsTooWide known group
Gains (Err (error.NotSettled i)) known group added store old new = ⊥
Gains (Err error.NoMemory) known group added store old new = ⊤

-- all members of the unfolding, and nothing else
pub record IsUnfolding (known group : List PlainDatatype) (store : List Sort) (rs : List NumberedSort) : Type 0 where
  pub listed : AreMembers known group store rs
  pub whole : (s : Sort) → IsMember known group s → Contains (map tree rs) s

abbrev pub Unfolds : Result (Vec NumberedSort Global) DtError → List PlainDatatype → List PlainDatatype → List Sort → Type 0
Unfolds (Ok v) known group store = IsUnfolding known group store v.items
Unfolds (Err error.TooWide) known group store = IsTooWide known group
Unfolds (Err (error.NotSettled i)) known group store = ⊥
Unfolds (Err error.NoMemory) known group store = ⊤
