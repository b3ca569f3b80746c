-- The table of a store leads from a head and the arguments' numbers to the sort.
use Rattle.std.specs.Prelude.{◌≡◌, ℕ, List, map, Some, slice_get}
use Rattle.std.specs.List.{All}
use Rattle.std.specs.Map.{values_of}
use Rattle.sort_store.specs.declared.sort_key.SortKey.{SortKey}
use Rattle.sort_store.specs.Tree.{NumberedSort, number, head, parts}
use Rattle.sort_store.specs.Interned.{IsStore}

abbrev pub IsSameKey : SortKey → SortKey → Type 0
IsSameKey a b = (a.head ≡ b.head) × (a.args.items ≡ b.args.items)

-- the value at a key that is the same
abbrev pub MapsTo : List (SortKey × NumberedSort) → SortKey → NumberedSort → Type 0
MapsTo entries key r = (k : ℕ) × (e : SortKey × NumberedSort) × (slice_get entries k ≡ Some e) × IsSameKey key e.0 × (e.1 ≡ r)

-- no key is the same
abbrev pub LacksKey : List (SortKey × NumberedSort) → SortKey → Type 0
LacksKey entries key = (k : ℕ) (e : SortKey × NumberedSort) → slice_get entries k ≡ Some e → IsSameKey key e.0 → ⊥

pub record IsKeyOf (e : SortKey × NumberedSort) : Type 0 where
  pub heads : e.0.head ≡ head e.1
  pub numbers : e.0.args.items ≡ map number (parts e.1)

pub record IsKeyedStore (entries : List (SortKey × NumberedSort)) : Type 0 where
  pub stored : IsStore (values_of entries)
  pub keyed : All IsKeyOf entries
