-- A store is the list of its trees. A sort is interned in it where the tree at the sort's number is
-- the sort's tree, and so for its parts.
use Rattle.std.specs.Prelude.{◌≡◌, ℕ, ◌⊎◌, List, [], ◌∷◌, ◌++◌, Some, slice_get, map, take}
use Rattle.std.specs.List.{All, Contains}
use Rattle.sort_store.specs.Tree.{Sort, sort, NumberedSort, node, NumberedSorts, no_nodes, more_nodes, nodes, tree, trees, number, parts}

abbrev mutual
  pub IsInterned : List Sort → NumberedSort → Type 0
  IsInterned store (node n h rs) = (slice_get store n ≡ Some (sort h (trees rs))) × AreInterned store rs

  pub AreInterned : List Sort → NumberedSorts → Type 0
  AreInterned store no_nodes = Unit {0}
  AreInterned store (more_nodes r rs) = IsInterned store r × AreInterned store rs

abbrev pub AllInterned : List Sort → List NumberedSort → Type 0
AllInterned store rs = AreInterned store (nodes rs)

-- no tree stands at two places
pub record HasNoRepeats (store : List Sort) : Type 0 where
  pub distinct : (i j : ℕ) (t : Sort) → slice_get store i ≡ Some t → slice_get store j ≡ Some t → i ≡ j

-- both are interned in one store without repeats
pub record InternedTogether (a b : NumberedSort) : Type 0 where
  pub store : List Sort
  pub distinct : HasNoRepeats store
  pub first : IsInterned store a
  pub second : IsInterned store b

-- the store has the tree, which came last if it was new
abbrev pub Interns : List Sort → List Sort → Sort → Type 0
Interns old new t = (Contains old t × (new ≡ old)) ⊎ ((Contains old t → ⊥) × (new ≡ old ++ t ∷ []))

-- what is true of the list of the sorts that a store made
pub record IsStore (made : List NumberedSort) : Type 0 where
  pub interned : All (IsInterned (map tree made)) made
  -- an entry's number is its place, and its parts precede it: so the first entries alone are a store
  pub parts_precede : (k : ℕ) (r : NumberedSort) → slice_get made k ≡ Some r → (number r ≡ k) × AllInterned (take k (map tree made)) (parts r)
  pub distinct : HasNoRepeats (map tree made)

-- the store gained trees at its end, or none
abbrev pub Grows : List Sort → List Sort → Type 0
Grows old new = (more : List Sort) × (new ≡ old ++ more)
