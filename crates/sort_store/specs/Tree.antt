-- A sort is a tree of sort symbols. A reference to a sort is that tree with the number of a store's
-- entry at each node.
use Rattle.std.specs.Prelude.{ℕ, suc, ◌+◌, List, [], ◌∷◌}
use Rattle.sort_store.specs.declared.head.Head.{Head}

mutual
  pub data Sort : Type 0 where
    sort : Head → SortList → Sort

  pub data SortList : Type 0 where
    no_sorts : SortList
    more_sorts : Sort → SortList → SortList

mutual
  pub data NumberedSort : Type 0 where
    node : ℕ → Head → NumberedSorts → NumberedSort

  pub data NumberedSorts : Type 0 where
    no_nodes : NumberedSorts
    more_nodes : NumberedSort → NumberedSorts → NumberedSorts

-- lists of trees, as trees hold them and as lists
abbrev pub sorts : List Sort → SortList
sorts [] = no_sorts
sorts (t ∷ ts) = more_sorts t (sorts ts)

abbrev pub nodes : List NumberedSort → NumberedSorts
nodes [] = no_nodes
nodes (r ∷ rs) = more_nodes r (nodes rs)

abbrev pub node_list : NumberedSorts → List NumberedSort
node_list no_nodes = []
node_list (more_nodes r rs) = r ∷ node_list rs

-- the number of the whole sort's entry
abbrev pub number : NumberedSort → ℕ
number (node n h rs) = n

-- the sort symbol
abbrev pub head : NumberedSort → Head
head (node n h rs) = h

-- the arguments
abbrev pub parts : NumberedSort → List NumberedSort
parts (node n h rs) = node_list rs

-- the tree, without numbers
abbrev mutual
  pub tree : NumberedSort → Sort
  tree (node n h rs) = sort h (trees rs)

  pub trees : NumberedSorts → SortList
  trees no_nodes = no_sorts
  trees (more_nodes r rs) = more_sorts (tree r) (trees rs)

-- how many sort symbols stand in a sort
abbrev mutual
  pub node_count : Sort → ℕ
  node_count (sort h ts) = suc (nodes_count ts)

  pub nodes_count : SortList → ℕ
  nodes_count no_sorts = 0
  nodes_count (more_sorts t ts) = node_count t + nodes_count ts
