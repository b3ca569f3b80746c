-- How deep the canonical text of a sort nests: the greatest number of lists round a place in it.
-- A head alone is an atom, but for `(_ BitVec m)`, which is a list; with arguments it is the list of
-- the head and the arguments.
use Rattle.std.specs.Prelude.{ℕ, suc, max, List}
use Rattle.sort_store.specs.declared.head.Head.{Head}
use Rattle.sort_store.specs.declared.head.Head.TheVariants as H
use Rattle.sort_store.specs.Tree.{Sort, sort, SortList, no_sorts, more_sorts, NumberedSort, nodes, trees}

abbrev pub head_depth : Head → ℕ
head_depth (H.BitVec m) = 1
head_depth _ = 0

-- one list round a head and arguments, given how deep the head and the arguments are
abbrev pub list_depth : ℕ → SortList → ℕ → ℕ
list_depth head no_sorts inside = head
list_depth head (more_sorts t ts) inside = suc (max head inside)

abbrev mutual
  pub depth : Sort → ℕ
  depth (sort h ts) = list_depth (head_depth h) ts (depth_each ts)

  pub depth_each : SortList → ℕ
  depth_each no_sorts = 0
  depth_each (more_sorts t ts) = max (depth t) (depth_each ts)

abbrev pub depth_all : List NumberedSort → ℕ
depth_all rs = depth_each (trees (nodes rs))
