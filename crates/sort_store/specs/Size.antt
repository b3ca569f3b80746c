-- A sort has more nodes than each of its arguments.
use Rattle.std.specs.Prelude.{ℕ, ◌+◌, ◌≤◌, List, [], ◌∷◌}
use Rattle.std.proofs.Common.{arith}
use denote.Param.Weighed.{most}
use Rattle.sort_store.specs.Tree.{NumberedSort, nodes, tree, trees, node_count, nodes_count}

-- the nodes of a sort, and those of some sorts together
abbrev pub size_of : NumberedSort → ℕ
size_of r = node_count (tree r)

abbrev pub size_of_all : List NumberedSort → ℕ
size_of_all rs = nodes_count (trees (nodes rs))

pub most_le-nodes_count : (rs : List NumberedSort) → most (λ r. size_of r + 1) rs ≤ nodes_count (trees (nodes rs)) + 1
most_le-nodes_count [] = omega arith
most_le-nodes_count (r ∷ rs) = omega (arith, most_le-nodes_count rs)
