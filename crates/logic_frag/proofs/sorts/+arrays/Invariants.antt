use Rattle.std.proofs.Common.{◌≡◌, ◌+◌, ◌*◌, drop}
use Rattle.sort_store.specs.Tree.{tree, trees, nodes, parts, node_count}
use Rattle.logic_frag.specs.SortSearch.{any_has_sort, is_other_array}
use Rattle.logic_frag.proofs.sorts.+arrays.Given as goal

abbrev pub decreases-has_other_array : goal.decreases-has_other_array
decreases-has_other_array l = 2 * node_count (tree l.sort.now) + 1

abbrev pub decreases-has_other_array_at : goal.decreases-has_other_array_at
decreases-has_other_array_at l = 2 * node_count (tree l.sort.now)

abbrev pub invariant-has_other_array-loop-i : goal.invariant-has_other_array-loop-i
invariant-has_other_array-loop-i l = any_has_sort (is_other_array l.part) (trees (nodes (drop l.i (parts l.sort)))) ≡ any_has_sort (is_other_array l.part) (trees (nodes (parts l.sort)))
