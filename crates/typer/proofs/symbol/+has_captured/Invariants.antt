use Rattle.std.proofs.Common.{◌≡◌, ℕ, ◌<◌, false, Some, slice_get}
use Rattle.sort_store.specs.Tree.{NumberedSort, tree, parts, node_count}
use Rattle.typer.specs.SortRules.{has_captured}
use Rattle.typer.proofs.symbol.+has_captured.Given as goal

abbrev pub decreases-has_captured : goal.decreases-has_captured
decreases-has_captured l = node_count (tree l.sort.now)

-- the arguments so far have no such sort symbol
abbrev pub invariant-loop-i : goal.invariant-loop-i
invariant-loop-i l = (k : ℕ) (r : NumberedSort) → k < l.i → slice_get (parts l.sort) k ≡ Some r → has_captured l.names l.params (tree r) ≡ false
