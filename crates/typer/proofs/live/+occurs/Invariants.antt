use Rattle.std.proofs.Common.{◌≡◌, ℕ, ◌<◌, false, Some, slice_get}
use Rattle.sort_store.specs.Tree.{NumberedSort, tree, parts, node_count}
use Rattle.typer.specs.LiveRanks.{occurs_in}
use Rattle.typer.proofs.live.+occurs.Given as goal

abbrev pub decreases-occurs : goal.decreases-occurs
decreases-occurs l = node_count (tree l.sort.now)

-- the parameter does not stand in the arguments so far
abbrev pub invariant-loop-k : goal.invariant-loop-k
invariant-loop-k l = (k : ℕ) (r : NumberedSort) → k < l.k → slice_get (parts l.sort) k ≡ Some r → occurs_in l.i (tree r) ≡ false
