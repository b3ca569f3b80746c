use Rattle.std.proofs.Common.{◌≡◌, ℕ, ◌<◌, ◌+◌, ◌*◌, get_or}
use Rattle.sort_store.specs.Size.{size_of, size_of_all}
use Rattle.sort_store.specs.Tree.{NumberedSort, tree}
use Rattle.sort_store.proofs.equality.+same.Given as goal

abbrev pub invariant-same_each-loop-i : goal.invariant-same_each-loop-i
invariant-same_each-loop-i l = (k : ℕ) (d e : NumberedSort) → k < l.i → tree (get_or l.a k d) ≡ tree (get_or l.b k e)

abbrev pub decreases-same_tree : goal.decreases-same_tree
decreases-same_tree l = 2 * size_of l.a.now

abbrev pub decreases-same_each : goal.decreases-same_each
decreases-same_each l = 2 * size_of_all l.a.now + 1
