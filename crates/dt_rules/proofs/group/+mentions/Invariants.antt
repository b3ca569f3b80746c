use Rattle.std.proofs.Common.{◌≡◌, ℕ, ◌<◌, false, Some, slice_get, map}
use Rattle.sort_store.specs.Tree.{NumberedSort, tree, parts, node_count}
use Rattle.term_store.specs.Command.{plain_datatype}
use Rattle.dt_rules.specs.Groups.{mentions}
use Rattle.dt_rules.proofs.group.+mentions.Given as goal

abbrev pub decreases-mentions : goal.decreases-mentions
decreases-mentions l = node_count (tree l.sort.now)

-- the arguments so far mention no datatype of the group
abbrev pub invariant-loop-i : goal.invariant-loop-i
invariant-loop-i l = (k : ℕ) (r : NumberedSort) → k < l.i → slice_get (parts l.sort) k ≡ Some r → mentions (map plain_datatype l.group) (tree r) ≡ false
