use Rattle.std.proofs.Common.{◌≡◌, ℕ, ◌<◌, get_or}
use Rattle.sort_store.specs.Tree.{NumberedSort, tree}
use Rattle.dt_rules.proofs.group.is_listed.Given as goal

-- no sort so far has the tree
abbrev pub invariant-loop-other : goal.invariant-loop-other
invariant-loop-other l = (k : ℕ) (d : NumberedSort) → k < l.other-index → tree (get_or l.list k d) ≡ tree l.sort → ⊥
