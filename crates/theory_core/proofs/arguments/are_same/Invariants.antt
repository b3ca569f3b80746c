use Rattle.std.proofs.Common.{◌≡◌, ℕ, ◌<◌, get_or}
use Rattle.sort_store.specs.Tree.{NumberedSort, tree}
use Rattle.theory_core.proofs.arguments.are_same.Given as goal

-- the sorts so far are the first one
abbrev pub invariant-loop-arg : goal.invariant-loop-arg
invariant-loop-arg l = (k : ℕ) (d e : NumberedSort) → k < l.arg-index → tree (get_or l.args k d) ≡ tree (get_or l.args 0 e)
