use Rattle.std.proofs.Common.{◌≡◌, ℕ, ◌<◌, get_or}
use Rattle.sort_store.specs.Tree.{NumberedSort, tree}
use Rattle.theory_core.specs.Arguments.{basic_sort}
use Rattle.theory_core.proofs.arguments.are_all.Given as goal

-- the sorts so far are the basic one
abbrev pub invariant-loop-arg : goal.invariant-loop-arg
invariant-loop-arg l = (k : ℕ) (d : NumberedSort) → k < l.arg-index → tree (get_or l.args k d) ≡ basic_sort l.basic
