use Rattle.std.proofs.Common.{ℕ, ◌<◌, get_or}
use Rattle.sort_store.specs.Instance.{ParamsBelow}
use Rattle.sort_store.specs.Tree.{NumberedSort, tree}
use Rattle.sort_store.proofs.tests.+params_below.Given as goal

abbrev pub invariant-loop-part : goal.invariant-loop-part
invariant-loop-part l = (k : ℕ) (d : NumberedSort) → k < l.part-index → ParamsBelow l.count (tree (get_or l.part-items k d))
