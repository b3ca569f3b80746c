-- What a node keeps beside its tree.
use Rattle.std.specs.Prelude.{◌≡◌, ℕ, ◌≤◌}
use Rattle.sort_store.specs.Tree.{NumberedSort, tree, node_count}
use Rattle.sort_store.specs.Depth.{depth}

pub record IsMeasured (r : NumberedSort) (count deep : ℕ) : Type 0 where
  pub counts : count ≡ node_count (tree r)
  pub small : count ≤ 1000
  pub depths : deep ≡ depth (tree r)
