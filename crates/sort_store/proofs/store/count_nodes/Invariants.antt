use Rattle.std.proofs.Common.{◌≡◌, ◌+◌, ◌≤◌, drop}
use Rattle.sort_store.specs.Size.{size_of_all}
use Rattle.sort_store.proofs.store.count_nodes.Given as goal

abbrev pub invariant-loop-arg : goal.invariant-loop-arg
invariant-loop-arg l = (l.count + size_of_all (drop l.arg-index l.args) ≡ size_of_all l.args + 1) × (l.count ≤ 1000)
