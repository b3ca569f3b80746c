use Rattle.std.proofs.Common.{◌≡◌, max, drop}
use Rattle.sort_store.specs.Depth.{depth_all}
use Rattle.sort_store.proofs.sort_ref.deepest.Given as goal

abbrev pub invariant-loop-arg : goal.invariant-loop-arg
invariant-loop-arg l = max l.deep (depth_all (drop l.arg-index l.args)) ≡ depth_all l.args
