use Rattle.std.proofs.Common.{◌≡◌, ◌+◌, min, take, map}
use Rattle.sort_store.specs.Tree.{tree}
use Rattle.sort_store.proofs.InstanceLaws.{instance_sizes}
use Rattle.sort_store.proofs.instance.+instance_size.Given as goal

abbrev pub invariant-loop-part : goal.invariant-loop-part
invariant-loop-part l = l.size ≡ min 1001 (instance_sizes (map tree l.args) (take l.part-index l.part-items) + 1)
