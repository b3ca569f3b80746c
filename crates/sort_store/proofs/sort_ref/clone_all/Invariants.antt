use Rattle.std.proofs.Common.{◌≡◌, take}
use Rattle.sort_store.proofs.sort_ref.clone_all.Given as goal

abbrev pub invariant-loop-arg : goal.invariant-loop-arg
invariant-loop-arg l = l.list.items ≡ take l.arg-index l.args
