use Rattle.std.proofs.Common.{◌≡◌, take, map}
use Rattle.sort_store.specs.Tree.{number}
use Rattle.sort_store.proofs.sort_key.numbers_of.Given as goal

abbrev pub invariant-loop-arg : goal.invariant-loop-arg
invariant-loop-arg l = l.list.items ≡ map number (take l.arg-index l.args)
