use Rattle.std.proofs.Common.{◌≡◌, ◌++◌, map, take}
use Rattle.term_store.specs.Term.{number}
use Rattle.term_store.proofs.key.push_numbers.Given as goal

abbrev pub invariant-loop-arg : goal.invariant-loop-arg
invariant-loop-arg l = l.list.items ≡ l.fn.list.items ++ map number (take l.arg-index l.args)
