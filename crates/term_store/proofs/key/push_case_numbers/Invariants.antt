use Rattle.std.proofs.Common.{◌≡◌, ◌++◌, map, take}
use Rattle.term_store.specs.declared.parts.Pattern.{Pattern}
use Rattle.term_store.specs.Term.{NumberedTerm, number}
use Rattle.term_store.proofs.key.push_case_numbers.Given as goal

abbrev pub invariant-loop-arm : goal.invariant-loop-arm
invariant-loop-arm l = l.list.items ≡ l.fn.list.items ++ map (λ (c : Pattern × NumberedTerm). number c.1) (take l.arm-index l.arms)
