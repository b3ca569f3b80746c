use Rattle.std.proofs.Common.{◌≡◌, drop}
use Rattle.logic_frag.specs.DifferenceTests.{is_own}
use Rattle.logic_frag.proofs.difference.is_own.Given as goal

abbrev pub invariant-loop-other : goal.invariant-loop-other
invariant-loop-other l = is_own (drop l.other-index l.own) l.no ≡ is_own l.own l.no
