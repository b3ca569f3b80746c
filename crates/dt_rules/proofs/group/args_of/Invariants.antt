use Rattle.std.proofs.Common.{◌≡◌, take}
use Rattle.sort_store.specs.Tree.{parts}
use Rattle.dt_rules.proofs.group.args_of.Given as goal

abbrev pub invariant-loop-i : goal.invariant-loop-i
invariant-loop-i l = l.args.items ≡ take l.i (parts l.sort)
