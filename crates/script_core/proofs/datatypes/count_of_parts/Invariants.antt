use Rattle.std.proofs.Common.{◌≡◌, take}
use Rattle.script_core.proofs.GroupCounts.{parts_count}
use Rattle.script_core.proofs.datatypes.count_of_parts.Given as goal

-- the names of the constructors so far are counted
abbrev pub invariant-loop-constructor : goal.invariant-loop-constructor
invariant-loop-constructor l = l.count ≡ parts_count (take l.constructor-index l.constructors)
