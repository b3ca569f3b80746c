use Rattle.std.proofs.Common.{◌≡◌, ◌+◌, length, take}
use Rattle.script_core.proofs.GroupCounts.{group_count}
use Rattle.script_core.proofs.datatypes.count_of_group.Given as goal

-- the names of the datatypes so far are counted
abbrev pub invariant-loop-datatype : goal.invariant-loop-datatype
invariant-loop-datatype l = l.count ≡ length l.fn.group + group_count (take l.datatype-index l.group)
