use Rattle.std.proofs.Common.{length}
use Rattle.datatype_commands.specs.Answers.{HaveNames, sort_decs_left}
use Rattle.datatype_commands.proofs.tests.are_named.Given as goal

-- if those that are left have names, all have
abbrev pub invariant-loop-next : goal.invariant-loop-next
invariant-loop-next l = HaveNames l.names (sort_decs_left l.next) → HaveNames l.names l.sorts

abbrev pub decreases-loop-next : goal.decreases-loop-next
decreases-loop-next l = length (sort_decs_left l.next)
