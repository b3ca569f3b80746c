use Rattle.std.proofs.Common.{◌+◌, ◌≤◌, length}
use Rattle.datatype_commands.proofs.tests.last_tree.Given as goal

abbrev pub invariant-loop-tok : goal.invariant-loop-tok
invariant-loop-tok l = length l.builder.0 ≤ length l.fn.builder.0 + l.tok-index
