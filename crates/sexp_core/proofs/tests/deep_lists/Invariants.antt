use Rattle.std.proofs.Common.{◌≤◌, length}
use Rattle.sexp_core.proofs.tests.deep_lists.Given as goal

abbrev pub invariant-loop-at : goal.invariant-loop-at
invariant-loop-at g l = length l.builder.0 ≤ l.at
