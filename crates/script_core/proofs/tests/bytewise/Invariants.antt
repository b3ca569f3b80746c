use Rattle.std.proofs.Common.{◌≡◌, false}
use Rattle.script_core.proofs.tests.bytewise.Given as goal

abbrev pub invariant-loop-byte : goal.invariant-loop-byte
invariant-loop-byte g l = l.session.finished ≡ false
