use Rattle.sort_store.specs.Interned.{HasNoRepeats}
use Rattle.theory_core.proofs.tests.written.Given as goal

abbrev pub invariant-loop-byte : goal.invariant-loop-byte
invariant-loop-byte l = HasNoRepeats l.store
