use Rattle.sort_store.specs.Interned.{AllInterned, HasNoRepeats}
use Rattle.theory_core.proofs.tests.copies.Given as goal

abbrev pub invariant-loop-sort : goal.invariant-loop-sort
invariant-loop-sort l = record { interned : AllInterned l.store l.list; distinct : HasNoRepeats l.store }
