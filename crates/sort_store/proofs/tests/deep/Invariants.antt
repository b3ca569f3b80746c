use Rattle.sort_store.specs.Interned.{IsInterned}
use Rattle.sort_store.proofs.tests.deep.Given as goal

abbrev pub invariant-loop : goal.invariant-loop
invariant-loop l = IsInterned l.store l.sort
