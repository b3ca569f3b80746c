use Rattle.term_store.specs.Interned.{IsInterned}
use Rattle.term_store.proofs.tests.chain.chain.Given as goal

abbrev pub invariant-loop : goal.invariant-loop
invariant-loop l = IsInterned l.store l.term
