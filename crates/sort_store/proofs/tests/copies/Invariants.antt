use Rattle.std.proofs.Common.{◌≡◌, length}
use Rattle.sort_store.specs.Interned.{AllInterned}
use Rattle.sort_store.proofs.tests.copies.Given as goal

abbrev pub invariant-loop-sort : goal.invariant-loop-sort
invariant-loop-sort l = AllInterned l.store l.list × (length l.list ≡ l.sort-index)
