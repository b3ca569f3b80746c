use Rattle.std.proofs.Common.{length}
use Rattle.term_store.proofs.store.TermStore.drop.Given as goal

abbrev pub decreases-loop-entry : goal.decreases-loop-entry
decreases-loop-entry l = length l.table.entries
