use Rattle.std.proofs.Common.{length}
use Rattle.sort_store.proofs.store.SortStore.drop.Given as goal

abbrev pub decreases-loop-entry : goal.decreases-loop-entry
decreases-loop-entry l = length l.table.entries
