use Rattle.std.proofs.Common.{◌-◌, length}
use Rattle.term_store.specs.NumberedNodes.{numbered_node}
use Rattle.term_store.specs.Outline.{outline}
use Rattle.term_store.specs.TermKeys.{IsKeyFor, SearchedTo}
use Rattle.term_store.proofs.store.find_made.Given as goal

abbrev pub invariant-loop-term : goal.invariant-loop-term
invariant-loop-term l = record {
  key_for : IsKeyFor l.key (outline (numbered_node l.node));
  searched : SearchedTo l.table.entries l.key l.node l.sort;
}

abbrev pub decreases-loop-term : goal.decreases-loop-term
decreases-loop-term l = length l.table.entries - l.key.ordinal
