use Rattle.std.proofs.Common.{◌≡◌, ◌≤◌, max, drop}
use Rattle.term_store.specs.CanonicalText.{note_texts}
use Rattle.term_store.specs.Depth.{saturated, nesting_all}
use Rattle.term_store.specs.NumberedNodes.{numbered_notes}
use Rattle.term_store.specs.Term.{note_trees}
use Rattle.term_store.proofs.depth.deepest_note.Given as goal

abbrev pub invariant-loop-note : goal.invariant-loop-note
invariant-loop-note l = record {
  depths : saturated (max l.deep (nesting_all (note_texts (note_trees (numbered_notes (drop l.note-index l.notes)))))) ≡ saturated (nesting_all (note_texts (note_trees (numbered_notes l.notes))));
  small : l.deep ≤ 4294967295;
}
