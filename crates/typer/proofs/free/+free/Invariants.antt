use Rattle.std.proofs.Common.{◌≡◌, ◌+◌, ◌*◌, ◌≤◌, drop}
use Rattle.term_store.specs.NumberedNodes.{terms, cases, numbered_note, numbered_notes}
use Rattle.term_store.specs.Size.{node_count, count_of_terms, count_of_cases, count_of_note, count_of_notes}
use Rattle.term_store.specs.Term.{trees, case_trees, note_trees}
use Rattle.typer.specs.FreeVariables.{any_has_free, any_case_has_free, any_note_has_free}
use Rattle.typer.proofs.free.+free.Given as goal

abbrev pub decreases-has_free : goal.decreases-has_free
decreases-has_free l = 5 * node_count l.term.now

abbrev pub decreases-any_has_free : goal.decreases-any_has_free
decreases-any_has_free l = 5 * count_of_terms (terms l.args.now) + 1

abbrev pub decreases-let_has_free : goal.decreases-let_has_free
decreases-let_has_free l = 5 * (count_of_terms (terms l.values.now) + node_count l.body.now) + 2

abbrev pub decreases-quantifier_has_free : goal.decreases-quantifier_has_free
decreases-quantifier_has_free l = 5 * node_count l.body.now + 1

abbrev pub decreases-case_has_free : goal.decreases-case_has_free
decreases-case_has_free l = 5 * node_count l.arm.now.1 + 1

abbrev pub decreases-any_case_has_free : goal.decreases-any_case_has_free
decreases-any_case_has_free l = 5 * count_of_cases (cases l.arms.now) + 2

abbrev pub decreases-match_has_free : goal.decreases-match_has_free
decreases-match_has_free l = 5 * (node_count l.of.now + count_of_cases (cases l.arms.now)) + 3

abbrev pub decreases-note_has_free : goal.decreases-note_has_free
decreases-note_has_free l = 5 * count_of_note (numbered_note l.note.now) + 2

abbrev pub decreases-any_note_has_free : goal.decreases-any_note_has_free
decreases-any_note_has_free l = 5 * count_of_notes (numbered_notes l.notes.now) + 3

abbrev pub decreases-annotated_has_free : goal.decreases-annotated_has_free
decreases-annotated_has_free l = 5 * (node_count l.body.now + count_of_notes (numbered_notes l.notes.now)) + 4

-- the parts that are left decide, and the names stay
abbrev pub invariant-any_has_free-loop-arg : goal.invariant-any_has_free-loop-arg
invariant-any_has_free-loop-arg l = record {
  onward : any_has_free l.fn.bound.items (trees (terms (drop l.arg-index l.args))) ≡ any_has_free l.fn.bound.items (trees (terms l.args));
  kept : l.bound.items ≡ l.fn.bound.items;
  smaller : count_of_terms (terms (drop l.arg-index l.args)) ≤ count_of_terms (terms l.args);
}

abbrev pub invariant-any_case_has_free-loop-arm : goal.invariant-any_case_has_free-loop-arm
invariant-any_case_has_free-loop-arm l = record {
  onward : any_case_has_free l.fn.bound.items (case_trees (cases (drop l.arm-index l.arms))) ≡ any_case_has_free l.fn.bound.items (case_trees (cases l.arms));
  kept : l.bound.items ≡ l.fn.bound.items;
  smaller : count_of_cases (cases (drop l.arm-index l.arms)) ≤ count_of_cases (cases l.arms);
}

abbrev pub invariant-any_note_has_free-loop-note : goal.invariant-any_note_has_free-loop-note
invariant-any_note_has_free-loop-note l = record {
  onward : any_note_has_free l.fn.bound.items (note_trees (numbered_notes (drop l.note-index l.notes))) ≡ any_note_has_free l.fn.bound.items (note_trees (numbered_notes l.notes));
  kept : l.bound.items ≡ l.fn.bound.items;
  smaller : count_of_notes (numbered_notes (drop l.note-index l.notes)) ≤ count_of_notes (numbered_notes l.notes);
}
