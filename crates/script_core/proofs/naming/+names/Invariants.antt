use Rattle.std.proofs.Common.{◌≡◌, ◌+◌, ◌*◌, ◌≤◌, ◌++◌, drop, map}
use Rattle.term_store.specs.Command.{plain_def}
use Rattle.term_store.specs.Declarations.{names_in_cases, names_in_each, names_in_notes}
use Rattle.term_store.specs.NumberedNodes.{cases, numbered_note, numbered_notes, terms}
use Rattle.term_store.specs.Size.{count_of_cases, count_of_note, count_of_notes, count_of_terms, node_count}
use Rattle.term_store.specs.Term.{case_trees, note_trees, tree, trees}
use Rattle.script_core.specs.Keeping.{defined_in}
use Rattle.script_core.proofs.naming.+names.Given as goal

abbrev pub decreases-take_term : goal.decreases-take_term
decreases-take_term l = 4 * node_count l.term.now

abbrev pub decreases-take_terms : goal.decreases-take_terms
decreases-take_terms l = 4 * count_of_terms (terms l.args.now) + 1

abbrev pub decreases-take_cases : goal.decreases-take_cases
decreases-take_cases l = 4 * count_of_cases (cases l.arms.now) + 1

abbrev pub decreases-take_note : goal.decreases-take_note
decreases-take_note l = 4 * count_of_note (numbered_note l.note.now) + 2

abbrev pub decreases-take_notes : goal.decreases-take_notes
decreases-take_notes l = 4 * count_of_notes (numbered_notes l.notes.now) + 3

-- what was found so far, with what is named in the parts that are left, is named in all
abbrev pub invariant-take_terms-loop-arg : goal.invariant-take_terms-loop-arg
invariant-take_terms-loop-arg l = record {
  onward : map plain_def l.named.items ++ defined_in (names_in_each (trees (terms (drop l.arg-index l.args)))) ≡ map plain_def l.fn.named.items ++ defined_in (names_in_each (trees (terms l.args)));
  smaller : count_of_terms (terms (drop l.arg-index l.args)) ≤ count_of_terms (terms l.args);
}

abbrev pub invariant-take_cases-loop-arm : goal.invariant-take_cases-loop-arm
invariant-take_cases-loop-arm l = record {
  onward : map plain_def l.named.items ++ defined_in (names_in_cases (case_trees (cases (drop l.arm-index l.arms)))) ≡ map plain_def l.fn.named.items ++ defined_in (names_in_cases (case_trees (cases l.arms)));
  smaller : count_of_cases (cases (drop l.arm-index l.arms)) ≤ count_of_cases (cases l.arms);
}

abbrev pub invariant-take_notes-loop-note : goal.invariant-take_notes-loop-note
invariant-take_notes-loop-note l = record {
  onward : map plain_def l.named.items ++ defined_in (names_in_notes (tree l.body) (note_trees (numbered_notes (drop l.note-index l.notes))))
      ≡ map plain_def l.fn.named.items ++ defined_in (names_in_notes (tree l.body) (note_trees (numbered_notes l.notes)));
  smaller : count_of_notes (numbered_notes (drop l.note-index l.notes)) ≤ count_of_notes (numbered_notes l.notes);
}
