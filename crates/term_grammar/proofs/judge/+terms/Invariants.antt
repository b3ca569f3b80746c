use Rattle.std.proofs.Common.{◌≡◌, ◌+◌, ◌*◌, ◌≤◌}
use Rattle.sexp_core.specs.Items.{size, size_all}
use Rattle.sexp_core.specs.Parts.{whole, unsplit}
use Rattle.term_grammar.specs.Reads.{read_terms, read_bindings, read_cases, read_notes}
use Rattle.term_grammar.specs.FormReading.{judged}
use Rattle.term_grammar.proofs.JudgedLists.{notes_judged_by}
use Rattle.term_grammar.proofs.FormSizes.{note_size}
use Rattle.term_grammar.proofs.judge.+terms.Given as goal

abbrev pub decreases-judge_term : goal.decreases-judge_term
decreases-judge_term l = 2 * size (whole l.tree.now)

abbrev pub decreases-judge_terms : goal.decreases-judge_terms
decreases-judge_terms l = 2 * size_all l.trees.now + 1

abbrev pub decreases-judge_bindings : goal.decreases-judge_bindings
decreases-judge_bindings l = 2 * size_all l.trees.now + 1

abbrev pub decreases-judge_cases : goal.decreases-judge_cases
decreases-judge_cases l = 2 * size_all l.trees.now + 1

abbrev pub decreases-judge_notes : goal.decreases-judge_notes
decreases-judge_notes l = 2 * size_all l.trees.now + 1

-- what is left decides
abbrev pub invariant-judge_terms-loop-next : goal.invariant-judge_terms-loop-next
invariant-judge_terms-loop-next l = record {
  onward : judged (read_terms l.trees) ≡ judged (read_terms (unsplit l.next));
  smaller : size_all (unsplit l.next) ≤ size_all l.trees;
}

abbrev pub decreases-judge_terms-loop-next : goal.decreases-judge_terms-loop-next
decreases-judge_terms-loop-next l = size_all (unsplit l.next)

abbrev pub invariant-judge_bindings-loop-next : goal.invariant-judge_bindings-loop-next
invariant-judge_bindings-loop-next l = record {
  onward : judged (read_bindings l.trees) ≡ judged (read_bindings (unsplit l.next));
  smaller : size_all (unsplit l.next) ≤ size_all l.trees;
}

abbrev pub decreases-judge_bindings-loop-next : goal.decreases-judge_bindings-loop-next
decreases-judge_bindings-loop-next l = size_all (unsplit l.next)

abbrev pub invariant-judge_cases-loop-next : goal.invariant-judge_cases-loop-next
invariant-judge_cases-loop-next l = record {
  onward : judged (read_cases l.trees) ≡ judged (read_cases (unsplit l.next));
  smaller : size_all (unsplit l.next) ≤ size_all l.trees;
}

abbrev pub decreases-judge_cases-loop-next : goal.decreases-judge_cases-loop-next
decreases-judge_cases-loop-next l = size_all (unsplit l.next)

abbrev pub invariant-judge_notes-loop-next : goal.invariant-judge_notes-loop-next
invariant-judge_notes-loop-next l = record {
  onward : judged (read_notes l.trees) ≡ notes_judged_by l.next;
  smaller : note_size l.next ≤ size_all l.trees;
}

abbrev pub decreases-judge_notes-loop-next : goal.decreases-judge_notes-loop-next
decreases-judge_notes-loop-next l = note_size l.next
