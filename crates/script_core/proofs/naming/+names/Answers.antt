use Rattle.std.proofs.Common.{◌+◌, arith, map, refl}
use Rattle.term_store.specs.Command.{plain_def}
use Rattle.term_store.specs.Declarations.{names_in, names_in_cases, names_in_each, names_in_note, names_in_notes}
use Rattle.term_store.specs.NumberedNodes.{cases, numbered_note, numbered_notes, terms}
use Rattle.term_store.specs.Size.{count_of_cases, count_of_notes, count_of_terms}
use Rattle.term_store.specs.Term.{case_trees, note_tree, note_trees, tree, trees}
use Rattle.script_core.proofs.NamedWalks.{count_on, named_on}
use Rattle.script_core.proofs.naming.+names.Goals as goal

pub take_terms-loop-arg-preserved : goal.take_terms-loop-arg-preserved
take_terms-loop-arg-preserved t c = let l = c.loop-arg in let x = c.arg-item.result in record {
  onward = named_on c.args.args.now l.arg-index (l.arg-index + 1) x (omega arith) c.loop-arg-test.true c.arg-item.is (λ ts. names_in_each (trees (terms ts))) (λ z. names_in (tree z)) (λ y ys. refl) (map plain_def l.named.items)
      (map plain_def c.take_term.new.named.items) _ c.in_ok-take_term.ensures.ok l.invariant.onward;
  smaller = count_on c.args.args.now l.arg-index (l.arg-index + 1) x (omega arith) c.loop-arg-test.true c.arg-item.is (λ ts. count_of_terms (terms ts)) (λ y ys. omega arith) _ l.invariant.smaller;
}

pub take_cases-loop-arm-preserved : goal.take_cases-loop-arm-preserved
take_cases-loop-arm-preserved t c = let l = c.loop-arm in let x = c.arm-item.result in record {
  onward = named_on c.args.arms.now l.arm-index (l.arm-index + 1) x (omega arith) c.loop-arm-test.true c.arm-item.is (λ cs. names_in_cases (case_trees (cases cs))) (λ a. names_in (tree a.1)) (λ y ys. refl) (map plain_def l.named.items)
      (map plain_def c.take_term.new.named.items) _ c.in_ok-take_term.ensures.ok l.invariant.onward;
  smaller = count_on c.args.arms.now l.arm-index (l.arm-index + 1) x (omega arith) c.loop-arm-test.true c.arm-item.is (λ cs. count_of_cases (cases cs)) (λ y ys. omega arith) _ l.invariant.smaller;
}

pub take_notes-loop-note-preserved : goal.take_notes-loop-note-preserved
take_notes-loop-note-preserved t c = let l = c.loop-note in let x = c.note-item.result in let u = tree c.args.body.now in record {
  onward = named_on c.args.notes.now l.note-index (l.note-index + 1) x (omega arith) c.loop-note-test.true c.note-item.is (λ ns. names_in_notes u (note_trees (numbered_notes ns))) (λ n. names_in_note u (note_tree (numbered_note n))) (λ y ys. refl)
      (map plain_def l.named.items) (map plain_def c.take_note.new.named.items) _ c.in_ok-take_note.ensures.ok l.invariant.onward;
  smaller = count_on c.args.notes.now l.note-index (l.note-index + 1) x (omega arith) c.loop-note-test.true c.note-item.is (λ ns. count_of_notes (numbered_notes ns)) (λ y ys. omega arith) _ l.invariant.smaller;
}
