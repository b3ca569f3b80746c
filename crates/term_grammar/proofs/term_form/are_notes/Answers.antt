use Rattle.std.proofs.Common.{arith, ap, sym, ◌∙◌}
use Rattle.term_grammar.proofs.AttributeLists.{are_notes-first, fewer_after, notes_after, trees_after}
use Rattle.term_grammar.proofs.term_form.are_notes.Goals as goal

pub loop-next-init : goal.loop-next-init
loop-next-init c = are_notes-first _ (sym c.is_empty.ensures ∙ c.if-is_empty.false) ∙ ap notes_after (sym c.note_parts-next.ensures)

pub loop-next-smaller : goal.loop-next-smaller
loop-next-smaller c = omega (arith, fewer_after c.in-Some.rest, ap trees_after c.in-Some.is, ap trees_after c.note_parts-next-in-Some.ensures)

pub loop-next-preserved : goal.loop-next-preserved
loop-next-preserved c = c.loop-next.invariant ∙ ap notes_after c.in-Some.is ∙ are_notes-first _ (sym c.is_empty-in-Some.ensures ∙ c.if-is_empty-2.false) ∙ ap notes_after (sym c.note_parts-next-in-Some.ensures)
