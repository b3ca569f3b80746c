use Rattle.std.proofs.Common.{ap, sym, ◌∙◌}
use Rattle.term_grammar.specs.Syntax.{with_note}
use Rattle.term_grammar.specs.Readings.{notes_of}
use Rattle.term_grammar.proofs.TermsSeen.{notes_end, notes_begin}
use Rattle.term_grammar.proofs.note.RawNotes.split.Goals as goal

pub returns-in_default : goal.returns-in_default
returns-in_default c = sym c.self.view_is ∙ notes_end _ (sym c.note_parts.ensures ∙ c.in_default.is)

pub note-requires : goal.note-requires
note-requires c = (notes_begin _ _ _ (sym c.note_parts.ensures ∙ c.in-Some.is) c.self.invariant).0

pub invariant_of-result : goal.invariant_of-result
invariant_of-result c = (notes_begin _ _ _ (sym c.note_parts.ensures ∙ c.in-Some.is) c.self.invariant).1.0

pub returns : goal.returns
returns c =
    sym c.self.view_is ∙ (notes_begin _ _ _ (sym c.note_parts.ensures ∙ c.in-Some.is) c.self.invariant).1.1
    ∙ ap (λ x. with_note x (notes_of c.in-Some.trees)) (sym c.note.ensures)
