use Rattle.std.proofs.Common.{◌≡◌, ℕ, ◌<◌, get_or}
use Rattle.term_store.specs.declared.term.Note.{Note as ProgramNote}
use Rattle.term_store.specs.NumberedNodes.{numbered_note}
use Rattle.term_store.specs.Outline.{note_outline}
use Rattle.term_store.proofs.equality.same_notes.Given as goal

abbrev pub invariant-loop-i : goal.invariant-loop-i
invariant-loop-i l = (k : ℕ) (d e : ProgramNote) → k < l.i → note_outline (numbered_note (get_or l.a k d)) ≡ note_outline (numbered_note (get_or l.b k e))
