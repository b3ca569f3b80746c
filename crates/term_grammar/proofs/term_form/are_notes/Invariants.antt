use Rattle.std.proofs.Common.{◌≡◌}
use Rattle.term_grammar.specs.TermForms.{are_notes}
use Rattle.term_grammar.proofs.AttributeLists.{notes_after, trees_after}
use Rattle.term_grammar.proofs.term_form.are_notes.Given as goal

-- the attributes that are left decide
abbrev pub invariant-loop-next : goal.invariant-loop-next
invariant-loop-next l = are_notes l.trees ≡ notes_after l.next

abbrev pub decreases-loop-next : goal.decreases-loop-next
decreases-loop-next l = trees_after l.next
