use Rattle.std.proofs.Common.{◌≡◌}
use Rattle.sexp_core.specs.Sexp.{count_of}
use Rattle.sexp_core.specs.Parts.{unsplit}
use Rattle.term_grammar.specs.TermForms.{are_cases}
use Rattle.term_grammar.proofs.term_form.are_cases.Given as goal

-- the trees that are left decide
abbrev pub invariant-loop-next : goal.invariant-loop-next
invariant-loop-next l = are_cases l.trees ≡ are_cases (unsplit l.next)

abbrev pub decreases-loop-next : goal.decreases-loop-next
decreases-loop-next l = count_of (unsplit l.next)
