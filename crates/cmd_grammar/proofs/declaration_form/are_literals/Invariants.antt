use Rattle.std.proofs.Common.{◌≡◌}
use Rattle.sexp_core.specs.Sexp.{count_of}
use Rattle.sexp_core.specs.Parts.{unsplit}
use Rattle.cmd_grammar.specs.DeclarationForms.{are_literals}
use Rattle.cmd_grammar.proofs.declaration_form.are_literals.Given as goal

-- the trees that are left decide
abbrev pub invariant-loop-next : goal.invariant-loop-next
invariant-loop-next l = are_literals l.trees ≡ are_literals (unsplit l.next)

abbrev pub decreases-loop-next : goal.decreases-loop-next
decreases-loop-next l = count_of (unsplit l.next)
