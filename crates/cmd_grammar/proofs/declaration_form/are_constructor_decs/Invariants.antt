use Rattle.std.proofs.Common.{◌≡◌}
use Rattle.sexp_core.specs.Sexp.{count_of}
use Rattle.sexp_core.specs.Parts.{unsplit}
use Rattle.cmd_grammar.specs.DeclarationForms.{are_constructor_decs}
use Rattle.cmd_grammar.proofs.declaration_form.are_constructor_decs.Given as goal

-- the trees that are left decide
abbrev pub invariant-loop-next : goal.invariant-loop-next
invariant-loop-next l = are_constructor_decs l.trees ≡ are_constructor_decs (unsplit l.next)

abbrev pub decreases-loop-next : goal.decreases-loop-next
decreases-loop-next l = count_of (unsplit l.next)
