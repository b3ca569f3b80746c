use Rattle.std.proofs.Common.{◌≡◌}
use Rattle.sexp_core.specs.Sexp.{count_of}
use Rattle.sexp_core.specs.Parts.{unsplit}
use Rattle.term_grammar.specs.Forms.{are_indices}
use Rattle.term_grammar.proofs.form.are_indices.Given as goal

-- the trees that are left decide
abbrev pub invariant-loop-next : goal.invariant-loop-next
invariant-loop-next l = are_indices l.trees ≡ are_indices (unsplit l.next)

abbrev pub decreases-loop-next : goal.decreases-loop-next
decreases-loop-next l = count_of (unsplit l.next)
