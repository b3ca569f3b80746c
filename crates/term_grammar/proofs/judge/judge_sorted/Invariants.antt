use Rattle.std.proofs.Common.{◌≡◌}
use Rattle.sexp_core.specs.Items.{size_all}
use Rattle.sexp_core.specs.Parts.{unsplit}
use Rattle.term_grammar.specs.Reads.{read_sorted}
use Rattle.term_grammar.specs.FormReading.{judged}
use Rattle.term_grammar.proofs.judge.judge_sorted.Given as goal

-- the symbols that are left decide
abbrev pub invariant-loop-next : goal.invariant-loop-next
invariant-loop-next l = judged (read_sorted l.trees) ≡ judged (read_sorted (unsplit l.next))

abbrev pub decreases-loop-next : goal.decreases-loop-next
decreases-loop-next l = size_all (unsplit l.next)
