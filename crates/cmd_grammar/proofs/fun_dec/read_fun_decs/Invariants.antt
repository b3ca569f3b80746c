use Rattle.std.proofs.Common.{◌≡◌}
use Rattle.sexp_core.specs.Sexp.{count_of}
use Rattle.sexp_core.specs.Parts.{unsplit}
use Rattle.term_grammar.specs.FormReading.{judged}
use Rattle.cmd_grammar.specs.TreeLists.{read_all}
use Rattle.cmd_grammar.specs.DeclarationReads.{read_fun_dec}
use Rattle.cmd_grammar.proofs.fun_dec.read_fun_decs.Given as goal

-- what is left decides
abbrev pub invariant-loop-next : goal.invariant-loop-next
invariant-loop-next l = judged (read_all read_fun_dec l.trees) ≡ judged (read_all read_fun_dec (unsplit l.next))

abbrev pub decreases-loop-next : goal.decreases-loop-next
decreases-loop-next l = count_of (unsplit l.next)
