use Rattle.std.proofs.Common.{◌≡◌, ◌+◌, ◌*◌, ◌≤◌}
use Rattle.sexp_core.specs.Items.{size, size_all}
use Rattle.sexp_core.specs.Parts.{whole, unsplit}
use Rattle.term_grammar.specs.Reads.{read_sorts}
use Rattle.term_grammar.specs.FormReading.{judged}
use Rattle.term_grammar.proofs.judge.+sorts.Given as goal

abbrev pub decreases-judge_sort : goal.decreases-judge_sort
decreases-judge_sort l = 2 * size (whole l.tree.now)

abbrev pub decreases-judge_sorts : goal.decreases-judge_sorts
decreases-judge_sorts l = 2 * size_all l.trees.now + 1

-- the sorts that are left decide
abbrev pub invariant-judge_sorts-loop-next : goal.invariant-judge_sorts-loop-next
invariant-judge_sorts-loop-next l = record {
  onward : judged (read_sorts l.trees) ≡ judged (read_sorts (unsplit l.next));
  smaller : size_all (unsplit l.next) ≤ size_all l.trees;
}

abbrev pub decreases-judge_sorts-loop-next : goal.decreases-judge_sorts-loop-next
decreases-judge_sorts-loop-next l = size_all (unsplit l.next)
