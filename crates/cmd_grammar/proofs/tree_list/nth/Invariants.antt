use Rattle.std.proofs.Common.{◌≡◌, slice_get}
use Rattle.sexp_core.specs.Sexp.{count_of}
use Rattle.sexp_core.specs.Parts.{unsplit}
use Rattle.cmd_grammar.specs.TreeLists.{each_tree}
use Rattle.cmd_grammar.proofs.tree_list.nth.Given as goal

-- the tree is as far from the first that is left as the count that is left
abbrev pub invariant-loop-next : goal.invariant-loop-next
invariant-loop-next l = slice_get (each_tree l.trees) l.index ≡ slice_get (each_tree (unsplit l.next)) l.left

abbrev pub decreases-loop-next : goal.decreases-loop-next
decreases-loop-next l = count_of (unsplit l.next)
