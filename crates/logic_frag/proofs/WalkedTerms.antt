-- The parts of the tree that a reference stands for.
use Rattle.std.proofs.Common.{◌≡◌, refl}
use Rattle.term_store.specs.Term.{NumberedTerm, term, tree, node_tree, node_of, sort_of}
use Rattle.sort_store.specs.Tree as sorts

pub tree_parts : (t : NumberedTerm) → tree t ≡ term tt (sorts.tree (sort_of t)) (node_tree (node_of t))
tree_parts (term n s x) = refl

pub ruleset walk_words = (tree_parts)
