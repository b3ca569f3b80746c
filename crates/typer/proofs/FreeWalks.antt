-- What a walk over references finds in the trees that they stand for, and that it gets to smaller terms.
use Rattle.std.proofs.Common.{◌≡◌, ℕ, suc, List, [], ◌∷◌, map, refl, ap}
use Rattle.term_store.specs.Size.{node_count, count_of_node}
use Rattle.term_store.specs.Term.{NumberedTerm, term, tree, node_tree, node_of, sort_of, plain_var}
use Rattle.sort_store.specs.Tree.{NumberedSort}
use Rattle.sort_store.specs.Tree as sorts

pub tree_parts : (t : NumberedTerm) → tree t ≡ term tt (sorts.tree (sort_of t)) (node_tree (node_of t))
tree_parts (term n s x) = refl

pub count_parts : (t : NumberedTerm) → node_count t ≡ suc (count_of_node (node_of t))
count_parts (term n s x) = refl

-- the names of variables by the trees of their sorts
pub variable_names : (vs : List (ℕ × NumberedSort)) → map (λ v. v.0) (map plain_var vs) ≡ map (λ v. v.0) vs
variable_names [] = refl
variable_names (v ∷ vs) = ap (λ ns. v.0 ∷ ns) (variable_names vs)

pub ruleset walk_words = (tree_parts, count_parts, variable_names)
