-- The sort of a term by its trees.
use Rattle.std.proofs.Common.{◌≡◌, refl}
use Rattle.sort_store.specs.Tree.{tree}
use Rattle.term_store.specs.Term.{NumberedTerm, term, plain_sort, sort_of}
use Rattle.term_store.specs.Term as terms

pub term_sort : (t : NumberedTerm) → plain_sort (terms.tree t) ≡ tree (sort_of t)
term_sort (term k s x) = refl
