-- The texts of names, also of those that a table does not have.
use Rattle.std.proofs.Common.{◌≡◌, ℕ, List, [], ◌∷◌, ◌≤◌, length, None, slice_get, refl, sym, ap, ◌∙◌, arith}
use Rattle.std.proofs.lemmas.Option.{slice_get_cases}
use Rattle.sort_store.specs.Tree.{Sort}
use Rattle.term_store.specs.declared.parts.Applied.{Applied}
use Rattle.term_store.specs.NumberedNodes.{terms}
use Rattle.sort_store.specs.Tree as sorts
use Rattle.term_store.specs.Term.{NumberedTerm, term, app, node_of, node_tree, tree, trees}
use Rattle.logic_frag.specs.IntegerTests.{minus_argument}
pub use Rattle.logic_frag.proofs.WalkedTerms.{tree_parts}

pub past_none : (texts : List (List ℕ)) (n : ℕ) → length texts ≤ n → slice_get texts n ≡ None
past_none texts n l = search (arith, slice_get_cases)

pub ruleset text_words = (past_none)

-- a minus of several arguments
pub several_arguments : (texts : List (List ℕ)) (s : Sort) (f : Applied) (ts : List NumberedTerm) → 2 ≤ length ts → minus_argument texts (term tt s (app f (trees (terms ts)))) ≡ None
several_arguments texts s f [] l = absurd (omega (arith, l))
several_arguments texts s f (t ∷ []) l = absurd (omega (arith, l))
several_arguments texts s f (t ∷ (v ∷ ts)) l = refl

pub ruleset minus_words = (tree_parts, several_arguments)

pub several_of : (texts : List (List ℕ)) (t : NumberedTerm) (f : Applied) (ts : List NumberedTerm) → app f (terms ts) ≡ node_of t → 2 ≤ length ts → None ≡ minus_argument texts (tree t)
several_of texts (term n s x) f ts e l = sym (ap (λ z. minus_argument texts (term tt (sorts.tree s) (node_tree z))) (sym e) ∙ several_arguments texts (sorts.tree s) f ts l)
