-- When a sort is Bool, by its sort symbol and the number of its arguments.
use Rattle.std.proofs.Common.{◌≡◌, ℕ, ◌==◌, length, IsTrue, refl, ap, sym, subst, arith}
use Rattle.std.proofs.lemmas.Bool.{eqb-true}
use Rattle.sort_store.specs.CoreRanks.{bool}
use Rattle.sort_store.specs.declared.head.Head.TheVariants as heads
use Rattle.sort_store.specs.Tree.{NumberedSort, node, no_nodes, more_nodes, sort, no_sorts, head, parts, tree}

pub bool_exactly : (r : NumberedSort) (n : ℕ) → heads.Bool ≡ head r → n ≡ length (parts r) → (IsTrue (n == 0) → tree r ≡ bool) × (tree r ≡ bool → IsTrue (n == 0))
bool_exactly (node k h no_nodes) n e count = ((λ z. ap (λ x. sort x no_sorts) (sym e)), (λ z. subst (λ m. IsTrue (m == 0)) (sym count) refl))
bool_exactly (node k h (more_nodes a rs)) n e count = ((λ z. absurd (omega (arith, eqb-true n 0 z, count))), (λ z. cc))
