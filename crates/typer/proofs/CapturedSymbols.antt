-- Sort symbols in the arguments of a sort, and the sizes of arguments.
use Rattle.std.proofs.Common.{◌≡◌, ℕ, zero, suc, ◌<◌, ◌≤◌, Bool, true, false, ◌||◌, List, length, Some, refl, ap, sym, ◌∙◌, arith, slice_get}
use Rattle.std.proofs.lemmas.Option.{slice_get_within}
use Rattle.sort_store.specs.Tree.{NumberedSort, node, NumberedSorts, no_nodes, more_nodes, node_list, tree, trees, parts, head, node_count, nodes_count}
use Rattle.typer.specs.SortRules.{is_captured, has_captured, have_captured}

each_smaller : (rs : NumberedSorts) (i : ℕ) (a : NumberedSort) → slice_get (node_list rs) i ≡ Some a → node_count (tree a) ≤ nodes_count (trees rs)
each_smaller no_nodes i a e = cc
each_smaller (more_nodes r rs) zero a e = let s : r ≡ a = cc in omega (arith, ap (λ z. node_count (tree z)) s)
each_smaller (more_nodes r rs) (suc i) a e = omega (arith, each_smaller rs i a e)

pub part_smaller : (r a : NumberedSort) (i : ℕ) → slice_get (parts r) i ≡ Some a → node_count (tree a) < node_count (tree r)
part_smaller (node n h rs) a i e = omega (arith, each_smaller rs i a e)

module _ (texts : List (List ℕ)) (params : List ℕ) where
  or_left : (a b : Bool) → a ≡ true → (a || b) ≡ true
  or_left true b e = refl
  or_left false b e = cc

  or_right : (a b : Bool) → b ≡ true → (a || b) ≡ true
  or_right true b e = refl
  or_right false b e = e

  neither : (a b : Bool) → a ≡ false → b ≡ false → (a || b) ≡ false
  neither true b e f = e
  neither false b e f = f

  each_captured : (rs : NumberedSorts) (i : ℕ) (a : NumberedSort) → slice_get (node_list rs) i ≡ Some a → has_captured texts params (tree a) ≡ true → have_captured texts params (trees rs) ≡ true
  each_captured no_nodes i a e t = cc
  each_captured (more_nodes r rs) zero a e t = let s : r ≡ a = cc in or_left _ _ (ap (λ z. has_captured texts params (tree z)) s ∙ t)
  each_captured (more_nodes r rs) (suc i) a e t = or_right _ _ (each_captured rs i a e t)

  pub part_captured : (r a : NumberedSort) (i : ℕ) → slice_get (parts r) i ≡ Some a → has_captured texts params (tree a) ≡ true → true ≡ has_captured texts params (tree r)
  part_captured (node n h rs) a i e t = sym (or_right _ _ (each_captured rs i a e t))

  pub head_captured : (r : NumberedSort) → is_captured texts params (head r) ≡ true → true ≡ has_captured texts params (tree r)
  head_captured (node n h rs) t = sym (or_left _ _ t)

  none_of_each : (rs : NumberedSorts) → ((i : ℕ) (a : NumberedSort) → slice_get (node_list rs) i ≡ Some a → has_captured texts params (tree a) ≡ false) → have_captured texts params (trees rs) ≡ false
  none_of_each no_nodes h = refl
  none_of_each (more_nodes r rs) h = neither _ _ (h zero r refl) (none_of_each rs (λ i a e. h (suc i) a e))

  pub none_captured : (r : NumberedSort) (n : ℕ) → is_captured texts params (head r) ≡ false → length (parts r) ≤ n
      → ((i : ℕ) (a : NumberedSort) → i < n → slice_get (parts r) i ≡ Some a → has_captured texts params (tree a) ≡ false) → false ≡ has_captured texts params (tree r)
  none_captured (node m h rs) n t l f = sym (neither _ _ t (none_of_each rs (λ i a e. f i a (omega (arith, l, slice_get_within (node_list rs) i a e)) e)))

pub ruleset captured_words = (part_smaller, part_captured, head_captured)
