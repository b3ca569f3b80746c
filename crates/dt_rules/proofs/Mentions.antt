-- Datatypes of the group in the arguments of a sort, and the sizes of arguments.
use Rattle.std.proofs.Common.{◌≡◌, ℕ, zero, suc, ◌<◌, ◌≤◌, Bool, true, false, ◌||◌, List, length, Some, refl, ap, sym, ◌∙◌, arith, slice_get}
use Rattle.std.proofs.lemmas.Option.{slice_get_within}
use Rattle.sort_store.specs.Tree.{NumberedSort, node, NumberedSorts, no_nodes, more_nodes, node_list, tree, trees, parts, head, node_count, nodes_count}
use Rattle.term_store.specs.Command.{PlainDatatype}
use Rattle.dt_rules.specs.Groups.{is_of_group, mentions, each_mentions}

each_smaller : (rs : NumberedSorts) (i : ℕ) (a : NumberedSort) → slice_get (node_list rs) i ≡ Some a → node_count (tree a) ≤ nodes_count (trees rs)
each_smaller no_nodes i a e = cc
each_smaller (more_nodes r rs) zero a e = let s : r ≡ a = cc in omega (arith, ap (λ z. node_count (tree z)) s)
each_smaller (more_nodes r rs) (suc i) a e = omega (arith, each_smaller rs i a e)

pub part_smaller : (r a : NumberedSort) (i : ℕ) → slice_get (parts r) i ≡ Some a → node_count (tree a) < node_count (tree r)
part_smaller (node n h rs) a i e = omega (arith, each_smaller rs i a e)

module _ (group : List PlainDatatype) where
  or_left : (a b : Bool) → a ≡ true → (a || b) ≡ true
  or_left true b e = refl
  or_left false b e = cc

  or_right : (a b : Bool) → b ≡ true → (a || b) ≡ true
  or_right true b e = refl
  or_right false b e = e

  neither : (a b : Bool) → a ≡ false → b ≡ false → (a || b) ≡ false
  neither true b e f = e
  neither false b e f = f

  each_found : (rs : NumberedSorts) (i : ℕ) (a : NumberedSort) → slice_get (node_list rs) i ≡ Some a → mentions group (tree a) ≡ true → each_mentions group (trees rs) ≡ true
  each_found no_nodes i a e t = cc
  each_found (more_nodes r rs) zero a e t = let s : r ≡ a = cc in or_left _ _ (ap (λ z. mentions group (tree z)) s ∙ t)
  each_found (more_nodes r rs) (suc i) a e t = or_right _ _ (each_found rs i a e t)

  pub part_mentions : (r a : NumberedSort) (i : ℕ) → slice_get (parts r) i ≡ Some a → mentions group (tree a) ≡ true → true ≡ mentions group (tree r)
  part_mentions (node n h rs) a i e t = sym (or_right _ _ (each_found rs i a e t))

  pub head_mentions : (r : NumberedSort) → is_of_group group (head r) ≡ true → true ≡ mentions group (tree r)
  head_mentions (node n h rs) t = sym (or_left _ _ t)

  none_of_each : (rs : NumberedSorts) → ((i : ℕ) (a : NumberedSort) → slice_get (node_list rs) i ≡ Some a → mentions group (tree a) ≡ false) → each_mentions group (trees rs) ≡ false
  none_of_each no_nodes h = refl
  none_of_each (more_nodes r rs) h = neither _ _ (h zero r refl) (none_of_each rs (λ i a e. h (suc i) a e))

  pub none_mentions : (r : NumberedSort) (n : ℕ) → is_of_group group (head r) ≡ false → length (parts r) ≤ n
      → ((i : ℕ) (a : NumberedSort) → i < n → slice_get (parts r) i ≡ Some a → mentions group (tree a) ≡ false) → false ≡ mentions group (tree r)
  none_mentions (node m h rs) n t l f = sym (neither _ _ t (none_of_each rs (λ i a e. f i a (omega (arith, l, slice_get_within (node_list rs) i a e)) e)))

pub ruleset mentions_words = (part_smaller, part_mentions, head_mentions)
