-- The parts of the sorts behind references, as a walk meets them.
use Rattle.std.proofs.Common.{◌≡◌, ℕ, suc, zero, ◌<◌, ◌≤◌, ◌+◌, Bool, true, false, ◌||◌, ◌&&◌, not, List, [], ◌∷◌, length, Some, slice_get, drop, refl, ap, sym, ◌∙◌, add-one, arith}
use Rattle.sort_store.specs.Tree.{SortList, NumberedSort, NumberedSorts, node, no_nodes, more_nodes, head, parts, tree, trees, nodes, node_list, node_count, nodes_count}
use Rattle.logic_frag.specs.declared.logic.ArrayPart.{ArrayPart}
use Rattle.logic_frag.specs.SortSearch.{any_has_sort, is_element, is_element_head, are_elements, is_element_tree, is_other_array, is_partial, is_array_head, has_array_tree, has_other_array}

nodes-node_list : (rs : NumberedSorts) → nodes (node_list rs) ≡ rs
nodes-node_list no_nodes = refl
nodes-node_list (more_nodes r rs) = ap (more_nodes r) (nodes-node_list rs)

-- a sort of no arguments
pub element_alone : (part : ArrayPart) (r : NumberedSort) → length (parts r) ≡ 0 → is_element part (tree r) ≡ is_element_head part (head r)
element_alone part (node n h no_nodes) e = refl
element_alone part (node n h (more_nodes r rs)) e = absurd (omega (arith, e))

pub element_applied : (part : ArrayPart) (r : NumberedSort) → (length (parts r) ≡ 0 → ⊥) → is_element part (tree r) ≡ false
element_applied part (node n h no_nodes) e = absurd (e refl)
element_applied part (node n h (more_nodes r rs)) e = refl

abbrev pub argument_list : NumberedSort → SortList
argument_list r = trees (nodes (parts r))

pub two_elements : (part : ArrayPart) (r : NumberedSort) → length (parts r) ≡ 2 → are_elements part (argument_list r) ≡ (is_element_tree part (slice_get (parts r) 0) && is_element_tree part (slice_get (parts r) 1))
two_elements part (node n h no_nodes) e = absurd (omega (arith, e))
two_elements part (node n h (more_nodes r no_nodes)) e = absurd (omega (arith, e))
two_elements part (node n h (more_nodes r (more_nodes s no_nodes))) e = refl
two_elements part (node n h (more_nodes r (more_nodes s (more_nodes t ts)))) e = absurd (omega (arith, e))

pub other_count : (part : ArrayPart) (r : NumberedSort) → (length (parts r) ≡ 2 → ⊥) → are_elements part (argument_list r) ≡ false
other_count part (node n h no_nodes) e = refl
other_count part (node n h (more_nodes r no_nodes)) e = refl
other_count part (node n h (more_nodes r (more_nodes s no_nodes))) e = absurd (e refl)
other_count part (node n h (more_nodes r (more_nodes s (more_nodes t ts)))) e = refl

pub other_array_parts : (part : ArrayPart) (r : NumberedSort) → is_other_array part (tree r) ≡ ((is_partial part && is_array_head (head r)) && not (are_elements part (argument_list r)))
other_array_parts part (node n h rs) = ap (λ x. (is_partial part && is_array_head h) && not (are_elements part (trees x))) (sym (nodes-node_list rs))

array_parts : (part : ArrayPart) (r : NumberedSort) → has_other_array part (tree r) ≡ (is_other_array part (tree r) || any_has_sort (is_other_array part) (argument_list r))
array_parts part (node n h rs) = ap (λ x. is_other_array part (tree (node n h rs)) || any_has_sort (is_other_array part) (trees x)) (sym (nodes-node_list rs))

part_count : (rs : List NumberedSort) (i : ℕ) (r : NumberedSort) → slice_get rs i ≡ Some r → node_count (tree r) ≤ nodes_count (trees (nodes rs))
part_count [] i r e = cc
part_count (s ∷ rs) zero r e = let same : s ≡ r = cc in omega (arith, ap (λ x. node_count (tree x)) same)
part_count (s ∷ rs) (suc i) r e = omega (arith, part_count rs i r e)

pub part_smaller : (r s : NumberedSort) (i : ℕ) → slice_get (parts r) i ≡ Some s → node_count (tree s) < node_count (tree r)
part_smaller (node n h rs) s i e = omega (arith, part_count (node_list rs) i s e, ap (λ x. nodes_count (trees x)) (nodes-node_list rs))

-- the arguments from a place on
arguments_after : (part : ArrayPart) (rs : List NumberedSort) (i : ℕ) → i < length rs
    → any_has_sort (is_other_array part) (trees (nodes (drop i rs))) ≡ (has_array_tree part (slice_get rs i) || any_has_sort (is_other_array part) (trees (nodes (drop (suc i) rs))))
arguments_after part [] i l = absurd (omega (arith, l))
arguments_after part (r ∷ rs) zero l = refl
arguments_after part (r ∷ rs) (suc i) l = arguments_after part rs i (omega (arith, l))

arguments_on : (part : ArrayPart) (rs : List NumberedSort) (i : ℕ) → i < length rs
    → any_has_sort (is_other_array part) (trees (nodes (drop i rs))) ≡ (has_array_tree part (slice_get rs i) || any_has_sort (is_other_array part) (trees (nodes (drop (i + 1) rs))))
arguments_on part rs i l = rw add-one (arguments_after part rs i l)

no_arguments : (part : ArrayPart) (rs : List NumberedSort) (i : ℕ) → length rs ≤ i → any_has_sort (is_other_array part) (trees (nodes (drop i rs))) ≡ false
no_arguments part [] zero l = refl
no_arguments part [] (suc i) l = refl
no_arguments part (r ∷ rs) zero l = absurd (omega (arith, l))
no_arguments part (r ∷ rs) (suc i) l = no_arguments part rs i (omega (arith, l))

pub found_itself : (part : ArrayPart) (r : NumberedSort) → is_other_array part (tree r) ≡ true → has_other_array part (tree r) ≡ true
found_itself part r h = array_parts part r ∙ ap (λ b. b || any_has_sort (is_other_array part) (argument_list r)) h

or_true : (b : Bool) → (b || true) ≡ true
or_true true = refl
or_true false = refl

-- what the loop over the arguments of a sort knows once it is at a place
module _ (part : ArrayPart) (r : NumberedSort) (i : ℕ) (kept : any_has_sort (is_other_array part) (trees (nodes (drop i (parts r)))) ≡ any_has_sort (is_other_array part) (argument_list r)) where
  pub argument_found : i < length (parts r) → has_array_tree part (slice_get (parts r) i) ≡ true → true ≡ has_other_array part (tree r)
  argument_found l h =
      let rest = any_has_sort (is_other_array part) (trees (nodes (drop (i + 1) (parts r)))) in
      let all = sym kept ∙ arguments_on part (parts r) i l ∙ ap (λ b. b || rest) h in
      sym (array_parts part r ∙ ap (λ b. is_other_array part (tree r) || b) all ∙ or_true (is_other_array part (tree r)))

  pub argument_passed : i < length (parts r) → has_array_tree part (slice_get (parts r) i) ≡ false
      → any_has_sort (is_other_array part) (trees (nodes (drop (i + 1) (parts r)))) ≡ any_has_sort (is_other_array part) (argument_list r)
  argument_passed l h =
      let rest = any_has_sort (is_other_array part) (trees (nodes (drop (i + 1) (parts r)))) in
      sym (arguments_on part (parts r) i l ∙ ap (λ b. b || rest) h) ∙ kept

  pub arguments_passed : is_other_array part (tree r) ≡ false → length (parts r) ≤ i → false ≡ has_other_array part (tree r)
  arguments_passed no_array l =
      let all = any_has_sort (is_other_array part) (argument_list r) in
      sym (array_parts part r ∙ ap (λ b. b || all) no_array ∙ sym kept ∙ no_arguments part (parts r) i l)

pub ruleset element_words = (element_alone, element_applied)

pub ruleset array_words = (two_elements, other_count, other_array_parts)

pub ruleset argument_words = (found_itself, part_smaller)
