-- The text of a sort nests no deeper than the sort has nodes.
use Rattle.std.proofs.Common.{◌≡◌, ◌≤◌, ◌+◌, List, [], ◌∷◌, arith, max, refl}
use Rattle.sort_store.specs.Depth.{head_depth, depth, depth_each, depth_all}
use Rattle.sort_store.specs.Size.{size_of_all}
use Rattle.sort_store.specs.declared.head.Head.{Head}
use Rattle.sort_store.specs.declared.head.Head.TheVariants as H
use Rattle.sort_store.specs.Tree.{Sort, sort, SortList, no_sorts, more_sorts, NumberedSort, nodes, trees, node_count, nodes_count}

pub head_depth_small : (h : Head) → head_depth h ≤ 1
head_depth_small (H.BitVec m) = omega arith
head_depth_small _ = omega arith

node_count_positive : (t : Sort) → 1 ≤ node_count t
node_count_positive (sort h ts) = omega arith

mutual
  pub depth_small : (t : Sort) → depth t ≤ node_count t
  depth_small (sort h no_sorts) = omega (arith, head_depth_small h)
  depth_small (sort h (more_sorts t ts)) = omega (arith, head_depth_small h, node_count_positive t, depth_small t, depths_small ts)

  pub depths_small : (ts : SortList) → depth_each ts ≤ nodes_count ts
  depths_small no_sorts = omega arith
  depths_small (more_sorts t ts) = omega (arith, depth_small t, depths_small ts)

pub depth_all_small : (rs : List NumberedSort) → depth_all rs ≤ size_of_all rs
depth_all_small rs = depths_small (trees (nodes rs))

-- a head alone, and one with arguments
pub depth_alone : (h : Head) (rs : List NumberedSort) → rs ≡ [] → head_depth h ≡ depth (sort h (trees (nodes rs)))
depth_alone h [] e = refl
depth_alone h (r ∷ rs) e = cc

pub depth_applied : (h : Head) (rs : List NumberedSort) → (rs ≡ [] → ⊥) → max (depth_all rs) (head_depth h) + 1 ≡ depth (sort h (trees (nodes rs)))
depth_applied h [] n = absurd (n refl)
depth_applied h (r ∷ rs) n = omega arith

pub ruleset depth_words = (depth_all_small, head_depth_small, depth_alone, depth_applied)
