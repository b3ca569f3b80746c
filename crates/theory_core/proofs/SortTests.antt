-- What the head and the arguments of a sort say of its tree.
use Rattle.std.proofs.Common.{◌≡◌, ℕ, zero, suc, length, List, Some, None, refl, ap, sym, subst, ◌∙◌, arith}
use Rattle.std.specs.List.{slice_get}
use Rattle.sort_store.specs.declared.head.Head.{Head}
use Rattle.sort_store.specs.declared.head.Head.TheVariants as heads
use Rattle.sort_store.specs.Tree.{Sort, sort, no_sorts, more_sorts, NumberedSort, node, NumberedSorts, no_nodes, more_nodes, node_list, tree, trees, head, parts}
use Rattle.sort_store.specs.Interned.{IsInterned, AreInterned, InternedTogether}
use Rattle.theory_core.specs.ArraysRanks.{array}
use Rattle.theory_core.specs.Arguments.{IsArray, list_of, arguments_of}

-- a sort symbol alone
pub alone_from : (r : NumberedSort) (h : Head) (s : Sort) → head r ≡ h → length (parts r) ≡ 0 → sort h no_sorts ≡ s → tree r ≡ s
alone_from (node n g no_nodes) h s e l m = ap (λ k. sort k no_sorts) e ∙ m
alone_from (node n g (more_nodes r rs)) h s e l m = absurd (omega arith)

pub alone_head : (r : NumberedSort) (h : Head) (s : Sort) → sort h no_sorts ≡ s → tree r ≡ s → head r ≡ h
alone_head (node n g rs) h s m t = let e : sort g (trees rs) ≡ sort h no_sorts = t ∙ sym m in cc

pub alone_count : (r : NumberedSort) (h : Head) (s : Sort) → sort h no_sorts ≡ s → tree r ≡ s → length (parts r) ≡ 0
alone_count (node n g no_nodes) h s m t = refl
alone_count (node n g (more_nodes r rs)) h s m t = let e : sort g (more_sorts (tree r) (trees rs)) ≡ sort h no_sorts = t ∙ sym m in cc

pub ruleset basic_words = (alone_from, alone_head, alone_count)

-- an array sort
pub array_from : (r : NumberedSort) → head r ≡ heads.Array → length (parts r) ≡ 2 → IsArray (tree r)
array_from (node n g no_nodes) e l = absurd (omega arith)
array_from (node n g (more_nodes a no_nodes)) e l = absurd (omega arith)
array_from (node n g (more_nodes a (more_nodes b no_nodes))) e l = (tree a, tree b, ap (λ h. sort h (more_sorts (tree a) (more_sorts (tree b) no_sorts))) e)
array_from (node n g (more_nodes a (more_nodes b (more_nodes c rs)))) e l = absurd (omega arith)

pub array_head : (r : NumberedSort) → IsArray (tree r) → head r ≡ heads.Array
array_head (node n g rs) h = let e : sort g (trees rs) ≡ array h.0 h.1 = h.2 in cc

pub array_count : (r : NumberedSort) → IsArray (tree r) → length (parts r) ≡ 2
array_count (node n g no_nodes) h = let e = h.2 in cc
array_count (node n g (more_nodes a no_nodes)) h = let e = h.2 in cc
array_count (node n g (more_nodes a (more_nodes b no_nodes))) h = refl
array_count (node n g (more_nodes a (more_nodes b (more_nodes c rs)))) h = let e = h.2 in cc

pub ruleset array_words = (array_from, array_head, array_count)

-- an argument of a sort's symbol
argument_at : (rs : NumberedSorts) (i : ℕ) (x : NumberedSort) → slice_get (node_list rs) i ≡ Some x → slice_get (list_of (trees rs)) i ≡ Some (tree x)
argument_at no_nodes i x e = cc
argument_at (more_nodes r rs) zero x e = let s : r ≡ x = cc in ap (λ z. Some (tree z)) s
argument_at (more_nodes r rs) (suc i) x e = argument_at rs i x e

no_argument_at : (rs : NumberedSorts) (i : ℕ) → slice_get (node_list rs) i ≡ None → slice_get (list_of (trees rs)) i ≡ None
no_argument_at no_nodes i e = refl
no_argument_at (more_nodes r rs) zero e = cc
no_argument_at (more_nodes r rs) (suc i) e = no_argument_at rs i e

pub argument_is : (r x : NumberedSort) (i : ℕ) → slice_get (parts r) i ≡ Some x → slice_get (arguments_of (tree r)) i ≡ Some (tree x)
argument_is (node n h rs) x i e = argument_at rs i x e

pub no_argument : (r : NumberedSort) (i : ℕ) → slice_get (parts r) i ≡ None → slice_get (arguments_of (tree r)) i ≡ None
no_argument (node n h rs) i e = no_argument_at rs i e

part_interned : (store : List Sort) (rs : NumberedSorts) (i : ℕ) (x : NumberedSort) → AreInterned store rs → slice_get (node_list rs) i ≡ Some x → IsInterned store x
part_interned store no_nodes i x h e = cc
part_interned store (more_nodes r rs) zero x h e = let s : r ≡ x = cc in subst (IsInterned store) s h.0
part_interned store (more_nodes r rs) (suc i) x h e = part_interned store rs i x h.1 e

pub argument_together : (a b : NumberedSort) (i : ℕ) (x : NumberedSort) → InternedTogether a b → slice_get (parts a) i ≡ Some x → InternedTogether x b
argument_together (node n h rs) b i x t e = record { store = t.store; distinct = t.distinct; first = part_interned t.store rs i x t.first.1 e; second = t.second }

pub ruleset argument_words = (argument_is, no_argument, argument_together)
