-- What a store is after a new tree came last.
use Rattle.std.proofs.Common.{◌≡◌, ℕ, List, [], ◌∷◌, ◌++◌, length, map, take, refl, ap, sym, ◌∙◌, arith, Some, inl, inr, subst}
use Rattle.std.proofs.lemmas.List.{map-append}
use Rattle.std.specs.List.{All, Contains, slice_get}
use Rattle.std.proofs.lemmas.List.Elements.{All-push, All-weaker}
use Rattle.sort_store.specs.declared.head.Head.{Head}
use Rattle.sort_store.specs.Tree.{Sort, sort, SortList, sorts, NumberedSort, node, NumberedSorts, no_nodes, more_nodes, nodes, tree, trees, number, node_count, nodes_count}
use Rattle.sort_store.specs.Size.{size_of_all}
use Rattle.sort_store.specs.Interned.{IsInterned, AllInterned, HasNoRepeats, Interns, IsStore}
use Rattle.sort_store.proofs.ArgumentLists.{trees-nodes, length-trees, node_list-nodes}
use Rattle.sort_store.specs.Tree as NT
use Rattle.std.proofs.lemmas.Option.{slice_get_within}
use Rattle.std.proofs.lemmas.List.{take-append-le}
use Rattle.std.proofs.Math.Seq.{take-append_seam}
use Rattle.sort_store.proofs.InternedSorts.{interned_append, each_interned_append, get_last, get_push, distinct_push, contains_from_get, interned_at}

-- the size of a sort with these arguments
pub size_of_all-sorts : (rs : List NumberedSort) → nodes_count (sorts (map tree rs)) ≡ size_of_all rs
size_of_all-sorts rs = ap nodes_count (sym (trees-nodes rs))

pub ruleset make_words = (size_of_all-sorts)

pub interns_old : (store : List Sort) (i : ℕ) (t : Sort) → slice_get store i ≡ Some t → Interns store store t
interns_old store i t e = inl (contains_from_get store i t e, refl)

pub interns_new : (old new : List Sort) (t : Sort) → (Contains old t → ⊥) → new ≡ old ++ t ∷ [] → Interns old new t
interns_new old new t f e = inr (f, e)

pub interned_contained : (store : List Sort) (r : NumberedSort) → IsInterned store r → Contains store (tree r)
interned_contained store r p = contains_from_get store (number r) (tree r) (interned_at store r p)

pub interns_interned : (store : List Sort) (r : NumberedSort) → IsInterned store r → Interns store store (tree r)
interns_interned store r p = inl (interned_contained store r p, refl)

pub ruleset intern_words = (interns_old, interns_new, interns_interned)

pub map_push : (made : List NumberedSort) (r : NumberedSort) → map tree (made ++ r ∷ []) ≡ map tree made ++ tree r ∷ []
map_push made r = map-append tree made (r ∷ [])

-- what a new entry gives
pub record NewEntry (made : List NumberedSort) (r : NumberedSort) (t : Sort) : Type 0 where
  pub stored : IsStore (made ++ r ∷ [])
  pub interned : IsInterned (map tree (made ++ r ∷ [])) r
  pub tree_is : tree r ≡ t
  pub distinct : HasNoRepeats (map tree (made ++ r ∷ []))

module _ (made : List NumberedSort) (h : Head) (rs : List NumberedSort) (old : IsStore made) (interned_parts : AllInterned (map tree made) rs)
    (absent : Contains (map tree made) (sort h (sorts (map tree rs))) → ⊥) where
  abbrev t : Sort
  t = sort h (sorts (map tree rs))

  abbrev r : NumberedSort
  r = node (length made) h (nodes rs)

  tree_is : tree r ≡ t
  tree_is = ap (sort h) (trees-nodes rs)

  put : map tree made ++ t ∷ [] ≡ map tree (made ++ r ∷ [])
  put = ap (λ z. map tree made ++ z ∷ []) (sym tree_is) ∙ sym (map_push made r)

  distinct_now : HasNoRepeats (map tree (made ++ r ∷ []))
  distinct_now = subst HasNoRepeats put (distinct_push (map tree made) t old.distinct absent)

  parts_precede : slice_get (map tree made ++ t ∷ []) (length made) ≡ Some (tree r)
  parts_precede = subst (λ n. slice_get (map tree made ++ t ∷ []) n ≡ Some (tree r)) (length-trees made) (get_last (map tree made) t ∙ ap Some (sym tree_is))

  interned_now : IsInterned (map tree (made ++ r ∷ [])) r
  interned_now = subst (λ s. IsInterned s r) put (parts_precede, each_interned_append (map tree made) (t ∷ []) (nodes rs) interned_parts)

  all_now : All (IsInterned (map tree (made ++ r ∷ []))) made
  all_now = All-weaker (IsInterned (map tree made)) (IsInterned (map tree (made ++ r ∷ []))) (λ x p. subst (λ s. IsInterned s x) put (interned_append (map tree made) (t ∷ []) x p)) made old.interned

  parts_precede_now : (k : ℕ) (x : NumberedSort) → slice_get (made ++ r ∷ []) k ≡ Some x → (number x ≡ k) × AllInterned (take k (map tree (made ++ r ∷ []))) (NT.parts x)
  parts_precede_now k x e =
      elim (get_push made r x k e) [
        | inl a ↦ (let o = old.parts_precede k x a in
            (o.0, subst (λ s. AllInterned s (NT.parts x)) (sym (ap (take k) (sym put) ∙ take-append-le k (map tree made) (t ∷ []) (omega (arith, length-trees made, slice_get_within made k x a)))) o.1))
        | inr a ↦ (
          ap number (sym a.1) ∙ sym a.0,
          subst (λ s. AllInterned s (NT.parts x)) (sym (ap (take k) (sym put) ∙ ap (λ n. take n (map tree made ++ t ∷ [])) (a.0 ∙ sym (length-trees made)) ∙ take-append_seam (map tree made) (t ∷ [])))
              (subst (AllInterned (map tree made)) (sym (node_list-nodes rs) ∙ ap NT.parts a.1) interned_parts),
        )
      ]

  pub new_entry : NewEntry made r t
  new_entry = record {
    stored = record { interned = All-push (IsInterned (map tree (made ++ r ∷ []))) made r all_now interned_now; parts_precede = parts_precede_now; distinct = distinct_now };
    interned = interned_now;
    tree_is = tree_is;
    distinct = distinct_now;
  }

-- the same for a copy of the new sort, and a store given by its view
pub added_as : (store : List Sort) (made new : List NumberedSort) (x copy : NumberedSort) (h : Head) (rs : List NumberedSort) → map tree made ≡ store → IsStore made → AllInterned store rs
    → (Contains store (sort h (sorts (map tree rs))) → ⊥) → x ≡ node (length made) h (nodes rs) → copy ≡ x → new ≡ made ++ copy ∷ []
    → IsStore new × (IsInterned (map tree new) x) × (tree x ≡ sort h (sorts (map tree rs))) × HasNoRepeats (map tree new)
added_as store made new x copy h rs v old parts absent is same put =
    let p = new_entry made h rs old (subst (λ s. AllInterned s rs) (sym v) parts) (subst (λ s. Contains s (sort h (sorts (map tree rs))) → ⊥) (sym v) absent) in
    let e : new ≡ made ++ node (length made) h (nodes rs) ∷ [] = cc in (
      subst IsStore (sym e) p.stored,
      subst (λ z. IsInterned (map tree new) z) (sym is) (subst (λ z. IsInterned (map tree z) (node (length made) h (nodes rs))) (sym e) p.interned),
      ap tree is ∙ p.tree_is,
      subst (λ z. HasNoRepeats (map tree z)) (sym e) p.distinct,
    )
