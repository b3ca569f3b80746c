-- What is interned in a store stays interned as the store grows, and its number tells its tree.
use Rattle.std.proofs.Common.{◌≡◌, ℕ, suc, zero, List, [], ◌∷◌, ◌++◌, length, refl, ap, arith, Some, ◌⊎◌, inl, inr}
use Rattle.std.specs.List.{Contains, slice_get}
use Rattle.sort_store.specs.Tree.{Sort, sort, NumberedSort, node, NumberedSorts, no_nodes, more_nodes, tree, trees, number}
use Rattle.sort_store.specs.Interned.{IsInterned, AreInterned, HasNoRepeats, InternedTogether}

pub get_append : {X : Type 0} (xs ys : List X) (i : ℕ) (x : X) → slice_get xs i ≡ Some x → slice_get (xs ++ ys) i ≡ Some x
get_append [] ys i x e = cc
get_append (y ∷ xs) ys zero x e = e
get_append (y ∷ xs) ys (suc i) x e = get_append xs ys i x e

mutual
  pub interned_append : (store more : List Sort) (r : NumberedSort) → IsInterned store r → IsInterned (store ++ more) r
  interned_append store more (node n h rs) p = (get_append store more n (sort h (trees rs)) p.0, each_interned_append store more rs p.1)

  pub each_interned_append : (store more : List Sort) (rs : NumberedSorts) → AreInterned store rs → AreInterned (store ++ more) rs
  each_interned_append store more no_nodes p = tt
  each_interned_append store more (more_nodes r rs) p = (interned_append store more r p.0, each_interned_append store more rs p.1)

-- the last place of a list that grew by one
pub get_last : {X : Type 0} (xs : List X) (x : X) → slice_get (xs ++ x ∷ []) (length xs) ≡ Some x
get_last [] x = refl
get_last (y ∷ xs) x = get_last xs x

-- a read in a list that grew by one
pub get_push : {X : Type 0} (xs : List X) (x y : X) (i : ℕ) → slice_get (xs ++ x ∷ []) i ≡ Some y → (slice_get xs i ≡ Some y) ⊎ ((i ≡ length xs) × (x ≡ y))
get_push [] x y zero e = inr (refl, cc)
get_push [] x y (suc i) e = cc
get_push (z ∷ xs) x y zero e = inl e
get_push (z ∷ xs) x y (suc i) e = elim (get_push xs x y i e) [ inl p ↦ inl p | inr p ↦ inr (ap suc p.0, p.1) ]

pub contains_from_get : {X : Type 0} (xs : List X) (i : ℕ) (x : X) → slice_get xs i ≡ Some x → Contains xs x
contains_from_get [] i x e = cc
contains_from_get (y ∷ xs) zero x e = (0, omega arith, cc)
contains_from_get (y ∷ xs) (suc i) x e = let h = contains_from_get xs i x e in (suc h.0, omega (arith, h.1), h.2)

pub distinct_push : (store : List Sort) (t : Sort) → HasNoRepeats store → (Contains store t → ⊥) → HasNoRepeats (store ++ t ∷ [])
distinct_push store t h new = record {
  distinct = λ i j u p q.
      elim (get_push store t u i p) [
        | inl a ↦ elim (get_push store t u j q) [
          | inl b ↦ h.distinct i j u a b
          | inr b ↦ absurd (new (contains_from_get store i t (cc (a, b.1))))
        ]
        | inr a ↦ elim (get_push store t u j q) [
          | inl b ↦ absurd (new (contains_from_get store j t (cc (b, a.1))))
          | inr b ↦ cc (a.0, b.0)
        ]
      ];
}

pub interned_at : (store : List Sort) (r : NumberedSort) → IsInterned store r → slice_get store (number r) ≡ Some (tree r)
interned_at store (node n h rs) p = p.0

-- two sorts of one store have equal trees exactly where they have one number
pub trees_from_numbers : (a b : NumberedSort) → InternedTogether a b → number a ≡ number b → tree a ≡ tree b
trees_from_numbers a b h e =
    let p = interned_at h.store a h.first in
    let q = interned_at h.store b h.second in
    cc (p, q, e)

pub numbers_from_trees : (a b : NumberedSort) → InternedTogether a b → tree a ≡ tree b → number a ≡ number b
numbers_from_trees a b h e =
    let p = interned_at h.store a h.first in
    let q = interned_at h.store b h.second in
    h.distinct.distinct (number a) (number b) (tree a) p (cc (q, e))

pub ruleset number_words = (trees_from_numbers, numbers_from_trees)
