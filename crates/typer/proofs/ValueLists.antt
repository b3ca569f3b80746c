-- The values of the first parameters of a binding, as a list.
use Rattle.std.proofs.Common.{◌≡◌, ℕ, zero, suc, ◌<◌, List, [], ◌∷◌, ◌++◌, length, length-append, map, Option, Some, None, ◌⊎◌, inl, inr, refl, ap, sym, ◌∙◌, arith, slice_get, subst}
use Rattle.std.proofs.lemmas.List.{length-map}
use Rattle.sort_store.specs.Tree.{Sort, NumberedSort, tree}
use Rattle.sort_store.specs.Interned.{AllInterned}
use Rattle.sort_store.specs.Binding.{value_at, HasValue, Agrees, ValuesInterned}
use Rattle.sort_store.proofs.GrownStores.{all_interned_push}

abbrev pub Binding : Type 0
Binding = List (Option NumberedSort)

pub record AreValues (binding : Binding) (n : ℕ) (values : List NumberedSort) : Type 0 where
  pub count : length values ≡ n
  pub same : (i : ℕ) (v : NumberedSort) → i < n → value_at binding i ≡ Some v → slice_get values i ≡ Some v
  pub interned : (store : List Sort) → ValuesInterned store binding → AllInterned store values

pub no_values : (binding : Binding) → AreValues binding 0 []
no_values binding = record { count = refl; same = λ i v l. absurd (omega (arith, l)); interned = λ store h. tt }

get_front : (vs : List NumberedSort) (w : NumberedSort) (i : ℕ) (v : NumberedSort) → slice_get vs i ≡ Some v → slice_get (vs ++ w ∷ []) i ≡ Some v
get_front [] w i v e = cc
get_front (u ∷ vs) w zero v e = e
get_front (u ∷ vs) w (suc i) v e = get_front vs w i v e

get_last : (vs : List NumberedSort) (w : NumberedSort) (i : ℕ) → length vs ≡ i → slice_get (vs ++ w ∷ []) i ≡ Some w
get_last [] w zero e = refl
get_last [] w (suc i) e = cc
get_last (u ∷ vs) w zero e = cc
get_last (u ∷ vs) w (suc i) e = get_last vs w i (omega (arith, e))

below_or_last : (i n : ℕ) → i < suc n → (i < n) ⊎ (i ≡ n)
below_or_last zero zero l = inr refl
below_or_last zero (suc n) l = inl (omega arith)
below_or_last (suc i) zero l = absurd (omega (arith, l))
below_or_last (suc i) (suc n) l = elim (below_or_last i n (omega (arith, l))) [ inl m ↦ inl (omega (arith, m)) | inr e ↦ inr (ap suc e) ]

same_value : (v w : NumberedSort) (o : Option NumberedSort) → o ≡ Some v → o ≡ Some w → v ≡ w
same_value v w o e f = cc

pub values_push : (binding : Binding) (n : ℕ) (values new : List NumberedSort) (w : NumberedSort) → AreValues binding n values → value_at binding n ≡ Some w → new ≡ values ++ w ∷ [] → AreValues binding (suc n) new
values_push binding n values new w h e put = subst (AreValues binding (suc n)) (sym put) (record {
  count = omega (arith, h.count, length-append values (w ∷ []));
  same = λ i v l f. elim (below_or_last i n l) [
    | inl m ↦ get_front values w i v (h.same i v m f)
    | inr s ↦ get_last values w i (h.count ∙ sym s) ∙ ap Some (same_value w v (value_at binding n) e (ap (value_at binding) (sym s) ∙ f))
  ];
  interned = λ store k. all_interned_push store values w (h.interned store k) (k n w e);
})

get_tree : (vs : List NumberedSort) (i : ℕ) (v : NumberedSort) → slice_get vs i ≡ Some v → slice_get (map tree vs) i ≡ Some (tree v)
get_tree [] i v e = cc
get_tree (u ∷ vs) zero v e = let s : u ≡ v = cc in ap (λ z. Some (tree z)) s
get_tree (u ∷ vs) (suc i) v e = get_tree vs i v e

within : (binding : Binding) (i : ℕ) (v : NumberedSort) → value_at binding i ≡ Some v → i < length binding
within [] i v e = cc
within (o ∷ binding) zero v e = omega arith
within (o ∷ binding) (suc i) v e = omega (arith, within binding i v e)

pub all_values : (binding : Binding) (n : ℕ) (values : List NumberedSort) → length binding ≡ n → AreValues binding n values → Agrees binding (map tree values)
all_values binding n values c h = record {
  count = length-map values tree ∙ h.count ∙ sym c;
  same = λ i v e. get_tree values i v (h.same i v (omega (arith, c, within binding i v e)) e);
}

pub no_value : (binding : Binding) (i : ℕ) → HasValue binding i → value_at binding i ≡ None → ⊥
no_value binding i h e = let f = h.1 in cc

pub ruleset value_words = (no_values, values_push, all_values, no_value)
