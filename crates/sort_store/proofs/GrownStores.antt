-- A store that gained trees at its end, and the store of its first entries.
use Rattle.std.proofs.Common.{◌≡◌, ℕ, suc, zero, ◌+◌, ◌<◌, ◌≤◌, List, [], ◌∷◌, ◌++◌, length, take, map, refl, ap, sym, ◌∙◌, arith, subst, append_assoc, inl, inr, Some, get_or, Result, Ok, Err}
use Rattle.std.proofs.lemmas.List.{take_all, take_more, map-append}
use Rattle.std.specs.Result.{IfOk}
use Rattle.std.proofs.lemmas.List.{append-nil}
use Rattle.std.specs.List.{All, slice_get}
use Rattle.std.proofs.lemmas.Option.{slice_get-get_or}
use Rattle.sort_store.specs.Tree.{Sort, sorts, NumberedSort, node, NumberedSorts, no_nodes, more_nodes, nodes, node_list, tree, number, parts, nodes_count}
use Rattle.sort_store.specs.Size.{size_of_all}
use Rattle.sort_store.proofs.ArgumentLists.{size_at, trees-nodes}
use Rattle.sort_store.proofs.NewEntries.{size_of_all-sorts}
use Rattle.sort_store.specs.Interned.{IsInterned, AreInterned, AllInterned, HasNoRepeats, InternedTogether, Interns, Grows, IsStore}
use Rattle.sort_store.proofs.InternedSorts.{interned_append, each_interned_append}

pub grows_none : (store : List Sort) → Grows store store
grows_none store = ([], sym (append-nil store))

pub grows_more : (a b c : List Sort) → Grows a b → Grows b c → Grows a c
grows_more a b c p q = (p.0 ++ q.0, q.1 ∙ ap (λ z. z ++ q.0) p.1 ∙ append_assoc a p.0 q.0)

pub grows_interned : (a b : List Sort) (t : Sort) → Interns a b t → Grows a b
grows_interned a b t (inl p) = ([], p.1 ∙ sym (append-nil a))
grows_interned a b t (inr p) = (t ∷ [], p.1)

pub interned_grown : (a b : List Sort) (r : NumberedSort) → Grows a b → IsInterned a r → IsInterned b r
interned_grown a b r g h = subst (λ s. IsInterned s r) (sym g.1) (interned_append a g.0 r h)

pub all_interned_grown : (a b : List Sort) (rs : List NumberedSort) → Grows a b → AllInterned a rs → AllInterned b rs
all_interned_grown a b rs g h = subst (λ s. AllInterned s rs) (sym g.1) (each_interned_append a g.0 (nodes rs) h)

pub all_interned_push : (a : List Sort) (rs : List NumberedSort) (r : NumberedSort) → AllInterned a rs → IsInterned a r → AllInterned a (rs ++ r ∷ [])
all_interned_push a [] r h k = (k, tt)
all_interned_push a (x ∷ rs) r h k = (h.0, all_interned_push a rs r h.1 k)

-- two sorts that a store made, one before the other
pub together : (old new : List Sort) (a b : NumberedSort) → Grows old new → HasNoRepeats new → IsInterned old a → IsInterned new b → InternedTogether a b
together old new a b g d p q = record { store = new; distinct = d; first = interned_grown old new a g p; second = q }

pub take_grown : (a b : List Sort) → Grows a b → take (length a) b ≡ a
take_grown a b g = ap (take (length a)) g.1 ∙ by a g.0
  where
    by : (a more : List Sort) → take (length a) (a ++ more) ≡ a
    by [] more = refl
    by (t ∷ a) more = ap (λ z. t ∷ z) (by a more)

pub count_of_copies : (rs ss : List NumberedSort) → map tree rs ≡ map tree ss → size_of_all rs ≡ size_of_all ss
count_of_copies rs ss e = sym (size_of_all-sorts rs) ∙ ap (λ z. nodes_count (sorts z)) e ∙ size_of_all-sorts ss

pub ruleset grown_words = (count_of_copies, size_at, trees-nodes, grows_none, grows_more, grows_interned, interned_grown, all_interned_grown, all_interned_push, take_grown)

pub get_take : {X : Type 0} (n : ℕ) (xs : List X) (i : ℕ) (x : X) → slice_get (take n xs) i ≡ Some x → (slice_get xs i ≡ Some x) × (i < n)
get_take zero xs i x e = cc
get_take (suc n) [] i x e = cc
get_take (suc n) (y ∷ xs) zero x e = (e, omega arith)
get_take (suc n) (y ∷ xs) (suc i) x e = let r = get_take n xs i x e in (r.0, omega (arith, r.1))

pub take_take : {X : Type 0} (k n : ℕ) (xs : List X) → k ≤ n → take k (take n xs) ≡ take k xs
take_take zero n xs l = refl
take_take (suc k) zero xs l = absurd (omega arith)
take_take (suc k) (suc n) [] l = refl
take_take (suc k) (suc n) (y ∷ xs) l = ap (λ z. y ∷ z) (take_take k n xs (omega arith))

pub map_take : (n : ℕ) (rs : List NumberedSort) → map tree (take n rs) ≡ take n (map tree rs)
map_take zero rs = refl
map_take (suc n) [] = refl
map_take (suc n) (r ∷ rs) = ap (λ z. tree r ∷ z) (map_take n rs)

pub take_grows : (k n : ℕ) (s : List Sort) → k ≤ n → Grows (take k s) (take n s)
take_grows zero n s l = (take n s, refl)
take_grows (suc k) zero s l = absurd (omega arith)
take_grows (suc k) (suc n) [] l = ([], refl)
take_grows (suc k) (suc n) (t ∷ s) l = let g = take_grows k n s (omega arith) in (g.0, ap (λ z. t ∷ z) g.1)

pub get_map : {X Y : Type 0} (f : X → Y) (xs : List X) (k : ℕ) (x : X) → slice_get xs k ≡ Some x → slice_get (map f xs) k ≡ Some (f x)
get_map f [] k x e = cc
get_map f (y ∷ xs) zero x e = let s : y ≡ x = cc in ap (λ z. Some (f z)) s
get_map f (y ∷ xs) (suc k) x e = get_map f xs k x e

pub nodes-node_list : (rs : NumberedSorts) → nodes (node_list rs) ≡ rs
nodes-node_list no_nodes = refl
nodes-node_list (more_nodes r rs) = ap (more_nodes r) (nodes-node_list rs)

interned_from_parts : (s : List Sort) (r : NumberedSort) → slice_get s (number r) ≡ Some (tree r) → AllInterned s (parts r) → IsInterned s r
interned_from_parts s (node n h rs) e p = (e, subst (AreInterned s) (nodes-node_list rs) p)

pub all_from_at : {X : Type 0} (P : X → Type 0) (xs : List X) → ((k : ℕ) (x : X) → slice_get xs k ≡ Some x → P x) → All P xs
all_from_at P xs f k d l = f k (get_or xs k d) (slice_get-get_or xs k d l)

-- a front of a store is a store
pub first_stored : (n : ℕ) (made : List NumberedSort) → IsStore made → IsStore (take n made)
first_stored n made old =
    let front = sym (map_take n made) in
    let parts_precede : (k : ℕ) (r : NumberedSort) → slice_get (take n made) k ≡ Some r → (number r ≡ k) × AllInterned (take k (map tree (take n made))) (parts r) =
    λ k r e. (let g = get_take n made k r e in
    let o = old.parts_precede k r g.0 in
    (o.0, subst (λ s. AllInterned s (parts r)) (sym (ap (take k) (map_take n made) ∙ take_take k n (map tree made) (omega (arith, g.1)))) o.1)) in
    record {
      interned = all_from_at (IsInterned (map tree (take n made))) (take n made) (λ k r e.
          (let g = get_take n made k r e in
          let o = old.parts_precede k r g.0 in
          interned_from_parts (map tree (take n made)) r (ap (slice_get (map tree (take n made))) o.0 ∙ get_map tree (take n made) k r e)
          (subst (λ s. AllInterned s (parts r)) front (all_interned_grown (take k (map tree made)) (take n (map tree made)) (parts r) (take_grows k n (map tree made) (omega (arith, g.1))) o.1))));
      parts_precede = parts_precede;
      distinct = record {
        distinct = λ i j t p q.
            old.distinct.distinct i j t (get_take n (map tree made) i t (subst (λ s. slice_get s i ≡ Some t) (map_take n made) p)).0 (get_take n (map tree made) j t (subst (λ s. slice_get s j ≡ Some t) (map_take n made) q)).0;
      };
    }

-- one more tree in the list of trees
pub record Listed (f : NumberedSort → Sort) (start now : List Sort) (made xs : List NumberedSort) : Type 0 where
  pub grows : Grows start now
  pub interned : AllInterned now made
  pub same : map tree made ≡ map f xs

pub listed_step : (f : NumberedSort → Sort) (start before after : List Sort) (made new xs : List NumberedSort) (r x : NumberedSort) (i : ℕ) → Grows start before → AllInterned before made → map tree made ≡ map f (take i xs)
    → Grows before after → IsInterned after r → tree r ≡ f x → i < length xs → x ≡ get_or xs i x → new ≡ made ++ r ∷ [] → Listed f start after new (take (i + 1) xs)
listed_step f start before after made new xs r x i g h m g' k t l at put = record {
  grows = grows_more start before after g g';
  interned = subst (AllInterned after) (sym put) (all_interned_push after made r (all_interned_grown before after made g' h) k);
  same = ap (map tree) put ∙ map-append tree made (r ∷ []) ∙ ap (λ z. z ++ tree r ∷ []) m ∙ ap (λ z. map f (take i xs) ++ z ∷ []) (t ∙ ap f at)
      ∙ sym (ap (map f) (take_more xs i x l) ∙ map-append f (take i xs) (get_or xs i x ∷ []));
}

pub all_listed : (f : NumberedSort → Sort) (made xs : List NumberedSort) (i : ℕ) → map tree made ≡ map f (take i xs) → length xs ≤ i → map tree made ≡ map f xs
all_listed f made xs i m l = m ∙ ap (map f) (take_all i xs l)

pub ok_more : {E : Type 0} (P Q : NumberedSort → Type 0) (o : Result NumberedSort E) → ((r : NumberedSort) → P r → Q r) → IfOk o P → IfOk o Q
ok_more P Q (Ok r) f h = f r h
ok_more P Q (Err e) f h = tt
