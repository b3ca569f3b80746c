-- The keys of a store's table tell its trees apart.
use Rattle.std.proofs.Common.{◌≡◌, ℕ, suc, zero, ◌<◌, List, [], ◌∷◌, ◌++◌, length, get_or, map, take, refl, ap, sym, ◌∙◌, arith, Some, None, Option, subst}
use Rattle.std.specs.Option.{IfSome, IfNone}
use Rattle.std.specs.Borrow.{Bor}
use Rattle.std.specs.List.{All, Contains, slice_get}
use Rattle.std.specs.Map.{values_of}
use Rattle.std.proofs.lemmas.List.{map-append}
use Rattle.std.proofs.lemmas.List.Elements.{All-head, All-tail, All-push}
use Rattle.sort_store.specs.declared.sort_key.SortKey.{SortKey}
use Rattle.sort_store.specs.Tree.{Sort, sort, sorts, NumberedSort, node, nodes, node_list, tree, trees, number, head, parts}
use Rattle.sort_store.specs.Interned.{IsInterned, AreInterned, AllInterned, HasNoRepeats, IsStore}
use Rattle.sort_store.specs.SortKeys.{MapsTo, LacksKey, IsKeyOf, IsKeyedStore}
use Rattle.sort_store.proofs.ArgumentLists.{sorts_same, trees-nodes, node_list-nodes}
use Rattle.sort_store.proofs.InternedSorts.{interned_at}
use Rattle.sort_store.proofs.NewEntries.{added_as, interned_contained}
use Rattle.sort_store.proofs.GrownStores.{first_stored, map_take, get_take, all_from_at, get_map, nodes-node_list}

pub all_at : {X : Type 0} (P : X → Type 0) (xs : List X) (k : ℕ) (x : X) → All P xs → slice_get xs k ≡ Some x → P x
all_at P [] k x a e = cc
all_at P (y ∷ xs) zero x a e = let s : y ≡ x = cc in subst P s (All-head P y xs a)
all_at P (y ∷ xs) (suc k) x a e = all_at P xs k x (All-tail P y xs a) e

pub get_map_back : {X Y : Type 0} (f : X → Y) (xs : List X) (k : ℕ) (y : Y) → slice_get (map f xs) k ≡ Some y → (x : X) × (slice_get xs k ≡ Some x) × (f x ≡ y)
get_map_back f [] k y e = cc
get_map_back f (x ∷ xs) zero y e = (x, refl, cc)
get_map_back f (x ∷ xs) (suc k) y e = get_map_back f xs k y e

pub get_from_contains : {X : Type 0} (xs : List X) (k : ℕ) (x : X) → k < length xs → get_or xs k x ≡ x → slice_get xs k ≡ Some x
get_from_contains [] k x l e = absurd (omega arith)
get_from_contains (y ∷ xs) zero x l e = ap Some e
get_from_contains (y ∷ xs) (suc k) x l e = get_from_contains xs k x (omega arith) e

pub parts_interned : (store : List Sort) (r : NumberedSort) → IsInterned store r → AllInterned store (parts r)
parts_interned store (node n h rs) p = subst (AreInterned store) (sym (nodes-node_list rs)) p.1

pub tree_by_parts : (r : NumberedSort) → tree r ≡ sort (head r) (sorts (map tree (parts r)))
tree_by_parts (node n h rs) = ap (sort h) (ap trees (sym (nodes-node_list rs)) ∙ trees-nodes (node_list rs))

pub trees_from_numbers_each : (store : List Sort) (xs ys : List NumberedSort) → AllInterned store xs → AllInterned store ys → map number xs ≡ map number ys → map tree xs ≡ map tree ys
trees_from_numbers_each store [] [] p q e = refl
trees_from_numbers_each store [] (y ∷ ys) p q e = cc
trees_from_numbers_each store (x ∷ xs) [] p q e = cc
trees_from_numbers_each store (x ∷ xs) (y ∷ ys) p q e =
    let n : number x ≡ number y = cc in
    let m : map number xs ≡ map number ys = cc in
    let a = interned_at store x p.0 in
    let b = interned_at store y q.0 in
    let t : tree x ≡ tree y = cc (a, b, n) in
    let r = trees_from_numbers_each store xs ys p.1 q.1 m in
    cc (t, r)

pub numbers_from_trees_each : (store : List Sort) (xs ys : List NumberedSort) → HasNoRepeats store → AllInterned store xs → AllInterned store ys → map tree xs ≡ map tree ys → map number xs ≡ map number ys
numbers_from_trees_each store [] [] d p q e = refl
numbers_from_trees_each store [] (y ∷ ys) d p q e = cc
numbers_from_trees_each store (x ∷ xs) [] d p q e = cc
numbers_from_trees_each store (x ∷ xs) (y ∷ ys) d p q e =
    let t : tree x ≡ tree y = cc in
    let m : map tree xs ≡ map tree ys = cc in
    let a = interned_at store x p.0 in
    let b = interned_at store y q.0 in
    let n = d.distinct (number x) (number y) (tree x) a (cc (b, t)) in
    let r = numbers_from_trees_each store xs ys d p.1 q.1 m in
    cc (n, r)

-- what a look-up finds is the tree
pub found_interned : (entries : List (SortKey × NumberedSort)) (key : SortKey) (r : NumberedSort) (rs : List NumberedSort) → IsKeyedStore entries → AllInterned (map tree (values_of entries)) rs
    → key.args.items ≡ map number rs → MapsTo entries key r → (tree r ≡ sort key.head (sorts (map tree rs))) × IsInterned (map tree (values_of entries)) r
found_interned entries key r rs old interned numbers has =
    let e = has.1 in
    let at = all_at IsKeyOf entries has.0 e old.keyed has.2 in
    let here = subst (IsInterned (map tree (values_of entries))) has.4 (all_at (IsInterned (map tree (values_of entries))) (values_of entries) has.0 e.1 old.stored.interned (get_map (λ z. z.1) entries has.0 e has.2)) in
    let same : map number (parts r) ≡ map number rs = ap (λ z. map number (parts z)) (sym has.4) ∙ sym at.numbers ∙ sym has.3.1 ∙ numbers in
    let trees_are = trees_from_numbers_each (map tree (values_of entries)) (parts r) rs (parts_interned (map tree (values_of entries)) r here) interned same in
    let heads : head r ≡ key.head = ap head (sym has.4) ∙ sym at.heads ∙ sym has.3.0 in
    (tree_by_parts r ∙ ap (λ z. sort z (sorts (map tree (parts r)))) heads ∙ ap (λ z. sort key.head (sorts z)) trees_are, here)

-- where none is found, the store lacks the tree
pub missing_interned : (entries : List (SortKey × NumberedSort)) (key : SortKey) (rs : List NumberedSort) → IsKeyedStore entries → AllInterned (map tree (values_of entries)) rs
    → key.args.items ≡ map number rs → LacksKey entries key → Contains (map tree (values_of entries)) (sort key.head (sorts (map tree rs))) → ⊥
missing_interned entries key rs old interned numbers lacks has =
    let store = map tree (values_of entries) in
    let t = sort key.head (sorts (map tree rs)) in
    let g = get_from_contains store has.0 t has.1 has.2 in
    let v = get_map_back tree (values_of entries) has.0 t g in
    let w = get_map_back (λ z. z.1) entries has.0 v.0 v.1 in
    let e = w.0 in
    let at = all_at IsKeyOf entries has.0 e old.keyed w.1 in
    let here = all_at (IsInterned store) (values_of entries) has.0 v.0 old.stored.interned v.1 in
    let made : sort (head v.0) (sorts (map tree (parts v.0))) ≡ t = sym (tree_by_parts v.0) ∙ v.2 in
    let heads : head v.0 ≡ key.head = cc (made) in
    let lists : sorts (map tree (parts v.0)) ≡ sorts (map tree rs) = cc (made) in
    let same = sorts_same (map tree (parts v.0)) (map tree rs) lists in
    let nums = numbers_from_trees_each store (parts v.0) rs old.stored.distinct (parts_interned store v.0 here) interned same in
    lacks has.0 e w.1 (sym (at.heads ∙ ap head w.2 ∙ heads), numbers ∙ sym (at.numbers ∙ ap (λ z. map number (parts z)) w.2 ∙ nums))

-- a new tree has a new key
pub lacks_from_absent : (entries : List (SortKey × NumberedSort)) (key : SortKey) (rs : List NumberedSort) → IsKeyedStore entries → AllInterned (map tree (values_of entries)) rs
    → key.args.items ≡ map number rs → (Contains (map tree (values_of entries)) (sort key.head (sorts (map tree rs))) → ⊥) → LacksKey entries key
lacks_from_absent entries key rs old interned numbers absent k e at same =
    let f = found_interned entries key e.1 rs old interned numbers (k, e, at, same, refl) in
    absent (subst (Contains (map tree (values_of entries))) f.0 (interned_contained (map tree (values_of entries)) e.1 f.1))

-- what `find_interned` says of what it found
pub found_words : (store : List Sort) (entries : List (SortKey × NumberedSort)) (key : SortKey) (rs : List NumberedSort) (o : Option (Bor NumberedSort)) → map tree (values_of entries) ≡ store → IsKeyedStore entries → AllInterned store rs
    → key.args.items ≡ map number rs → IfSome o (λ r. MapsTo entries key r.now) → IfSome o (λ r. (tree r.now ≡ sort key.head (sorts (map tree rs))) × IsInterned store r.now)
found_words store entries key rs None v old interned numbers h = tt
found_words store entries key rs (Some r) v old interned numbers h =
    subst (λ s. (tree r.now ≡ sort key.head (sorts (map tree rs))) × IsInterned s r.now) v (found_interned entries key r.now rs old (subst (λ s. AllInterned s rs) (sym v) interned) numbers h)

pub some_first : (P Q : Bor NumberedSort → Type 0) (o : Option (Bor NumberedSort)) → IfSome o (λ r. P r × Q r) → IfSome o P
some_first P Q None h = tt
some_first P Q (Some r) h = h.0

pub some_second : (P Q : Bor NumberedSort → Type 0) (o : Option (Bor NumberedSort)) → IfSome o (λ r. P r × Q r) → IfSome o Q
some_second P Q None h = tt
some_second P Q (Some r) h = h.1

pub missing_words : (store : List Sort) (entries : List (SortKey × NumberedSort)) (key : SortKey) (rs : List NumberedSort) (o : Option (Bor NumberedSort)) → map tree (values_of entries) ≡ store → IsKeyedStore entries → AllInterned store rs
    → key.args.items ≡ map number rs → IfNone o (LacksKey entries key) → IfNone o (Contains store (sort key.head (sorts (map tree rs))) → ⊥)
missing_words store entries key rs None v old interned numbers h =
    subst (λ s. Contains s (sort key.head (sorts (map tree rs))) → ⊥) v (missing_interned entries key rs old (subst (λ s. AllInterned s rs) (sym v) interned) numbers h)
missing_words store entries key rs (Some r) v old interned numbers h = tt

pub length-values : (entries : List (SortKey × NumberedSort)) → length (values_of entries) ≡ length entries
length-values [] = refl
length-values (e ∷ es) = ap suc (length-values es)

-- what `add_entry` leaves
pub inserted_as : (store : List Sort) (old new : List (SortKey × NumberedSort)) (key : SortKey) (x copy : NumberedSort) (rs : List NumberedSort) → map tree (values_of old) ≡ store → IsKeyedStore old → AllInterned store rs
    → key.args.items ≡ map number rs → (Contains store (sort key.head (sorts (map tree rs))) → ⊥) → x ≡ node (length old) key.head (nodes rs) → copy ≡ x → new ≡ old ++ (key, copy) ∷ []
    → IsKeyedStore new × (IsInterned (map tree (values_of new)) x) × (tree x ≡ sort key.head (sorts (map tree rs))) × HasNoRepeats (map tree (values_of new))
inserted_as store old new key x copy rs v kept interned numbers absent is same put =
    let vals : values_of new ≡ values_of old ++ copy ∷ [] = ap values_of put ∙ map-append (λ z. z.1) old ((key, copy) ∷ []) in
    let is' = is ∙ ap (λ n. node n key.head (nodes rs)) (sym (length-values old)) in
    let p = added_as store (values_of old) (values_of new) x copy key.head rs v kept.stored interned absent is' same vals in
    let e : copy ≡ node (length old) key.head (nodes rs) = same ∙ is in
    let k : IsKeyOf (key, copy) = record {
      heads = sym (ap head e);
      numbers = numbers ∙ sym (ap (λ z. map number (parts z)) e ∙ ap (map number) (node_list-nodes rs));
    } in
    (record { stored = p.0; keyed = subst (All IsKeyOf) (sym put) (All-push IsKeyOf old (key, copy) kept.keyed k) }, p.1, p.2, p.3)

-- a front of the map
values_take : (n : ℕ) (es : List (SortKey × NumberedSort)) → values_of (take n es) ≡ take n (values_of es)
values_take zero es = refl
values_take (suc n) [] = refl
values_take (suc n) (e ∷ es) = ap (λ z. e.1 ∷ z) (values_take n es)

pub first_keyed : (n : ℕ) (es : List (SortKey × NumberedSort)) → IsKeyedStore es → IsKeyedStore (take n es)
first_keyed n es old = record {
  stored = subst IsStore (sym (values_take n es)) (first_stored n (values_of es) old.stored);
  keyed = all_from_at IsKeyOf (take n es) (λ k e g. all_at IsKeyOf es k e old.keyed (get_take n es k e g).0);
}

pub first_view : (n : ℕ) (es : List (SortKey × NumberedSort)) → map tree (values_of (take n es)) ≡ take n (map tree (values_of es))
first_view n es = ap (map tree) (values_take n es) ∙ map_take n (values_of es)
