-- What the code finds of a match, by the trees of the datatypes and sorts.
use Rattle.std.proofs.Common.{◌≡◌, ℕ, zero, suc, ◌==◌, ◌&&◌, ◌≤◌, ◌<◌, Bool, true, false, if◌then◌else◌, List, [], ◌∷◌, ◌++◌, length, map, slice_get, slice_index_or, take, Option, Some, None, Ok, Err, ap, arith, inl, refl, sym, ◌∙◌, subst}
use Rattle.std.proofs.lemmas.List.{map-append}
use Rattle.sig_table.specs.declared.code.Code.TheVariants.{SortTooLarge}
use Rattle.std.specs.List.{zip}
use Rattle.std.specs.Option.{option_map}
use Rattle.sort_store.specs.declared.head.DeclNo.{DeclNo}
use Rattle.sort_store.specs.declared.head.Head.TheVariants as head
use Rattle.sort_store.specs.Instance.{inst}
use Rattle.sort_store.specs.Interned.{AllInterned, Grows, IsInterned}
use Rattle.sort_store.proofs.GrownStores.{all_interned_grown, all_interned_push}
use Rattle.sort_store.specs.Tree.{NumberedSort, Sort, node_count, parts, tree}
use Rattle.sort_store.specs.Tree as sort_tree
use Rattle.term_store.specs.Command.{PlainDatatype, PlainField, plain_datatype, plain_field}
use Rattle.term_store.specs.declared.command.Field.{Field}
use Rattle.term_store.specs.declared.command.Datatype.{Datatype}
use Rattle.term_store.specs.Definitions.{datatype_in}
use Rattle.dt_rules.specs.Groups.{sort_list}
use Rattle.dt_rules.proofs.KnownDatatypes.{numbered_plain}
use Rattle.typer.specs.Answers.{Answers, fault_at}
use Rattle.typer.specs.MatchRules.{AreSmall, Instance, at_values, instance_at, instance_of, judge_small}

-- a sort by its symbol and its arguments
args_list : (rs : sort_tree.NumberedSorts) → sort_list (sort_tree.trees rs) ≡ map tree (sort_tree.node_list rs)
args_list sort_tree.no_nodes = refl
args_list (sort_tree.more_nodes r rs) = ap (λ ts. tree r ∷ ts) (args_list rs)

pub by_parts : (ts : List PlainDatatype) (r : NumberedSort) → instance_of ts (tree r) ≡ instance_at ts (sort_tree.head r) (map tree (parts r))
by_parts ts (sort_tree.node n h rs) = ap (instance_at ts h) (args_list rs)

module _ (ts : List Datatype) (r : NumberedSort) (d : DeclNo) (n : ℕ) (is : sort_tree.head r ≡ head.Data d n) where
  abbrev found : Option Instance
  found = instance_of (map plain_datatype ts) (tree r)

  found_is : (o : Option Datatype) → o ≡ datatype_in ts d.0 → found ≡ at_values n (map tree (parts r)) (option_map plain_datatype o)
  found_is o e =
      by_parts (map plain_datatype ts) r ∙ ap (λ h. instance_at (map plain_datatype ts) h (map tree (parts r))) is
      ∙ ap (at_values n (map tree (parts r))) (sym (numbered_plain ts d.0) ∙ ap (option_map plain_datatype) (sym e))

  pub none_found : (o : Option Datatype) → o ≡ datatype_in ts d.0 → o ≡ None → found ≡ None
  none_found o e f = found_is o e ∙ ap (λ z. at_values n (map tree (parts r)) (option_map plain_datatype z)) f

  module _ (t : Datatype) (its : Some t ≡ datatype_in ts d.0) (b : Bool) (fits : b ≡ ((n == t.name) && (length (map tree (parts r)) == length t.params))) where
    at_test : found ≡ (if b then Some (plain_datatype t, map tree (parts r)) else None)
    at_test = found_is (Some t) its ∙ ap (λ z. if z then Some (plain_datatype t, map tree (parts r)) else None) (sym fits)

    pub other_arity : b ≡ false → found ≡ None
    other_arity f = at_test ∙ ap (λ z. if z then Some (plain_datatype t, map tree (parts r)) else None) f

    pub same_arity : b ≡ true → found ≡ Some (plain_datatype t, map tree (parts r))
    same_arity f = at_test ∙ ap (λ z. if z then Some (plain_datatype t, map tree (parts r)) else None) f

-- the sorts of fields, one by one
take_next : {X : Type 0} (xs : List X) (i : ℕ) (x : X) → i < length xs → slice_index_or xs i x ≡ x → take (suc i) xs ≡ take i xs ++ x ∷ []
take_next [] i x l e = absurd (omega (arith, l))
take_next (y ∷ ys) zero x l e = ap (λ z. z ∷ []) e
take_next (y ∷ ys) (suc i) x l e = ap (λ zs. y ∷ zs) (take_next ys i x (omega (arith, l)) e)

take_end : {X : Type 0} (xs : List X) (n : ℕ) → length xs ≤ n → take n xs ≡ xs
take_end [] zero l = refl
take_end [] (suc n) l = refl
take_end (x ∷ xs) zero l = absurd (omega (arith, l))
take_end (x ∷ xs) (suc n) l = ap (λ ys. x ∷ ys) (take_end xs n (omega (arith, l)))

module _ (values : List Sort) where
  abbrev each_sort : List Field → List Sort
  each_sort fs = map (λ (f : PlainField). inst values f.sort) (map plain_field fs)

  at_field : (fs : List Field) (i : ℕ) (f : Field) → i < length fs → f ≡ slice_index_or fs i f → (i < length (each_sort fs)) × (slice_index_or (each_sort fs) i (inst values (tree f.sort)) ≡ inst values (tree f.sort))
  at_field [] i f l e = absurd (omega (arith, l))
  at_field (g ∷ fs) zero f l e = (omega arith, ap (λ (h : Field). inst values (tree h.sort)) (sym e))
  at_field (g ∷ fs) (suc i) f l e = let h = at_field fs i f (omega (arith, l)) e in (omega (arith, h.0), h.1)

  length_each : (fs : List Field) → length (each_sort fs) ≡ length fs
  length_each [] = refl
  length_each (f ∷ fs) = ap (λ (n : ℕ). suc n) (length_each fs)

  module _ (fs : List Field) (at : ℕ) where
    pub field_too_large : (i : ℕ) (f : Field) → i < length fs → f ≡ slice_index_or fs i f → 1000 < node_count (inst values (tree f.sort)) → Answers {A = List Sort} (Err (fault_at SortTooLarge at)) (judge_small at (each_sort fs))
    field_too_large i f l e large =
        let h = at_field fs i f l e in
        λ before. inl ((λ all. (let small = all i (inst values (tree f.sort)) h.0 in omega (arith, small, large, ap node_count h.1))), refl)

    pub one_more_sort : (i n : ℕ) (f : Field) (here new : List NumberedSort) (r : NumberedSort) → n ≡ suc i → i < length fs → f ≡ slice_index_or fs i f → tree r ≡ inst values (tree f.sort) → new ≡ here ++ r ∷ []
        → map tree here ≡ take i (each_sort fs) → map tree new ≡ take n (each_sort fs)
    one_more_sort i n f here new r next l e same put made =
        let h = at_field fs i f l e in
        ap (map tree) put ∙ map-append tree here (r ∷ []) ∙ ap (λ t. map tree here ++ t ∷ []) same ∙ ap (λ ts. ts ++ inst values (tree f.sort) ∷ []) made
        ∙ sym (ap (λ k. take k (each_sort fs)) next ∙ take_next (each_sort fs) i (inst values (tree f.sort)) h.0 h.1)

    pub all_fields : (n : ℕ) (made : List NumberedSort) → length fs ≤ n → map tree made ≡ take n (each_sort fs) → AreSmall (map tree made) → Answers (Ok (map tree made)) (judge_small at (each_sort fs))
    all_fields n made l e small =
        let whole = e ∙ take_end (each_sort fs) n (omega (arith, l, length_each fs)) in
        λ before. (tt, before, (subst AreSmall whole small, refl), (whole, refl))

pub none_small : (rs : List NumberedSort) → rs ≡ [] → AreSmall (map tree rs)
none_small rs e = subst (λ z. AreSmall (map tree z)) (sym e) (λ k d l. absurd (omega (arith, l)))

small_last : (ts : List Sort) (t : Sort) → AreSmall ts → node_count t ≤ 1000 → AreSmall (ts ++ t ∷ [])
small_last [] t h s zero d l = s
small_last [] t h s (suc k) d l = absurd (omega (arith, l))
small_last (u ∷ ts) t h s zero d l = h zero d (omega arith)
small_last (u ∷ ts) t h s (suc k) d l = small_last ts t (λ i e m. h (suc i) e (omega (arith, m))) s k d (omega (arith, l))

pub one_more_small : (here new : List NumberedSort) (r : NumberedSort) → new ≡ here ++ r ∷ [] → node_count (tree r) ≤ 1000 → AreSmall (map tree here) → AreSmall (map tree new)
one_more_small here new r put s h = subst AreSmall (sym (ap (map tree) put ∙ map-append tree here (r ∷ []))) (small_last (map tree here) (tree r) h s)

pub none_interned : (store : List Sort) (rs : List NumberedSort) → rs ≡ [] → AllInterned store rs
none_interned store rs e = subst (AllInterned store) (sym e) tt

pub one_more_interned : (store larger : List Sort) (here new : List NumberedSort) (r : NumberedSort) → Grows store larger → new ≡ here ++ r ∷ [] → IsInterned larger r → AllInterned store here → AllInterned larger new
one_more_interned store larger here new r grows put its h = subst (AllInterned larger) (sym put) (all_interned_push larger here r (all_interned_grown store larger here grows h) its)

-- variables with the sorts at their places
module _ {X Y : Type 0} where
  pub pair_next : (xs : List X) (ys : List Y) (i n : ℕ) (x : X) (y : Y) → n ≡ suc i → i < length xs → x ≡ slice_index_or xs i x → slice_get ys i ≡ Some y → take n (zip xs ys) ≡ take i (zip xs ys) ++ (x, y) ∷ []
  pair_next xs ys i n x y next l e f = ap (λ k. take k (zip xs ys)) next ∙ by xs ys i l e f
    where
      by : (xs : List X) (ys : List Y) (i : ℕ) → i < length xs → x ≡ slice_index_or xs i x → slice_get ys i ≡ Some y → take (suc i) (zip xs ys) ≡ take i (zip xs ys) ++ (x, y) ∷ []
      by [] ys i l e f = absurd (omega (arith, l))
      by (u ∷ us) [] i l e f = cc
      by (u ∷ us) (v ∷ vs) zero l e f = let same : v ≡ y = cc in ap (λ (z : X). (z, v) ∷ []) (sym e) ∙ ap (λ (z : Y). (x, z) ∷ []) same
      by (u ∷ us) (v ∷ vs) (suc i) l e f = ap (λ zs. (u, v) ∷ zs) (by us vs i (omega (arith, l)) e f)

  pub pair_none : (xs : List X) (ys : List Y) (i : ℕ) → slice_get ys i ≡ None → take i (zip xs ys) ≡ zip xs ys
  pair_none [] ys zero f = refl
  pair_none [] ys (suc i) f = refl
  pair_none (x ∷ xs) [] zero f = refl
  pair_none (x ∷ xs) [] (suc i) f = refl
  pair_none (x ∷ xs) (y ∷ ys) zero f = cc
  pair_none (x ∷ xs) (y ∷ ys) (suc i) f = ap (λ zs. (x, y) ∷ zs) (pair_none xs ys i f)

  pub pair_all : (xs : List X) (ys : List Y) (i : ℕ) → length xs ≤ i → take i (zip xs ys) ≡ zip xs ys
  pair_all [] ys zero l = refl
  pair_all [] ys (suc i) l = refl
  pair_all (x ∷ xs) [] zero l = refl
  pair_all (x ∷ xs) [] (suc i) l = refl
  pair_all (x ∷ xs) (y ∷ ys) zero l = absurd (omega (arith, l))
  pair_all (x ∷ xs) (y ∷ ys) (suc i) l = ap (λ zs. (x, y) ∷ zs) (pair_all xs ys i (omega (arith, l)))
