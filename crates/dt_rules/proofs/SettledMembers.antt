-- One step towards the settled members, and what is settled where no step is left.
use Rattle.std.proofs.Common.{◌≡◌, ℕ, zero, suc, ◌<◌, ◌↔◌, Bool, true, false, not, IsTrue, Result, Ok, Err, List, [], ◌∷◌, length, map, get_or, Some, None, refl, ap, sym, ◌∙◌, subst, inl, inr, arith, slice_get}
use Rattle.std.proofs.lemmas.Bool.{false≢true}
use Rattle.std.specs.List.{Contains}
use Rattle.std.proofs.lemmas.List.{length-map}
use Rattle.sort_store.specs.declared.head.DeclNo.{DeclNo}
use Rattle.sort_store.specs.declared.head.Head.{Head}
use Rattle.sort_store.specs.declared.head.Head.TheVariants as head
use Rattle.sort_store.specs.Tree.{Sort, sort, SortList, sorts, NumberedSort, node, no_nodes, tree, parts}
use Rattle.sort_store.specs.Tree.{head as head_of}
use Rattle.std.specs.Result.{IfOk}
use Rattle.sort_store.proofs.GrownStores.{get_map}
use Rattle.sort_store.proofs.InternedSorts.{contains_from_get}
use Rattle.term_store.specs.Command.{PlainConstructor, PlainDatatype}
use Rattle.dt_rules.specs.Groups.{mentions, numbered}
use Rattle.dt_rules.specs.Unfolding.{Adds, IsMember, IsSettled, outside, free, array, constructed}
use Rattle.dt_rules.specs.Settling.{HasConstructorWithout, HasElementWithout, SettlesBy, Settles, NoneSettles}
use Rattle.dt_rules.proofs.AddedParts.{as_sort, args_are, head_is, member_adds}
use Rattle.dt_rules.proofs.Lists.{map_at}
use Rattle.dt_rules.proofs.MemberArities.{some_same}

-- the element sort of an array is in the list or not
pub element_iff : (args : List NumberedSort) (unsettled : List Sort) (e : NumberedSort) (b : Bool) → slice_get args 1 ≡ Some e → (IsTrue b ↔ Contains unsettled (tree e)) → IsTrue (not b) ↔ HasElementWithout (map tree args) unsettled
element_iff args unsettled e true at f =
    ((λ t. absurd (false≢true t)), λ h. absurd (h.2 (subst (Contains unsettled) (some_same (tree e) h.0 (sym (get_map tree args 1 e at) ∙ h.1)) (f.0 refl))))
element_iff args unsettled e false at f = ((λ t. (tree e, get_map tree args 1 e at, λ c. false≢true (f.1 c))), λ h. refl)

get_none : (args : List NumberedSort) (k : ℕ) (s : Sort) → slice_get args k ≡ None → slice_get (map tree args) k ≡ Some s → ⊥
get_none [] k s e f = cc
get_none (r ∷ args) zero s e f = cc
get_none (r ∷ args) (suc k) s e f = get_none args k s e f

pub no_element_iff : (args : List NumberedSort) (unsettled : List Sort) → slice_get args 1 ≡ None → IsTrue false ↔ HasElementWithout (map tree args) unsettled
no_element_iff args unsettled none = ((λ t. absurd (false≢true t)), λ h. absurd (get_none args 1 h.0 none h.1))

-- an answer that is the same
pub ok_same : {E : Type 0} (P Q : Bool → Type 0) (o : Result Bool E) → ((b : Bool) → P b → Q b) → IfOk o P → IfOk o Q
ok_same P Q (Ok b) f h = f b h
ok_same P Q (Err e) f h = tt

head_from : (r : NumberedSort) (h : Head) (us : SortList) → tree r ≡ sort h us → h ≡ head_of r
head_from (node n k rs) h us e = cc

module _ (ts group : List PlainDatatype) (unsettled : List Sort) where
  -- the answer of the code for a member in which a datatype of the group occurs
  pub settles_iff : (r : NumberedSort) (h : Head) (args : List NumberedSort) (b : Bool) → mentions group (tree r) ≡ true → head_of r ≡ h → args ≡ parts r → (IsTrue b ↔ SettlesBy ts h (map tree args) unsettled)
      → IsTrue b ↔ Settles ts group r unsettled
  settles_iff r h args b test e same f = ((λ t. inr (subst (λ k. SettlesBy ts k (map tree (parts r)) unsettled) (sym e) (subst (λ z. SettlesBy ts h (map tree z) unsettled) same (f.0 t)))), by)
    where
      by : Settles ts group r unsettled → IsTrue b
      by (inl no_group) = absurd (false≢true (sym no_group ∙ test))
      by (inr p) = f.1 (subst (λ z. SettlesBy ts h (map tree z) unsettled) (sym same) (subst (λ k. SettlesBy ts k (map tree (parts r)) unsettled) e p))

  pub data_iff : (d : DeclNo) (n : ℕ) (t : PlainDatatype) (cs : List PlainConstructor) (args : List Sort) (b : Bool) → numbered ts d.0 ≡ Some t → cs ≡ t.constructors → (IsTrue b ↔ HasConstructorWithout cs args unsettled)
      → IsTrue b ↔ SettlesBy ts (head.Data d n) args unsettled
  data_iff d n t cs args b found all f = (
    (λ h. (t, found, subst (λ z. HasConstructorWithout z args unsettled) all (f.0 h))),
    λ p. f.1 (subst (λ z. HasConstructorWithout z args unsettled) (ap (λ (z : PlainDatatype). z.constructors) (some_same p.0 t (sym p.1 ∙ found)) ∙ sym all) p.2),
  )

  pub unknown_iff : (d : DeclNo) (n : ℕ) (args : List Sort) → numbered ts d.0 ≡ None → IsTrue false ↔ SettlesBy ts (head.Data d n) args unsettled
  unknown_iff d n args none = ((λ e. absurd (false≢true e)), λ p. by p.0 (sym none ∙ p.1))
    where
      by : (t : PlainDatatype) → None ≡ Some t → IsTrue false
      by t e = cc

  -- what settles is settled, where the members not in the list are
  module _ (rest : (s : Sort) → IsMember ts group s → (Contains unsettled s → ⊥) → IsSettled ts group s) (r : NumberedSort) (m : IsMember ts group (tree r)) where
    abbrev args : List Sort
    args = map tree (parts r)

    by_head : (h : Head) → head_of r ≡ h → mentions group (tree r) ≡ true → SettlesBy ts h args unsettled → IsSettled ts group (sort h (sorts args))
    by_head (head.Free d n) e test p = free d n (sorts args)
    by_head head.Array e test (x, at, absent) = array args x at (rest x (member_adds ts group r (parts r) refl x m (test, subst (λ h. Adds ts h args x) (sym e) (contains_from_get args 1 x at))) absent)
    by_head (head.Data d n) e test (t, found, (c, in_t, apart)) =
        constructed d n args t c found in_t (λ s f. rest s (member_adds ts group r (parts r) refl s m (test, subst (λ h. Adds ts h args s) (sym e) (t, found, (c, in_t, f)))) (apart s f))
    by_head head.Bool e test p = absurd p
    by_head head.Int e test p = absurd p
    by_head (head.BitVec w) e test p = absurd p
    by_head (head.Param i) e test p = absurd p

    by_test : (b : Bool) → mentions group (tree r) ≡ b → SettlesBy ts (head_of r) args unsettled → IsSettled ts group (tree r)
    by_test false e p = outside (tree r) e
    by_test true e p = subst (IsSettled ts group) (sym (as_sort r)) (by_head (head_of r) refl e p)

    pub settled_now : Settles ts group r unsettled → IsSettled ts group (tree r)
    settled_now (inl e) = outside (tree r) e
    settled_now (inr p) = by_test (mentions group (tree r)) refl p

-- where none in the list settles, none in it is settled
module _ (ts group : List PlainDatatype) (rs : List NumberedSort) (stuck : NoneSettles ts group rs) where
  abbrev dummy : NumberedSort
  dummy = node 0 head.Bool no_nodes

  stuck_at : (s : Sort) → Contains (map tree rs) s → (r : NumberedSort) × (tree r ≡ s) × (Settles ts group r (map tree rs) → ⊥)
  stuck_at s (k, l, e) =
      let within : k < length rs = omega (arith, l, length-map rs tree) in
      (get_or rs k dummy, sym (map_at rs k dummy s within) ∙ e, stuck k dummy within)

  settles_at : (r : NumberedSort) (h : Head) (args : List Sort) → tree r ≡ sort h (sorts args) → SettlesBy ts h args (map tree rs) → SettlesBy ts (head_of r) (map tree (parts r)) (map tree rs)
  settles_at r h args e p = subst (λ z. SettlesBy ts (head_of r) z (map tree rs)) (args_are r h args e) (subst (λ k. SettlesBy ts k args (map tree rs)) (head_is r h args e) p)

  pub never_settled : (s : Sort) → IsSettled ts group s → Contains (map tree rs) s → ⊥
  never_settled _ (outside s e) c = let q = stuck_at s c in q.2 (inl (subst (λ z. mentions group z ≡ false) (sym q.1) e))
  never_settled _ (free d n us) c = let q = stuck_at (sort (head.Free d n) us) c in q.2 (inr (subst (λ k. SettlesBy ts k (map tree (parts q.0)) (map tree rs)) (head_from q.0 (head.Free d n) us q.1) tt))
  never_settled _ (array args x at i) c = let q = stuck_at (sort head.Array (sorts args)) c in q.2 (inr (settles_at q.0 head.Array args q.1 (x, at, never_settled x i)))
  never_settled _ (constructed d n args t k found in_t f) c =
      let q = stuck_at (sort (head.Data d n) (sorts args)) c in q.2 (inr (settles_at q.0 (head.Data d n) args q.1 (t, found, (k, in_t, λ s p. never_settled s (f s p)))))
