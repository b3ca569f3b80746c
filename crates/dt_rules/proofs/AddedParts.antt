-- What a reference to a member adds, and that a list with the own sorts and all that its members add has every member.
use Rattle.std.proofs.Common.{◌≡◌, ℕ, zero, suc, ◌+◌, ◌<◌, ◌≤◌, ◌⊎◌, true, List, [], ◌∷◌, ◌++◌, length, map, get_or, Some, Err, refl, ap, sym, ◌∙◌, subst, inl, inr, arith}
use Rattle.std.specs.List.{Contains}
use Rattle.std.proofs.lemmas.List.{length-map}
use Rattle.sort_store.specs.declared.head.DeclNo.{DeclNo}
use Rattle.sort_store.specs.declared.head.Head.{Head}
use Rattle.sort_store.specs.declared.head.Head.TheVariants as head
use Rattle.sort_store.specs.Instance.{ParamsBelow}
use Rattle.sort_store.specs.Interned.{IsInterned, AllInterned, AreInterned}
use Rattle.sort_store.specs.Tree.{Sort, sort, SortList, more_sorts, sorts, NumberedSort, node, NumberedSorts, no_nodes, more_nodes, node_list, tree, trees, parts}
use Rattle.sort_store.specs.Tree.{head as head_of}
use Rattle.sort_store.proofs.GrownStores.{nodes-node_list}
use Rattle.term_store.specs.Command.{PlainField, PlainConstructor, PlainDatatype}
use Rattle.dt_rules.specs.Groups.{known, mentions, numbered, own_sort, sort_list, IsConstructorFieldSort, IsOwnSort, IsReadyGroup, HasArities}
use Rattle.dt_rules.specs.Unfolding.{Adds, IsAddedBy, IsMember, own, added}
use Rattle.dt_rules.specs.Worklist.{AreMembers, Extends, Gains, Unfolds}
use Rattle.dt_rules.specs.declared.error.DtError.{DtError}
use Rattle.dt_rules.specs.declared.error.DtError.TheVariants as error
use Rattle.dt_rules.proofs.Gaining.{still_has}
use Rattle.dt_rules.proofs.Lists.{map_at}
use Rattle.dt_rules.proofs.MemberArities.{found_contained, list_of_sorts, member_has, some_same}

parts_list : (rs : NumberedSorts) → sort_list (trees rs) ≡ map tree (node_list rs)
parts_list no_nodes = refl
parts_list (more_nodes r rs) = ap (λ z. tree r ∷ z) (parts_list rs)

sorts_list : (rs : NumberedSorts) → sorts (map tree (node_list rs)) ≡ trees rs
sorts_list no_nodes = refl
sorts_list (more_nodes r rs) = ap (λ z. more_sorts (tree r) z) (sorts_list rs)

pub as_sort : (r : NumberedSort) → tree r ≡ sort (head_of r) (sorts (map tree (parts r)))
as_sort (node n h rs) = ap (sort h) (sym (sorts_list rs))

head_same : (h k : Head) (ts us : SortList) → sort h ts ≡ sort k us → h ≡ k
head_same h k ts us e = cc

args_same : (h k : Head) (ts us : SortList) → sort h ts ≡ sort k us → ts ≡ us
args_same h k ts us e = cc

pub head_is : (r : NumberedSort) (h : Head) (args : List Sort) → tree r ≡ sort h (sorts args) → h ≡ head_of r
head_is (node n k rs) h args e = sym (head_same _ _ _ _ e)

pub args_are : (r : NumberedSort) (h : Head) (args : List Sort) → tree r ≡ sort h (sorts args) → args ≡ map tree (parts r)
args_are (node n k rs) h args e = sym (list_of_sorts args) ∙ (ap sort_list (sym (args_same _ _ _ _ e)) ∙ parts_list rs)

pub parts_interned : (store : List Sort) (r : NumberedSort) (args : List NumberedSort) → args ≡ parts r → IsInterned store r → AllInterned store args
parts_interned store (node n h rs) args e k = subst (AllInterned store) (sym e) (subst (AreInterned store) (sym (nodes-node_list rs)) k.1)

module _ (ts group : List PlainDatatype) (r : NumberedSort) (args : List NumberedSort) (same : args ≡ parts r) where
  pub member_adds : (s : Sort) → IsMember ts group (tree r) → IsAddedBy ts group r s → IsMember ts group s
  member_adds s m a = added (head_of r) (map tree (parts r)) s (subst (IsMember ts group) (as_sort r) m) (subst (λ z. mentions group z ≡ true) (as_sort r) a.0) a.1

  pub array_adds : head_of r ≡ head.Array → (s : Sort) → IsAddedBy ts group r s → Contains (map tree args) s
  array_adds e s a = subst (λ z. Contains (map tree z) s) (sym same) (subst (λ h. Adds ts h (map tree (parts r)) s) e a.1)

  pub array_members : head_of r ≡ head.Array → mentions group (tree r) ≡ true → IsMember ts group (tree r) → (s : Sort) → Contains (map tree args) s → IsMember ts group s
  array_members e t m s c = member_adds s m (t, subst (λ h. Adds ts h (map tree (parts r)) s) (sym e) (subst (λ z. Contains (map tree z) s) same c))

  module _ (d : DeclNo) (n : ℕ) (t : PlainDatatype) (cs : List PlainConstructor) (e : head_of r ≡ head.Data d n) (found : numbered ts d.0 ≡ Some t) (all : cs ≡ t.constructors) where
    pub data_adds : (s : Sort) → IsAddedBy ts group r s → IsConstructorFieldSort cs (map tree args) s
    data_adds s a =
        let p = subst (λ h. Adds ts h (map tree (parts r)) s) e a.1 in
        let it : p.0 ≡ t = some_same p.0 t (sym p.1 ∙ found) in
        subst (λ z. IsConstructorFieldSort z (map tree args) s) (ap (λ (z : PlainDatatype). z.constructors) it ∙ sym all) (subst (λ z. IsConstructorFieldSort p.0.constructors (map tree z) s) (sym same) p.2)

    pub data_members : mentions group (tree r) ≡ true → IsMember ts group (tree r) → (s : Sort) → IsConstructorFieldSort cs (map tree args) s → IsMember ts group s
    data_members test m s f =
        member_adds s m (test, subst (λ h. Adds ts h (map tree (parts r)) s) (sym e) (t, found, subst (λ z. IsConstructorFieldSort z (map tree (parts r)) s) all (subst (λ z. IsConstructorFieldSort cs (map tree z) s) same f)))

-- what the parameters of the fields are
pub data_params : (kept group : List PlainDatatype) (ready : IsReadyGroup kept group) (r : NumberedSort) (args : List NumberedSort) (d : DeclNo) (n : ℕ) (t : PlainDatatype) (cs : List PlainConstructor)
    → args ≡ parts r → head_of r ≡ head.Data d n → numbered (known kept group) d.0 ≡ Some t → cs ≡ t.constructors → IsMember (known kept group) group (tree r)
    → (c : PlainConstructor) (f : PlainField) → Contains cs c → Contains c.fields f → ParamsBelow (length args) f.sort
data_params kept group ready r args d n t cs same e found all m c f in_cs in_c =
    let ts = known kept group in
    let has = subst (HasArities ts) (as_sort r ∙ ap (λ h. sort h (sorts (map tree (parts r)))) e) (member_has kept group ready (tree r) m) in
    let u = has.0 in
    let it : u.0 ≡ t = some_same u.0 t (sym u.1 ∙ found) in
    let count : length t.params ≡ length args =
    ap (λ (z : PlainDatatype). length z.params) (sym it) ∙ (u.2 ∙ (ap length (list_of_sorts (map tree (parts r))) ∙ (length-map (parts r) tree ∙ ap length (sym same)))) in
    let field = ready.fields t c f (found_contained ts d.0 t found) (subst (λ z. Contains z c) all in_cs) in_c in
    subst (λ z. ParamsBelow z f.sort) count field.params

-- The list of the members.

get_front : (old more : List NumberedSort) (k : ℕ) (d : NumberedSort) → k < length old → get_or (old ++ more) k d ≡ get_or old k d
get_front [] more k d l = absurd (omega (arith, l))
get_front (r ∷ old) more zero d l = refl
get_front (r ∷ old) more (suc k) d l = get_front old more k d (omega (arith, l))

abbrev pub IsClosedTo : List PlainDatatype → List PlainDatatype → List NumberedSort → ℕ → Type 0
IsClosedTo ts group rs n = (k : ℕ) (d : NumberedSort) → k < n → k < length rs → (s : Sort) → IsAddedBy ts group (get_or rs k d) s → Contains (map tree rs) s

pub get_any : (rs : List NumberedSort) (k : ℕ) (d e : NumberedSort) → k < length rs → get_or rs k d ≡ get_or rs k e
get_any [] k d e l = absurd (omega (arith, l))
get_any (r ∷ rs) zero d e l = refl
get_any (r ∷ rs) (suc k) d e l = get_any rs k d e (omega (arith, l))

pub split_last : (k n : ℕ) → k < n + 1 → (k < n) ⊎ (k ≡ n)
split_last zero zero l = inr refl
split_last zero (suc n) l = inl (omega arith)
split_last (suc k) zero l = absurd (omega (arith, l))
split_last (suc k) (suc n) l = elim (split_last k n (omega (arith, l))) [ inl a ↦ inl (omega (arith, a)) | inr e ↦ inr (ap suc e) ]

module _ (ts group : List PlainDatatype) where
  pub closed_step : (old new : List NumberedSort) (n : ℕ) (r : NumberedSort) → Extends old new → n < length old → r ≡ get_or old n r → IsClosedTo ts group old n
      → ((s : Sort) → IsAddedBy ts group r s → Contains (map tree new) s) → IsClosedTo ts group new (n + 1)
  closed_step old new n r ext l at closed adds = λ k d below within s a. elim (split_last k n below) [
    | inl b ↦ still_has ts group old new s ext (closed k d b (omega (arith, b, l)) s (subst (λ z. IsAddedBy ts group z s) (ap (λ z. get_or z k d) ext.1 ∙ get_front old ext.0 k d (omega (arith, b, l))) a))
    | inr e ↦ adds s (subst (λ z. IsAddedBy ts group z s) (ap (λ z. get_or new z d) e ∙ (ap (λ z. get_or z n d) ext.1 ∙ (get_front old ext.0 n d l ∙ (get_any old n d r l ∙ sym at)))) a)
  ]

  pub closed_none : (rs : List NumberedSort) → IsClosedTo ts group rs 0
  closed_none rs = λ k d below within s a. absurd (omega (arith, below))

  module _ (rs : List NumberedSort) (n : ℕ) (all : length rs ≤ n) (own_in : (s : Sort) → IsOwnSort group s → Contains (map tree rs) s) (closed : IsClosedTo ts group rs n) where
    abbrev dummy : NumberedSort
    dummy = node 0 head.Bool no_nodes

    adds_in : (h : Head) (args : List Sort) (s : Sort) → Contains (map tree rs) (sort h (sorts args)) → mentions group (sort h (sorts args)) ≡ true → Adds ts h args s → Contains (map tree rs) s
    adds_in h args s (k, l, e) test a =
        let within : k < length rs = omega (arith, l, length-map rs tree) in
        let r = get_or rs k dummy in
        let same : tree r ≡ sort h (sorts args) = sym (map_at rs k dummy (sort h (sorts args)) within) ∙ e in
        closed k dummy (omega (arith, within, all)) within s
        (subst (λ z. mentions group z ≡ true) (sym same) test, subst (λ z. Adds ts (head_of r) z s) (args_are r h args same) (subst (λ z. Adds ts z args s) (head_is r h args same) a))

    pub has_members : (s : Sort) → IsMember ts group s → Contains (map tree rs) s
    has_members _ (own t c) = own_in (own_sort t) (t, c, refl)
    has_members _ (added h args s m e p) = adds_in h args s (has_members (sort h (sorts args)) m) e p

  pub members_none : (store : List Sort) (rs : List NumberedSort) → rs ≡ [] → AreMembers ts group store rs
  members_none store rs e = subst (AreMembers ts group store) (sym e) (record {
    interned = tt;
    members = λ s c. absurd (omega (arith, c.1));
    distinct = record { distinct = λ i j t p q. cc };
    few = omega arith;
    small = λ s c. absurd (omega (arith, c.1));
  })

  pub unfolds_fail : (P : Sort → Type 0) (e : DtError) (store after : List Sort) (old new : List NumberedSort) → Gains (Err e) ts group P store old new → Unfolds (Err e) ts group after
  unfolds_fail P error.TooWide store after old new g = g
  unfolds_fail P (error.NotSettled i) store after old new g = g
  unfolds_fail P error.NoMemory store after old new g = tt
