-- Whether the unfolding of a group is too wide is decided, and so is what is settled where it is not.
use Rattle.std.proofs.Common.{◌≡◌, ℕ, zero, suc, ◌+◌, ◌<◌, ◌≤◌, ◌⊎◌, Bool, true, false, List, [], ◌∷◌, ◌++◌, length, map, get_or, Option, Some, None, refl, ap, sym, ◌∙◌, subst, inl, inr, arith, slice_get}
use Rattle.std.proofs.lemmas.Bool.{false≢true}
use Rattle.std.specs.List.{Contains}
use Rattle.std.proofs.lemmas.List.{length-append}
use Rattle.std.proofs.lemmas.List.Elements.{Contains-push_cases, Contains-get_or}
use Rattle.sort_store.specs.declared.head.Head.{Head}
use Rattle.sort_store.specs.declared.head.Head.TheVariants as head
use Rattle.sort_store.specs.Coded.{unnumbered, tree-unnumbered}
use Rattle.sort_store.specs.Instance.{inst}
use Rattle.sort_store.specs.Interned.{HasNoRepeats}
use Rattle.sort_store.specs.Tree.{Sort, sort, SortList, no_sorts, more_sorts, sorts, node_count, NumberedSort, tree, parts}
use Rattle.sort_store.specs.Tree.{head as head_of}
use Rattle.sort_store.proofs.InternedSorts.{distinct_push}
use Rattle.term_store.specs.Command.{PlainField, PlainConstructor, PlainDatatype}
use Rattle.dt_rules.specs.Groups.{mentions, numbered, own_sort, sort_list, IsFieldSort, IsConstructorFieldSort}
use Rattle.dt_rules.specs.Settling.{HasNoFieldSort, HasConstructorWithout, HasElementWithout, SettlesBy, Settles, SettlesAt, NoneSettles, HasUnsettled}
use Rattle.dt_rules.specs.Unfolding.{Adds, IsMember, own, added, IsSettled, HasManyMembers, IsTooWide}
use Rattle.dt_rules.proofs.Decisions.{IsDecided, find_or_all, is_true, listed}
use Rattle.dt_rules.proofs.MemberArities.{list_of_sorts, some_same}
use Rattle.dt_rules.proofs.SettledMembers.{never_settled}
use Rattle.dt_rules.proofs.UnsettledLists.{without, length_without, without_contains, settled_step, no_longer}

-- One more member, or a list of all.

abbrev LacksOne : List Sort → (Sort → Type 0) → Type 0
LacksOne xs P = (s : Sort) × P s × (Contains xs s → ⊥)

abbrev HasEach : List Sort → (Sort → Type 0) → Type 0
HasEach xs P = (s : Sort) → P s → Contains xs s

in_or_out : (xs : List Sort) (s : Sort) → (Contains xs s → ⊥) ⊎ Contains xs s
in_or_out xs s = elim (listed xs s) [ inl c ↦ inr c | inr absent ↦ inl absent ]

fields_in : (xs args : List Sort) (fs : List PlainField) → LacksOne xs (IsFieldSort fs args) ⊎ HasEach xs (IsFieldSort fs args)
fields_in xs args fs = elim (find_or_all (λ (f : PlainField). Contains xs (inst args f.sort) → ⊥) (λ (f : PlainField). Contains xs (inst args f.sort)) (λ (f : PlainField). in_or_out xs (inst args f.sort)) fs) [
  | inl found ↦ inl (inst args found.0.sort, (found.0, found.1, refl), found.2)
  | inr all ↦ inr (λ s p. subst (Contains xs) (sym p.2) (all p.0 p.1))
]

constructors_in : (xs args : List Sort) (cs : List PlainConstructor) → LacksOne xs (IsConstructorFieldSort cs args) ⊎ HasEach xs (IsConstructorFieldSort cs args)
constructors_in xs args cs =
    elim (find_or_all (λ (c : PlainConstructor). LacksOne xs (IsFieldSort c.fields args)) (λ (c : PlainConstructor). HasEach xs (IsFieldSort c.fields args)) (λ (c : PlainConstructor). fields_in xs args c.fields) cs) [
      | inl found ↦ inl (found.2.0, (found.0, found.1, found.2.1), found.2.2)
      | inr all ↦ inr (λ s p. all p.0 p.1 s p.2)
    ]

args_in : (xs args : List Sort) → LacksOne xs (Contains args) ⊎ HasEach xs (Contains args)
args_in xs args = find_or_all (λ s. Contains xs s → ⊥) (Contains xs) (in_or_out xs) args

sorts_of_list : (us : SortList) → sorts (sort_list us) ≡ us
sorts_of_list no_sorts = refl
sorts_of_list (more_sorts u us) = ap (more_sorts u) (sorts_of_list us)

module _ (ts group : List PlainDatatype) where
  abbrev AddedTo : Sort → Sort → Type 0
  AddedTo (sort h us) s = (mentions group (sort h us) ≡ true) × Adds ts h (sort_list us) s

  added_member : (r s : Sort) → IsMember ts group r → AddedTo r s → IsMember ts group s
  added_member (sort h us) s m a =
      let e = sorts_of_list us in
      added h (sort_list us) s (subst (λ z. IsMember ts group (sort h z)) (sym e) m) (subst (λ z. mentions group (sort h z) ≡ true) (sym e) a.0) a.1

  found_in : (xs args : List Sort) (n : ℕ) (o : Option PlainDatatype) → numbered ts n ≡ o
      → LacksOne xs (λ s. (t : PlainDatatype) × (numbered ts n ≡ Some t) × IsConstructorFieldSort t.constructors args s) ⊎ HasEach xs (λ s. (t : PlainDatatype) × (numbered ts n ≡ Some t) × IsConstructorFieldSort t.constructors args s)
  found_in xs args n None e = inr (λ s p. absurd (by p.0 (sym e ∙ p.1)))
    where
      by : (t : PlainDatatype) → None ≡ Some t → ⊥
      by t e = cc
  found_in xs args n (Some t) e = elim (constructors_in xs args t.constructors) [
    | inl found ↦ inl (found.0, (t, e, found.1), found.2)
    | inr all ↦ inr (λ s p. all s (subst (λ (z : PlainDatatype). IsConstructorFieldSort z.constructors args s) (some_same p.0 t (sym p.1 ∙ e)) p.2))
  ]

  adds_in : (xs : List Sort) (h : Head) (args : List Sort) → LacksOne xs (Adds ts h args) ⊎ HasEach xs (Adds ts h args)
  adds_in xs (head.Data d n) args = found_in xs args d.0 (numbered ts d.0) refl
  adds_in xs head.Array args = args_in xs args
  adds_in xs head.Bool args = inr (λ s p. absurd p)
  adds_in xs head.Int args = inr (λ s p. absurd p)
  adds_in xs (head.BitVec m) args = inr (λ s p. absurd p)
  adds_in xs (head.Free d n) args = inr (λ s p. absurd p)
  adds_in xs (head.Param i) args = inr (λ s p. absurd p)

  added_in : (xs : List Sort) (r : Sort) → LacksOne xs (AddedTo r) ⊎ HasEach xs (AddedTo r)
  added_in xs (sort h us) = elim (is_true (mentions group (sort h us))) [
    | inl e ↦ elim (adds_in xs h (sort_list us)) [
      | inl found ↦ inl (found.0, (e, found.1), found.2)
      | inr all ↦ inr (λ s a. all s a.1)
    ]
    | inr e ↦ inr (λ s a. absurd (differ _ e a.0))
  ]
    where
      differ : (b : Bool) → b ≡ false → b ≡ true → ⊥
      differ b e f = cc

  -- a list with the own sorts and with all that its sorts add has each member
  has_members : (xs : List Sort) → ((t : PlainDatatype) → Contains group t → Contains xs (own_sort t)) → ((r : Sort) → Contains xs r → HasEach xs (AddedTo r)) → HasEach xs (IsMember ts group)
  has_members xs own_in closed _ (own t c) = own_in t c
  has_members xs own_in closed _ (added h args s m e a) =
      closed (sort h (sorts args)) (has_members xs own_in closed (sort h (sorts args)) m) s (e, subst (λ z. Adds ts h z s) (sym (list_of_sorts args)) a)

  one_more : (xs : List Sort) → ((s : Sort) → Contains xs s → IsMember ts group s) → LacksOne xs (IsMember ts group) ⊎ HasEach xs (IsMember ts group)
  one_more xs members =
      elim (find_or_all (λ (t : PlainDatatype). Contains xs (own_sort t) → ⊥) (λ (t : PlainDatatype). Contains xs (own_sort t)) (λ (t : PlainDatatype). in_or_out xs (own_sort t)) group) [
        | inl found ↦ inl (own_sort found.0, own found.0 found.1, found.2)
        | inr own_in ↦ elim (find_or_all (λ r. LacksOne xs (AddedTo r)) (λ r. HasEach xs (AddedTo r)) (added_in xs) xs) [
          | inl found ↦ inl (found.2.0, added_member found.0 found.2.0 (members found.0 found.1) found.2.1, found.2.2)
          | inr closed ↦ inr (has_members xs own_in closed)
        ]
      ]

  record AreDistinctMembers (xs : List Sort) : Type 0 where
    pub members : (s : Sort) → Contains xs s → IsMember ts group s
    pub distinct : HasNoRepeats xs

  record IsListing (xs : List Sort) : Type 0 where
    pub listed : AreDistinctMembers xs
    pub whole : HasEach xs (IsMember ts group)

  none_yet : AreDistinctMembers []
  none_yet = record { members = λ s c. absurd (omega (arith, c.1)); distinct = record { distinct = λ i j t p q. cc } }

  pushed : (xs : List Sort) (s : Sort) → AreDistinctMembers xs → IsMember ts group s → (Contains xs s → ⊥) → AreDistinctMembers (xs ++ s ∷ [])
  pushed xs s h m absent = record {
    members = λ u c. elim (Contains-push_cases xs s u c) [ inl d ↦ h.members u d | inr e ↦ subst (IsMember ts group) e m ];
    distinct = distinct_push xs s h.distinct absent;
  }

  -- adding members one by one comes to an end, or to more than 2,000
  gather : (n : ℕ) (xs : List Sort) → AreDistinctMembers xs → 2001 ≤ n + length xs → HasManyMembers ts group ⊎ ((ys : List Sort) × IsListing ys)
  gather zero xs h l = inl (record { some = xs; members = h.members; distinct = h.distinct; many = omega (arith, l) })
  gather (suc n) xs h l = elim (one_more xs h.members) [
    | inl found ↦ gather n (xs ++ found.0 ∷ []) (pushed xs found.0 h found.1 found.2) (omega (arith, l, length-append xs (found.0 ∷ [])))
    | inr whole ↦ inr (xs, record { listed = h; whole = whole })
  ]

  gathered : HasManyMembers ts group ⊎ ((ys : List Sort) × IsListing ys)
  gathered = gather 2001 [] none_yet (omega arith)

  above_or_not : (m n : ℕ) → (m < n) ⊎ (n ≤ m)
  above_or_not m n = grind arith

  not_wide : (ys : List Sort) → IsListing ys → length ys ≤ 2000 → ((s : Sort) → Contains ys s → node_count s ≤ 1000) → IsTooWide ts group → ⊥
  not_wide ys h few small (inl many) = omega (arith, no_longer many.some ys many.distinct (λ s c. h.whole s (many.members s c)), few, many.many)
  not_wide ys h few small (inr large) = omega (arith, small large.its (h.whole large.its large.member), large.large)

  listing_decides : (ys : List Sort) → IsListing ys → IsDecided (IsTooWide ts group)
  listing_decides ys h = elim (above_or_not 2000 (length ys)) [
    | inl many ↦ inl (inl (record { some = ys; members = h.listed.members; distinct = h.listed.distinct; many = many }))
    | inr few ↦ elim (find_or_all (λ s. 1000 < node_count s) (λ s. node_count s ≤ 1000) (λ s. above_or_not 1000 (node_count s)) ys) [
      | inl found ↦ inl (inr (record { its = found.0; member = h.listed.members found.0 found.1; large = found.2 }))
      | inr small ↦ inr (not_wide ys h few small)
    ]
  ]

  pub wide_decided : IsTooWide ts group ⊎ (IsTooWide ts group → ⊥)
  wide_decided = elim gathered [ inl many ↦ inl (inl many) | inr found ↦ listing_decides found.0 found.1 ]

  listed_members : (IsTooWide ts group → ⊥) → (ys : List Sort) × IsListing ys
  listed_members narrow = elim gathered [ inl many ↦ absurd (narrow (inl many)) | inr found ↦ found ]

-- Whether a sort settles by a list of those that are not settled.

no_field_decided : (fs : List PlainField) (args unsettled : List Sort) → (HasNoFieldSort fs args unsettled → ⊥) ⊎ HasNoFieldSort fs args unsettled
no_field_decided fs args unsettled =
    elim (find_or_all (λ (f : PlainField). Contains unsettled (inst args f.sort)) (λ (f : PlainField). Contains unsettled (inst args f.sort) → ⊥) (λ (f : PlainField). listed unsettled (inst args f.sort)) fs) [
      | inl found ↦ inl (λ h. h (inst args found.0.sort) (found.0, found.1, refl) found.2)
      | inr all ↦ inr (λ s p c. all p.0 p.1 (subst (Contains unsettled) p.2 c))
    ]

constructor_decided : (cs : List PlainConstructor) (args unsettled : List Sort) → IsDecided (HasConstructorWithout cs args unsettled)
constructor_decided cs args unsettled =
    elim (find_or_all (λ (c : PlainConstructor). HasNoFieldSort c.fields args unsettled) (λ (c : PlainConstructor). HasNoFieldSort c.fields args unsettled → ⊥) (λ (c : PlainConstructor). turned (no_field_decided c.fields args unsettled)) cs) [
      | inl found ↦ inl found
      | inr none ↦ inr (λ h. none h.0 h.1 h.2)
    ]
  where
    turned : {P Q : Type 0} → P ⊎ Q → Q ⊎ P
    turned (inl p) = inr p
    turned (inr q) = inl q

element_decided : (args unsettled : List Sort) (o : Option Sort) → slice_get args 1 ≡ o → IsDecided (HasElementWithout args unsettled)
element_decided args unsettled None e = inr (λ h. by h.0 (sym e ∙ h.1))
  where
    by : (s : Sort) → None ≡ Some s → ⊥
    by s e = cc
element_decided args unsettled (Some s) e = elim (listed unsettled s) [
  | inl c ↦ inr (λ h. h.2 (subst (Contains unsettled) (some_same s h.0 (sym e ∙ h.1)) c))
  | inr absent ↦ inl (s, e, absent)
]

module _ (ts group : List PlainDatatype) where
  data_decided : (n : ℕ) (args unsettled : List Sort) (o : Option PlainDatatype) → numbered ts n ≡ o → IsDecided ((t : PlainDatatype) × (numbered ts n ≡ Some t) × HasConstructorWithout t.constructors args unsettled)
  data_decided n args unsettled None e = inr (λ h. by h.0 (sym e ∙ h.1))
    where
      by : (t : PlainDatatype) → None ≡ Some t → ⊥
      by t e = cc
  data_decided n args unsettled (Some t) e = elim (constructor_decided t.constructors args unsettled) [
    | inl has ↦ inl (t, e, has)
    | inr lacks ↦ inr (λ h. lacks (subst (λ (z : PlainDatatype). HasConstructorWithout z.constructors args unsettled) (some_same h.0 t (sym h.1 ∙ e)) h.2))
  ]

  settles_by : (h : Head) (args unsettled : List Sort) → IsDecided (SettlesBy ts h args unsettled)
  settles_by (head.Data d n) args unsettled = data_decided d.0 args unsettled (numbered ts d.0) refl
  settles_by head.Array args unsettled = element_decided args unsettled (slice_get args 1) refl
  settles_by (head.Free d n) args unsettled = inl tt
  settles_by head.Bool args unsettled = inr (λ p. absurd p)
  settles_by head.Int args unsettled = inr (λ p. absurd p)
  settles_by (head.BitVec m) args unsettled = inr (λ p. absurd p)
  settles_by (head.Param i) args unsettled = inr (λ p. absurd p)

  settles_decided : (unsettled : List Sort) (r : NumberedSort) → IsDecided (Settles ts group r unsettled)
  settles_decided unsettled r = elim (is_true (mentions group (tree r))) [
    | inr e ↦ inl (inl e)
    | inl e ↦ elim (settles_by (head_of r) (map tree (parts r)) unsettled) [ inl p ↦ inl (inr p) | inr stuck ↦ inr (neither e stuck) ]
  ]
    where
      neither : mentions group (tree r) ≡ true → (SettlesBy ts (head_of r) (map tree (parts r)) unsettled → ⊥) → Settles ts group r unsettled → ⊥
      neither e stuck (inl f) = false≢true (sym f ∙ e)
      neither e stuck (inr p) = stuck p

  -- one in the list settles, or none does
  one_settles : (rs : List NumberedSort) → ((i : ℕ) × SettlesAt ts group rs i) ⊎ NoneSettles ts group rs
  one_settles rs = elim (find_or_all (λ r. Settles ts group r (map tree rs)) (λ r. Settles ts group r (map tree rs) → ⊥) (settles_decided (map tree rs)) rs) [
    | inl found ↦ inl (found.1.0, (found.0, found.1.1, sym found.1.2, found.2))
    | inr none ↦ inr (λ k d l. none (get_or rs k d) (Contains-get_or rs k d l))
  ]

  record IsSplit (rs : List NumberedSort) : Type 0 where
    pub members : (s : Sort) → Contains (map tree rs) s → IsMember ts group s
    pub rest : (s : Sort) → IsMember ts group s → IsSettled ts group s ⊎ Contains (map tree rs) s

  split_step : (rs : List NumberedSort) (i : ℕ) → SettlesAt ts group rs i → IsSplit rs → IsSplit (without rs i)
  split_step rs i at h = record {
    members = λ s c. h.members s (without_contains rs i s c);
    rest = settled_step ts group rs (without rs i) i refl at h.members h.rest;
  }

  -- taking those that settle out of the list comes to an end
  settle : (n : ℕ) (rs : List NumberedSort) → length rs ≤ n → IsSplit rs → (unsettled : List Sort) × HasUnsettled ts group unsettled
  settle zero rs l h = elim (one_settles rs) [
    | inl found ↦ absurd (omega (arith, l, found.1.1))
    | inr stuck ↦ (map tree rs, λ s m. (h.rest s m, never_settled ts group rs stuck s))
  ]
  settle (suc n) rs l h = elim (one_settles rs) [
    | inl found ↦ settle n (without rs found.0) (omega (arith, l, length_without rs found.0 found.1.1)) (split_step rs found.0 found.1 h)
    | inr stuck ↦ (map tree rs, λ s m. (h.rest s m, never_settled ts group rs stuck s))
  ]

  trees-unnumbered : (ys : List Sort) → map tree (map unnumbered ys) ≡ ys
  trees-unnumbered [] = refl
  trees-unnumbered (y ∷ ys) = ap (λ z. z ∷ map tree (map unnumbered ys)) (tree-unnumbered y) ∙ ap (λ z. y ∷ z) (trees-unnumbered ys)

  -- where the unfolding is not too wide, some list has the members that are not settled
  pub unsettled_listed : (IsTooWide ts group → ⊥) → (unsettled : List Sort) × HasUnsettled ts group unsettled
  unsettled_listed narrow =
      let (ys, h) = listed_members ts group narrow in
      let same = trees-unnumbered ys in
      settle (length (map unnumbered ys)) (map unnumbered ys) (omega arith) (record {
        members = λ s c. h.listed.members s (subst (λ z. Contains z s) same c);
        rest = λ s m. inr (subst (λ z. Contains z s) (sym same) (h.whole s m));
      })

  -- a member is settled or not
  pub settled_decided : (IsTooWide ts group → ⊥) → (s : Sort) → IsMember ts group s → IsSettled ts group s ⊎ (IsSettled ts group s → ⊥)
  settled_decided narrow s m =
      let (unsettled, h) = unsettled_listed narrow in
      elim ((h s m).0) [ inl a ↦ inl a | inr c ↦ inr (λ a. (h s m).1 a c) ]

  -- .. so is the own sort of each datatype of the group
  pub own_settled_decided : (IsTooWide ts group → ⊥) → (t : PlainDatatype) → Contains group t → IsSettled ts group (own_sort t) ⊎ (IsSettled ts group (own_sort t) → ⊥)
  own_settled_decided narrow t c = settled_decided narrow (own_sort t) (own t c)
