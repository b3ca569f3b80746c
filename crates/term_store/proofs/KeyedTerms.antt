-- What a search over the keys of a table finds, and what the table is after a new entry.
use Rattle.std.proofs.Common.{◌≡◌, ℕ, suc, zero, ◌+◌, ◌-◌, ◌<◌, ◌≤◌, List, [], ◌∷◌, ◌++◌, length, map, refl, ap, sym, ◌∙◌, arith, subst, Some, inl, inr, ◌⊎◌}
use Rattle.std.specs.List.{All, Contains, slice_get}
use Rattle.std.specs.Map.{values_of}
use Rattle.std.proofs.lemmas.Bool.{cases_lt}
use Rattle.std.proofs.lemmas.Option.{slice_get_within}
use Rattle.std.proofs.lemmas.List.{map-append}
use Rattle.std.proofs.lemmas.List.Elements.{All-push, All-weaker}
use Rattle.sort_store.specs.Tree.{NumberedSort}
use Rattle.sort_store.proofs.InternedSorts.{get_append, get_last, get_push, contains_from_get}
use Rattle.sort_store.proofs.GrownStores.{get_map}
use Rattle.sort_store.proofs.KeyedStores.{all_at, get_map_back, get_from_contains}
use Rattle.term_store.specs.declared.key.TermKey.{TermKey}
use Rattle.term_store.specs.declared.term.TermNode.{TermNode}
use Rattle.term_store.specs.Term.{NumberedTerm, PlainTerm, term, tree, node_of, number}
use Rattle.term_store.specs.NumberedNodes.{numbered_node, term_of}
use Rattle.term_store.specs.Interned.{IsInterned, ArePartsInterned, HasNoRepeats, Interns, IsStore}
use Rattle.term_store.specs.Outline.{Outline, outline, IsMadeOf}
use Rattle.term_store.specs.TermKeys.{Entries, IsKeyFor, IsAlike, IsSameKey, HasOrdinal, MapsTo, LacksKey, FollowsAlike, IsKeyedStore, stored_trees, LacksBelow, SearchedTo, IsNewKey, LacksMade}
use Rattle.term_store.proofs.InternedTerms.{interned_append, parts_interned_append, interned_contained, distinct_push}
use Rattle.term_store.proofs.Outlines.{tree_of_made, made_from_tree}

alike_same : (a : TermKey) → IsAlike a a
alike_same a = record { kinds = refl; names = refl; counted = refl }

alike_back : (a b : TermKey) → IsAlike a b → IsAlike b a
alike_back a b h = record { kinds = sym h.kinds; names = sym h.names; counted = sym h.counted }

alike_more : (a b c : TermKey) → IsAlike a b → IsAlike b c → IsAlike a c
alike_more a b c h k = record { kinds = h.kinds ∙ k.kinds; names = h.names ∙ k.names; counted = h.counted ∙ k.counted }

alike_for : (a b : TermKey) (o : Outline) → IsKeyFor a o → IsKeyFor b o → IsAlike a b
alike_for a b o h k = record { kinds = h.kinds ∙ sym k.kinds; names = h.names ∙ sym k.names; counted = h.counted ∙ sym k.counted }

-- an ordinal is not above its place
ordinal_within : (es : Entries) → IsKeyedStore es → (n k : ℕ) (e : TermKey × NumberedTerm) → slice_get es k ≡ Some e → e.0.ordinal ≡ n → n ≤ k
ordinal_within es old zero k e g o = omega arith
ordinal_within es old (suc n) k e g o =
    let h = old.ordered k e g n o in
    let below = ordinal_within es old n h.0.place h.0.entry h.0.stands h.0.ordinal in
    omega (arith, below, h.1)

-- each ordinal below that of an entry stands at one that is alike
earlier : (es : Entries) → IsKeyedStore es → (d m k : ℕ) (e : TermKey × NumberedTerm) → slice_get es k ≡ Some e → e.0.ordinal ≡ m + d → HasOrdinal es e.0 m
earlier es old zero m k e g o = record { place = k; entry = e; stands = g; alike = alike_same e.0; ordinal = omega (arith, o) }
earlier es old (suc d) m k e g o =
    let h = old.ordered k e g (m + d) (omega (arith, o)) in
    let r = earlier es old d m h.0.place h.0.entry h.0.stands h.0.ordinal in
    record { place = r.place; entry = r.entry; stands = r.stands; alike = alike_more e.0 h.0.entry.0 r.entry.0 h.0.alike r.alike; ordinal = r.ordinal }

-- the search begins
pub search_begins : (es : Entries) (key : TermKey) (x : TermNode) (s : NumberedSort) → key.ordinal ≡ 0 → SearchedTo es key x s
search_begins es key x s o = record {
  below = λ k e g a l. absurd (omega (arith, l, o));
  follows = λ n h. absurd (omega (arith, h, o));
}

-- the search goes on past a term that is another
pub search_goes_on : (es : Entries) (key : TermKey) (t : NumberedTerm) (x : TermNode) (s : NumberedSort) (new : TermKey) → IsKeyedStore es → SearchedTo es key x s → MapsTo es key t → (IsMadeOf t x s → ⊥)
    → new.kind ≡ key.kind → new.name ≡ key.name → new.numbers.items ≡ key.numbers.items → new.ordinal ≡ key.ordinal + 1 → SearchedTo es new x s
search_goes_on es key t x s new old h m other k n c o =
    let alike : IsAlike key new = record { kinds = sym k; names = sym n; counted = sym c } in
    record {
      below = λ j e g a l.
          elim (cases_lt e.0.ordinal key.ordinal) [
            | inl b ↦ h.below j e g (alike_more key new e.0 alike a) b
            | inr b ↦ (
                let both : IsSameKey m.entry.0 e.0 = record {
                  alike = alike_more m.entry.0 key e.0 (alike_back key m.entry.0 m.same.alike) (alike_more key new e.0 alike a);
                  ordinals = sym m.same.ordinals ∙ omega (arith, b, l, o);
                } in
                let p = old.single m.place j m.entry e m.stands g both in
                let q : Some m.entry ≡ Some e = sym m.stands ∙ ap (slice_get es) p ∙ g in
                let r : m.entry ≡ e = cc in
                λ made. other (subst (λ z. IsMadeOf z x s) (sym (ap (λ (z : TermKey × NumberedTerm). z.1) r) ∙ m.value) made))
          ];
      follows = λ i p. (
        record { place = m.place; entry = m.entry; stands = m.stands; alike = alike_more new key m.entry.0 (alike_back key new alike) m.same.alike; ordinal = sym m.same.ordinals ∙ omega (arith, p, o) },
        slice_get_within es m.place m.entry m.stands,
      );
    }

pub ordinal_below : (es : Entries) (key : TermKey) (t : NumberedTerm) → IsKeyedStore es → MapsTo es key t → key.ordinal < length es
ordinal_below es key t old m =
    let w = slice_get_within es m.place m.entry m.stands in
    let o = ordinal_within es old m.entry.0.ordinal m.place m.entry m.stands refl in
    omega (arith, w, o, m.same.ordinals)

-- the search found the term
pub found_contained : (es : Entries) (key : TermKey) (t : NumberedTerm) → MapsTo es key t → Contains (values_of es) t
found_contained es key t m = contains_from_get (values_of es) m.place t (get_map (λ (z : TermKey × NumberedTerm). z.1) es m.place m.entry m.stands ∙ ap Some m.value)

-- the search ends with no term
pub search_ends : (es : Entries) (key : TermKey) (x : TermNode) (s : NumberedSort) → IsKeyedStore es → SearchedTo es key x s → IsKeyFor key (outline (numbered_node x)) → LacksKey es key → LacksMade es x s
search_ends es key x s old h for lacks k t g made =
    let v = get_map_back (λ (z : TermKey × NumberedTerm). z.1) es k t g in
    let e = v.0 in
    let same = made in
    let its : IsKeyFor e.0 (outline (numbered_node x)) = subst (IsKeyFor e.0) (ap (λ z. outline (node_of z)) v.2 ∙ made.1) (all_at (λ (z : TermKey × NumberedTerm). IsKeyFor z.0 (outline (node_of z.1))) es k e old.keyed v.1) in
    let a = alike_for key e.0 (outline (numbered_node x)) for its in
    elim (cases_lt e.0.ordinal key.ordinal) [
      | inl b ↦ h.below k e v.1 a b (subst (λ z. IsMadeOf z x s) (sym v.2) made)
      | inr b ↦ (
          let r = earlier es old (e.0.ordinal - key.ordinal) key.ordinal k e v.1 (omega (arith, b)) in
          lacks r.place r.entry r.stands (record { alike = alike_more key e.0 r.entry.0 a r.alike; ordinals = sym r.ordinal }))
    ]

pub new_key : (es : Entries) (key : TermKey) (x : TermNode) (s : NumberedSort) → SearchedTo es key x s → IsKeyFor key (outline (numbered_node x)) → LacksKey es key → IsNewKey es key (outline (numbered_node x))
new_key es key x s h for lacks = record { key_for = for; lacks = lacks; follows = h.follows }

-- what a term that was found is
pub record Found (store : List PlainTerm) (t : NumberedTerm) (x : TermNode) (s : NumberedSort) : Type 0 where
  pub tree_is : tree t ≡ term_of s x
  pub interned : IsInterned store t
  pub interns : Interns store store (tree t)
  pub distinct : HasNoRepeats store

pub found_as : (store : List PlainTerm) (es : Entries) (t : NumberedTerm) (x : TermNode) (s : NumberedSort) → stored_trees es ≡ store → IsKeyedStore es → ArePartsInterned store (numbered_node x) → Contains (values_of es) t → IsMadeOf t x s → Found store t x s
found_as store es t x s v old parts has made =
    let at = get_from_contains (values_of es) has.0 t has.1 has.2 in
    let here = all_at (IsInterned (stored_trees es)) (values_of es) has.0 t old.stored.interned at in
    let inner = subst (λ z. ArePartsInterned z (numbered_node x)) (sym v) parts in
    record {
      tree_is = tree_of_made (stored_trees es) t x s here inner made;
      interned = subst (λ z. IsInterned z t) v here;
      interns = inl (subst (λ z. Contains z (tree t)) v (interned_contained (stored_trees es) t here), refl);
      distinct = subst HasNoRepeats v old.stored.distinct;
    }

length-values : (es : Entries) → length (values_of es) ≡ length es
length-values [] = refl
length-values (e ∷ es) = ap suc (length-values es)

length-trees : (ts : List NumberedTerm) → length (map tree ts) ≡ length ts
length-trees [] = refl
length-trees (t ∷ ts) = ap suc (length-trees ts)

-- what a new entry leaves
pub record Added (store : List PlainTerm) (es : Entries) (t : NumberedTerm) (x : TermNode) (s : NumberedSort) : Type 0 where
  pub stored : IsKeyedStore es
  pub tree_is : tree t ≡ term_of s x
  pub interned : IsInterned (stored_trees es) t
  pub interns : Interns store (stored_trees es) (tree t)
  pub distinct : HasNoRepeats (stored_trees es)

abbrev has_ordinal_append : (es more : Entries) (key : TermKey) (n : ℕ) → HasOrdinal es key n → HasOrdinal (es ++ more) key n
has_ordinal_append es more key n h = record { place = h.place; entry = h.entry; stands = get_append es more h.place h.entry h.stands; alike = h.alike; ordinal = h.ordinal }

module _ (es : Entries) (key : TermKey) (x : TermNode) (s : NumberedSort) (old : IsKeyedStore es) (parts : ArePartsInterned (stored_trees es) (numbered_node x))
    (lacks : LacksMade es x s) (fresh : IsNewKey es key (outline (numbered_node x))) where
  abbrev t : NumberedTerm
  t = term (length es) s (numbered_node x)

  abbrev now : Entries
  now = es ++ (key, t) ∷ []

  trees_now : stored_trees now ≡ stored_trees es ++ term_of s x ∷ []
  trees_now = ap (map tree) (map-append (λ (z : TermKey × NumberedTerm). z.1) es ((key, t) ∷ [])) ∙ map-append tree (values_of es) (t ∷ [])

  absent : Contains (stored_trees es) (term_of s x) → ⊥
  absent has =
      let at = get_from_contains (stored_trees es) has.0 (term_of s x) has.1 has.2 in
      let v = get_map_back tree (values_of es) has.0 (term_of s x) at in
      let here = all_at (IsInterned (stored_trees es)) (values_of es) has.0 v.0 old.stored.interned v.1 in
      lacks has.0 v.0 v.1 (made_from_tree (stored_trees es) v.0 x s old.stored.distinct here parts v.2)

  distinct_now : HasNoRepeats (stored_trees now)
  distinct_now = subst HasNoRepeats (sym trees_now) (distinct_push (stored_trees es) (term_of s x) old.stored.distinct absent)

  last : slice_get (stored_trees es ++ term_of s x ∷ []) (length es) ≡ Some (term_of s x)
  last = subst (λ n. slice_get (stored_trees es ++ term_of s x ∷ []) n ≡ Some (term_of s x)) (length-trees (values_of es) ∙ length-values es) (get_last (stored_trees es) (term_of s x))

  interned_now : IsInterned (stored_trees now) t
  interned_now = subst (λ z. IsInterned z t) (sym trees_now) (last, parts_interned_append (stored_trees es) (term_of s x ∷ []) (numbered_node x) parts)

  values_now : values_of now ≡ values_of es ++ t ∷ []
  values_now = map-append (λ (z : TermKey × NumberedTerm). z.1) es ((key, t) ∷ [])

  all_now : All (IsInterned (stored_trees now)) (values_of now)
  all_now =
      subst (All (IsInterned (stored_trees now))) (sym values_now)
      (All-push (IsInterned (stored_trees now)) (values_of es) t
      (All-weaker (IsInterned (stored_trees es)) (IsInterned (stored_trees now)) (λ y p. subst (λ z. IsInterned z y) (sym trees_now) (interned_append (stored_trees es) (term_of s x ∷ []) y p)) (values_of es) old.stored.interned)
      interned_now)

  single_now : (j k : ℕ) (d e : TermKey × NumberedTerm) → slice_get now j ≡ Some d → slice_get now k ≡ Some e → IsSameKey d.0 e.0 → j ≡ k
  single_now j k d e g h same =
      elim (get_push es (key, t) d j g) [
        | inl a ↦ elim (get_push es (key, t) e k h) [
          | inl b ↦ old.single j k d e a b same
          | inr b ↦ absurd (fresh.lacks j d a (back d.0 key (subst (λ (z : TermKey × NumberedTerm). IsSameKey d.0 z.0) (sym b.1) same)))
        ]
        | inr a ↦ elim (get_push es (key, t) e k h) [
          | inl b ↦ absurd (fresh.lacks k e b (subst (λ (z : TermKey × NumberedTerm). IsSameKey z.0 e.0) (sym a.1) same))
          | inr b ↦ a.0 ∙ sym b.0
        ]
      ]
    where
      back : (a b : TermKey) → IsSameKey a b → IsSameKey b a
      back a b h = record { alike = alike_back a b h.alike; ordinals = sym h.ordinals }

  ordered_now : (k : ℕ) (e : TermKey × NumberedTerm) → slice_get now k ≡ Some e → FollowsAlike now k e.0
  ordered_now k e g n o =
      elim (get_push es (key, t) e k g) [
        | inl a ↦ (let h = old.ordered k e a n o in (has_ordinal_append es ((key, t) ∷ []) e.0 n h.0, h.1))
        | inr a ↦ (
            let is : key ≡ e.0 = ap (λ (z : TermKey × NumberedTerm). z.0) a.1 in
            let h = fresh.follows n (ap (λ (z : TermKey). z.ordinal) is ∙ o) in
            (subst (λ z. HasOrdinal now z n) is (has_ordinal_append es ((key, t) ∷ []) key n h.0), omega (arith, h.1, a.0)))
      ]

  pub new_entry : Added (stored_trees es) now t x s
  new_entry = record {
    stored = record {
      stored = record { interned = all_now; distinct = distinct_now };
      keyed = All-push (λ (z : TermKey × NumberedTerm). IsKeyFor z.0 (outline (node_of z.1))) es (key, t) old.keyed fresh.key_for;
      single = single_now;
      ordered = ordered_now;
    };
    tree_is = refl;
    interned = interned_now;
    interns = inr (absent, trees_now);
    distinct = distinct_now;
  }

pub added_as : (store : List PlainTerm) (es new : Entries) (key : TermKey) (t : NumberedTerm) (x : TermNode) (s : NumberedSort) → stored_trees es ≡ store → IsKeyedStore es → ArePartsInterned store (numbered_node x)
    → LacksMade es x s → IsNewKey es key (outline (numbered_node x)) → t ≡ term (length es) s (numbered_node x) → new ≡ es ++ (key, t) ∷ [] → Added store new t x s
added_as store es new key t x s v old parts lacks fresh is put =
    let p = new_entry es key x s old (subst (λ z. ArePartsInterned z (numbered_node x)) (sym v) parts) lacks fresh in
    let q = subst (λ z. Added z (es ++ (key, term (length es) s (numbered_node x)) ∷ []) (term (length es) s (numbered_node x)) x s) v p in
    let r = subst (λ z. Added store (es ++ (key, z) ∷ []) z x s) (sym is) q in
    subst (λ z. Added store z t x s) (sym put) r

pub ruleset search_words = (search_begins, search_goes_on, ordinal_below, found_contained, search_ends, new_key)
