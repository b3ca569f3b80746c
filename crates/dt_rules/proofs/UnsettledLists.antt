-- A list of sorts without one of them, and lists without repeats.
use Rattle.std.proofs.Common.{◌≡◌, ℕ, zero, suc, ◌+◌, ◌<◌, ◌≤◌, ◌⊎◌, List, [], ◌∷◌, ◌++◌, length, map, take, drop, get_or, Some, refl, ap, sym, ◌∙◌, subst, inl, inr, arith, slice_get}
use Rattle.std.specs.List.{Contains}
use Rattle.sort_store.specs.Interned.{AllInterned, HasNoRepeats}
use Rattle.sort_store.specs.Tree.{Sort, NumberedSort, tree}
use Rattle.term_store.specs.Command.{PlainDatatype, plain_datatype}
use Rattle.term_store.specs.declared.command.Datatype.{Datatype}
use Rattle.dt_rules.specs.Unfolding.{IsMember, IsSettled, IsTooWide, own}
use Rattle.dt_rules.specs.Settling.{SettlesAt, HasUnsettled}
use Rattle.dt_rules.specs.Groups.{own_sort}
use Rattle.dt_rules.specs.Judgement.{NoneListed, IsFirstListed, IsFirstUnsettled}
use Rattle.dt_rules.specs.Worklist.{IsUnfolding}
use Rattle.dt_rules.proofs.SettledMembers.{settled_now}
use Rattle.dt_rules.proofs.AddedParts.{split_last}
use Rattle.dt_rules.proofs.Gaining.{sort_at}
use Rattle.std.proofs.lemmas.List.Elements.{Contains-get_or}
use Rattle.std.proofs.lemmas.List.{get_or-map, length-map}

abbrev pub without : {X : Type 0} → List X → ℕ → List X
without xs i = take i xs ++ drop (suc i) xs

pub items_without : {X : Type 0} (new old : List X) (i : ℕ) → new ≡ take i old ++ drop (i + 1) old → new ≡ without old i
items_without new old i e = let same : i + 1 ≡ suc i = omega arith in e ∙ ap (λ z. take i old ++ drop z old) same

pub cons_cases : {X : Type 0} (x s : X) (xs : List X) → Contains (x ∷ xs) s → (x ≡ s) ⊎ Contains xs s
cons_cases x s xs (zero, l, e) = inl e
cons_cases x s xs (suc k, l, e) = inr (k, omega (arith, l), e)

pub here : {X : Type 0} (x s : X) (xs : List X) → x ≡ s → Contains (x ∷ xs) s
here x s xs e = (0, omega arith, e)

pub there : {X : Type 0} (x s : X) (xs : List X) → Contains xs s → Contains (x ∷ xs) s
there x s xs c = (suc c.0, omega (arith, c.1), c.2)

pub interned_without : (store : List Sort) (rs : List NumberedSort) (i : ℕ) → AllInterned store rs → AllInterned store (without rs i)
interned_without store [] zero h = tt
interned_without store [] (suc i) h = tt
interned_without store (r ∷ rs) zero h = h.1
interned_without store (r ∷ rs) (suc i) h = (h.0, interned_without store rs i h.1)

pub contains_without : (rs : List NumberedSort) (i : ℕ) (r : NumberedSort) (s : Sort) → i < length rs → r ≡ get_or rs i r → Contains (map tree rs) s → Contains (map tree (without rs i)) s ⊎ (s ≡ tree r)
contains_without [] i r s l at c = absurd (omega (arith, l))
contains_without (x ∷ rs) zero r s l at c = elim (cons_cases (tree x) s (map tree rs) c) [ inl e ↦ inr (sym e ∙ ap tree (sym at)) | inr d ↦ inl d ]
contains_without (x ∷ rs) (suc i) r s l at c = elim (cons_cases (tree x) s (map tree rs) c) [
  | inl e ↦ inl (here (tree x) s (map tree (without rs i)) e)
  | inr d ↦ elim (contains_without rs i r s (omega (arith, l)) at d) [ inl f ↦ inl (there (tree x) s (map tree (without rs i)) f) | inr e ↦ inr e ]
]

pub without_contains : (rs : List NumberedSort) (i : ℕ) (s : Sort) → Contains (map tree (without rs i)) s → Contains (map tree rs) s
without_contains [] zero s c = c
without_contains [] (suc i) s c = c
without_contains (x ∷ rs) zero s c = there (tree x) s (map tree rs) c
without_contains (x ∷ rs) (suc i) s c = elim (cons_cases (tree x) s (map tree (without rs i)) c) [
  | inl e ↦ here (tree x) s (map tree rs) e
  | inr d ↦ there (tree x) s (map tree rs) (without_contains rs i s d)
]

-- one more member is settled
pub settled_step : (ts group : List PlainDatatype) (old new : List NumberedSort) (i : ℕ) → new ≡ without old i → SettlesAt ts group old i
    → ((s : Sort) → Contains (map tree old) s → IsMember ts group s) → ((s : Sort) → IsMember ts group s → IsSettled ts group s ⊎ Contains (map tree old) s)
    → (s : Sort) → IsMember ts group s → IsSettled ts group s ⊎ Contains (map tree new) s
settled_step ts group old new i e (r, l, at, settles) members rest s m = elim (rest s m) [
  | inl a ↦ inl a
  | inr c ↦ elim (contains_without old i r s l at c) [
    | inl d ↦ inr (subst (λ z. Contains (map tree z) s) (sym e) d)
    | inr same ↦ inl (subst (IsSettled ts group) (sym same)
        (settled_now ts group (map tree old) (λ u n absent. elim (rest u n) [ inl a ↦ a | inr b ↦ absurd (absent b) ]) r (members (tree r) (sort_at old i r l at)) settles))
  ]
]

-- Counting.

pub length_without : {X : Type 0} (xs : List X) (k : ℕ) → k < length xs → length (without xs k) + 1 ≡ length xs
length_without [] k l = absurd (omega (arith, l))
length_without (x ∷ xs) zero l = omega arith
length_without (x ∷ xs) (suc k) l = omega (arith, length_without xs k (omega (arith, l)))

kept : (xs : List Sort) (k : ℕ) (s t : Sort) → k < length xs → get_or xs k s ≡ s → Contains xs t → Contains (without xs k) t ⊎ (s ≡ t)
kept [] k s t l at c = absurd (omega (arith, l))
kept (x ∷ xs) zero s t l at c = elim (cons_cases x t xs c) [ inl e ↦ inr (sym at ∙ e) | inr d ↦ inl d ]
kept (x ∷ xs) (suc k) s t l at c = elim (cons_cases x t xs c) [
  | inl e ↦ inl (here x t (without xs k) e)
  | inr d ↦ elim (kept xs k s t (omega (arith, l)) at d) [ inl f ↦ inl (there x t (without xs k) f) | inr e ↦ inr e ]
]

get_contained : (xs : List Sort) (s : Sort) (k : ℕ) → k < length xs → get_or xs k s ≡ s → slice_get xs k ≡ Some s
get_contained [] s k l e = absurd (omega (arith, l))
get_contained (x ∷ xs) s zero l e = ap Some e
get_contained (x ∷ xs) s (suc k) l e = get_contained xs s k (omega (arith, l)) e

rest_distinct : (s : Sort) (ss : List Sort) → HasNoRepeats (s ∷ ss) → HasNoRepeats ss
rest_distinct s ss h = record { distinct = λ i j t p q. omega (arith, h.distinct (suc i) (suc j) t p q) }

not_again : (s : Sort) (ss : List Sort) → HasNoRepeats (s ∷ ss) → Contains ss s → ⊥
not_again s ss h (k, l, e) = omega (arith, h.distinct 0 (suc k) s refl (get_contained ss s k l e))

pub no_longer : (ss xs : List Sort) → HasNoRepeats ss → ((s : Sort) → Contains ss s → Contains xs s) → length ss ≤ length xs
no_longer [] xs h f = omega arith
no_longer (s ∷ ss) xs h f =
    let c = f s (here s s ss refl) in
    let rest = no_longer ss (without xs c.0) (rest_distinct s ss h) (λ t d. elim (kept xs c.0 s t c.1 c.2 (f t (there s t ss d))) [ inl k ↦ k | inr e ↦ absurd (not_again s ss h (subst (Contains ss) (sym e) d)) ]) in
    omega (arith, rest, length_without xs c.0 c.1)

pub not_wide : (ts group : List PlainDatatype) (store : List Sort) (rs : List NumberedSort) → IsUnfolding ts group store rs → IsTooWide ts group → ⊥
not_wide ts group store rs u (inl many) = omega (arith, no_longer many.some (map tree rs) many.distinct (λ s c. u.whole s (many.members s c)), length-map rs tree, u.listed.few, many.many)
not_wide ts group store rs u (inr large) = omega (arith, u.listed.small large.its (u.whole large.its large.member), large.large)

-- The first datatype of the group whose own sort is in the list is the first that is not settled.

own_member : (ts group : List PlainDatatype) (k : ℕ) (d : PlainDatatype) → k < length group → IsMember ts group (own_sort (get_or group k d))
own_member ts group k d l = own (get_or group k d) (Contains-get_or group k d l)

module _ (ts group : List PlainDatatype) (unsettled : List Sort) (h : HasUnsettled ts group unsettled) where
  settled_before : (n : ℕ) → NoneListed group unsettled n → (k : ℕ) (d : PlainDatatype) → k < n → k < length group → IsSettled ts group (own_sort (get_or group k d))
  settled_before n none k d below l = elim ((h (own_sort (get_or group k d)) (own_member ts group k d l)).0) [ inl a ↦ a | inr c ↦ absurd (none k d below l c) ]

  pub first_unsettled : (i : ℕ) → IsFirstListed group unsettled i → IsFirstUnsettled ts group i
  first_unsettled i f = record {
    its = f.its;
    inside = f.inside;
    at = f.at;
    unsettled = λ s. (h (own_sort f.its) (subst (λ (z : PlainDatatype). IsMember ts group (own_sort z)) (sym f.at) (own_member ts group i f.its f.inside))).1 s f.listed;
    before = λ k d b. settled_before i f.before k d b (omega (arith, b, f.inside));
  }

  pub all_settled : (n : ℕ) → length group ≤ n → NoneListed group unsettled n → (t : PlainDatatype) → Contains group t → IsSettled ts group (own_sort t)
  all_settled n l none t (k, below, e) = subst (λ (z : PlainDatatype). IsSettled ts group (own_sort z)) e (settled_before n none k t (omega (arith, below, l)) below)

pub listed_more : (group : List Datatype) (unsettled : List Sort) (i : ℕ) (t : Datatype) → i < length group → t ≡ get_or group i t → (Contains unsettled (own_sort (plain_datatype t)) → ⊥)
    → NoneListed (map plain_datatype group) unsettled i → NoneListed (map plain_datatype group) unsettled (i + 1)
listed_more group unsettled i t l at absent none = λ k d below within c. elim (split_last k i below) [
  | inl b ↦ none k d b within c
  | inr e ↦ absent (subst (λ (z : PlainDatatype). Contains unsettled (own_sort z)) (ap (λ z. get_or (map plain_datatype group) z d) e ∙ (get_or-map plain_datatype group i t d l ∙ ap plain_datatype (sym at))) c)
]

pub first_at : (group : List Datatype) (unsettled : List Sort) (i : ℕ) (t : Datatype) → i < length group → t ≡ get_or group i t → Contains unsettled (own_sort (plain_datatype t)) → NoneListed (map plain_datatype group) unsettled i
    → IsFirstListed (map plain_datatype group) unsettled i
first_at group unsettled i t l at has none = record {
  its = plain_datatype t;
  inside = omega (arith, l, length-map group plain_datatype);
  at = ap plain_datatype at ∙ sym (get_or-map plain_datatype group i t (plain_datatype t) l);
  listed = has;
  before = none;
}
