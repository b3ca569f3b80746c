-- The laws of judgements: one lemma for each kind of item, one for a part with the items after it, and what follows of
-- every lawful judgement. A judgement by productions is lawful by one line for each production.
use Rattle.std.proofs.Common.{◌≡◌, ℕ, ◌++◌, List, [], ◌∷◌, ◌⊎◌, Bool, true, false, Option, Some, None, IsTrue, refl, inl, inr, ap, sym, ◌∙◌, subst}
use Rattle.sig_table.specs.declared.code.Code.{Code}
use Rattle.lex_core.specs.declared.place.Place.{Place}
use Rattle.judgement.specs.Judging.{Judging, Outcome, well_sorted, ill_sorted, done, ◌>>=◌, check, find, refuse, names, declare, Decided, Lawful}

module _ {A : Type 0} where
  same_well_sorted : (x y : A) (s t : List ℕ) → y ≡ x → t ≡ s → well_sorted y t ≡ well_sorted x s
  same_well_sorted x y s t e f = cc

  pub lawful-done : (x : A) → Lawful (done x)
  lawful-done x before = record { outcome = well_sorted x before; holds = (refl, refl); only = only }
    where
      only : (o : Outcome A) → done x before o → o ≡ well_sorted x before
      only (well_sorted y t) h = same_well_sorted x y before t h.0 h.1
      only (ill_sorted f) h = absurd h

  pub lawful-refuse : (code : Code) (at : ℕ) → Lawful (refuse {A = A} code at)
  lawful-refuse code at before = record { outcome = ill_sorted (record { code = code; at = at }); holds = refl; only = only }
    where
      only : (o : Outcome A) → refuse code at before o → o ≡ ill_sorted (record { code = code; at = at })
      only (well_sorted y t) h = absurd h
      only (ill_sorted f) h = ap ill_sorted h

  -- a rule that holds of exactly one value, or of none
  pub lawful-find : (P : A → Type 0) (code : Code) (at : ℕ) → ((x : A) × P x × ((y : A) → P y → y ≡ x)) ⊎ ((x : A) → P x → ⊥) → Lawful (find P code at)
  lawful-find P code at (inl (x, p, u)) before = record { outcome = well_sorted x before; holds = (p, refl); only = only }
    where
      only : (o : Outcome A) → find P code at before o → o ≡ well_sorted x before
      only (well_sorted y t) h = same_well_sorted x y before t (u y h.0) h.1
      only (ill_sorted f) h = absurd (h.0 x p)
  lawful-find P code at (inr n) before = record { outcome = ill_sorted (record { code = code; at = at }); holds = (n, refl); only = only }
    where
      only : (o : Outcome A) → find P code at before o → o ≡ ill_sorted (record { code = code; at = at })
      only (well_sorted y t) h = absurd (n y h.0)
      only (ill_sorted f) h = ap ill_sorted h.1

pub lawful-check : (P : Type 0) (code : Code) (at : ℕ) → P ⊎ (P → ⊥) → Lawful (check P code at)
lawful-check P code at (inl p) before = record { outcome = well_sorted tt before; holds = (p, refl); only = only }
  where
    only : (o : Outcome (Unit {0})) → check P code at before o → o ≡ well_sorted tt before
    only (well_sorted y t) h = ap (well_sorted tt) h.1
    only (ill_sorted f) h = absurd (h.0 p)
lawful-check P code at (inr n) before = record { outcome = ill_sorted (record { code = code; at = at }); holds = (n, refl); only = only }
  where
    only : (o : Outcome (Unit {0})) → check P code at before o → o ≡ ill_sorted (record { code = code; at = at })
    only (well_sorted y t) h = absurd (n h.0)
    only (ill_sorted f) h = ap ill_sorted h.1

pub lawful-names : Lawful names
lawful-names before = record { outcome = well_sorted before before; holds = (refl, refl); only = only }
  where
    only : (o : Outcome (List ℕ)) → names before o → o ≡ well_sorted before before
    only (well_sorted y t) h = same_well_sorted before y before t h.0 h.1
    only (ill_sorted f) h = absurd h

pub lawful-declare : (n : ℕ) → Lawful (declare n)
lawful-declare n before = record { outcome = well_sorted tt (before ++ n ∷ []); holds = refl; only = only }
  where
    only : (o : Outcome (Unit {0})) → declare n before o → o ≡ well_sorted tt (before ++ n ∷ [])
    only (well_sorted y t) h = ap (well_sorted tt) h
    only (ill_sorted f) h = absurd h

-- All items are met, or there is a first that isn't.
module _ {A B : Type 0} (J : Judging A) (K : A → Judging B) (before : List ℕ) where
  given_same : (x y : A) (s t : List ℕ) → well_sorted y t ≡ well_sorted x s → (y ≡ x) × (t ≡ s)
  given_same x y s t e = let p : y ≡ x = cc in let q : t ≡ s = cc in (p, q)

  no_fault : (x : A) (s : List ℕ) (f : Place) → ill_sorted f ≡ well_sorted x s → ⊥
  no_fault x s f e = cc

  no_value : (x : A) (s : List ℕ) (f : Place) → well_sorted x s ≡ ill_sorted f → ⊥
  no_value x s f e = cc

  same_fault : (f g : Place) → ◌≡◌ {A = Outcome A} (ill_sorted g) (ill_sorted f) → ◌≡◌ {A = Outcome B} (ill_sorted g) (ill_sorted f)
  same_fault f g e = let p : g ≡ f = cc in ap ill_sorted p

  then : (o : Outcome A) → J before o → ((p : Outcome A) → J before p → p ≡ o) → ((x : A) (s : List ℕ) → J before (well_sorted x s) → Decided (K x) s) → Decided (J >>= K) before
  then (ill_sorted f) h u k = record { outcome = ill_sorted f; holds = inl h; only = only }
    where
      only : (o : Outcome B) → (J >>= K) before o → o ≡ ill_sorted f
      only (well_sorted y t) (x, s, j, l) = absurd (no_value x s f (u (well_sorted x s) j))
      only (ill_sorted g) (inl j) = same_fault f g (u (ill_sorted g) j)
      only (ill_sorted g) (inr (x, s, j, l)) = absurd (no_value x s f (u (well_sorted x s) j))
  then (well_sorted x s) h u k = record { outcome = (k x s h).outcome; holds = holds (k x s h).outcome (k x s h).holds; only = only }
    where
      holds : (o : Outcome B) → K x s o → (J >>= K) before o
      holds (well_sorted y t) l = (x, s, h, l)
      holds (ill_sorted g) l = inr (x, s, h, l)

      moved : (y : A) (t : List ℕ) (o : Outcome B) → J before (well_sorted y t) → K y t o → K x s o
      moved y t o j l = let e = given_same x y s t (u (well_sorted y t) j) in
          subst (λ (z : A). K z s o) e.0 (subst (λ (r : List ℕ). K y r o) e.1 l)

      only : (o : Outcome B) → (J >>= K) before o → o ≡ (k x s h).outcome
      only (well_sorted y t) (z, r, j, l) = (k x s h).only (well_sorted y t) (moved z r (well_sorted y t) j l)
      only (ill_sorted g) (inl j) = absurd (no_fault x s g (u (ill_sorted g) j))
      only (ill_sorted g) (inr (z, r, j, l)) = (k x s h).only (ill_sorted g) (moved z r (ill_sorted g) j l)

pub lawful-then : {A B : Type 0} (J : Judging A) (K : A → Judging B) → Lawful J → ((x : A) → Lawful (K x)) → Lawful (J >>= K)
lawful-then J K j k before = then J K before (j before).outcome (j before).holds (j before).only (λ x s _. k x s)

-- the same where the items after a part are lawful for the values that the part can have
pub lawful-then_given : {A B : Type 0} (J : Judging A) (K : A → Judging B) → Lawful J → ((before : List ℕ) (x : A) (s : List ℕ) → J before (well_sorted x s) → Decided (K x) s) → Lawful (J >>= K)
lawful-then_given J K j k before = then J K before (j before).outcome (j before).holds (j before).only (k before)

-- What follows of a lawful judgement: it has a value or a fault, never both, one value and one fault.
module _ {A : Type 0} (J : Judging A) (law : Lawful J) (before : List ℕ) where
  pub value_or_fault : ((x : A) × (after : List ℕ) × J before (well_sorted x after)) ⊎ ((place : Place) × J before (ill_sorted place))
  value_or_fault = by (law before).outcome (law before).holds
    where
      by : (o : Outcome A) → J before o → ((x : A) × (after : List ℕ) × J before (well_sorted x after)) ⊎ ((place : Place) × J before (ill_sorted place))
      by (well_sorted x after) h = inl (x, after, h)
      by (ill_sorted place) h = inr (place, h)

  same_outcome : (o p : Outcome A) → J before o → J before p → o ≡ p
  same_outcome o p h k = let d = law before in d.only o h ∙ sym (d.only p k)

  pub value_once : (x y : A) (s t : List ℕ) → J before (well_sorted x s) → J before (well_sorted y t) → (x ≡ y) × (s ≡ t)
  value_once x y s t h k = by (same_outcome (well_sorted x s) (well_sorted y t) h k)
    where
      by : well_sorted x s ≡ well_sorted y t → (x ≡ y) × (s ≡ t)
      by e = let p : x ≡ y = cc in let q : s ≡ t = cc in (p, q)

  pub never_both : (x : A) (after : List ℕ) (place : Place) → J before (well_sorted x after) → J before (ill_sorted place) → ⊥
  never_both x after place h k = by (same_outcome (well_sorted x after) (ill_sorted place) h k)
    where
      by : well_sorted x after ≡ ill_sorted place → ⊥
      by e = cc

  pub fault_once : (p q : Place) → J before (ill_sorted p) → J before (ill_sorted q) → p ≡ q
  fault_once p q h k = by (same_outcome (ill_sorted p) (ill_sorted q) h k)
    where
      by : ◌≡◌ {A = Outcome A} (ill_sorted p) (ill_sorted q) → p ≡ q
      by e = cc

-- A test is met or not, and an option has one value or none.
pub test_decided : (b : Bool) → IsTrue b ⊎ (IsTrue b → ⊥)
test_decided true = inl refl
test_decided false = inr no
  where
    no : false ≡ true → ⊥
    no e = cc

pub option_decided : {A : Type 0} (o : Option A) → ((x : A) × (o ≡ Some x) × ((y : A) → o ≡ Some y → y ≡ x)) ⊎ ((x : A) → o ≡ Some x → ⊥)
option_decided {A} (Some x) = inl (x, refl, same)
  where
    same : (y : A) → Some x ≡ Some y → y ≡ x
    same y e = cc
option_decided {A} None = inr no
  where
    no : (x : A) → None ≡ Some x → ⊥
    no x e = cc
