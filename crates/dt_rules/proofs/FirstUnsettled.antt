-- Each group has exactly one outcome: it is too wide, it is accepted, or some datatype of it is the first that is not settled.
use Rattle.std.proofs.Common.{◌≡◌, ℕ, zero, suc, ◌<◌, ◌⊎◌, List, [], ◌∷◌, length, get_or, refl, sym, subst, inl, inr, arith}
use Rattle.std.specs.List.{Contains}
use Rattle.std.proofs.lemmas.List.Elements.{Contains-get_or}
use Rattle.term_store.specs.Command.{PlainDatatype}
use Rattle.dt_rules.specs.Groups.{own_sort}
use Rattle.dt_rules.specs.Unfolding.{IsSettled, IsTooWide}
use Rattle.dt_rules.specs.Judgement.{IsFirstUnsettled, IsAccepted, IsUnsettledAt}
use Rattle.dt_rules.proofs.Decisions.{IsDecided}
use Rattle.dt_rules.proofs.DecidedGroups.{wide_decided, own_settled_decided}
use Rattle.dt_rules.proofs.UnsettledLists.{cons_cases, here, there}

-- the item at this place is the first that is not so
record IsFirstWithout {X : Type 0} (P : X → Type 0) (xs : List X) (i : ℕ) : Type 0 where
  pub its : X
  pub inside : i < length xs
  pub at : its ≡ get_or xs i its
  pub lacks : P its → ⊥
  pub before : (k : ℕ) (d : X) → k < i → P (get_or xs k d)

next_first : {X : Type 0} (P : X → Type 0) (y : X) (xs : List X) (i : ℕ) → P y → IsFirstWithout P xs i → IsFirstWithout P (y ∷ xs) (suc i)
next_first P y xs i p h = record { its = h.its; inside = omega (arith, h.inside); at = h.at; lacks = h.lacks; before = before }
  where
    before : (k : ℕ) (d : _) → k < suc i → P (get_or (y ∷ xs) k d)
    before zero d l = p
    before (suc k) d l = h.before k d (omega (arith, l))

first_or_all : {X : Type 0} (P : X → Type 0) (xs : List X) → ((x : X) → Contains xs x → IsDecided (P x)) → ((i : ℕ) × IsFirstWithout P xs i) ⊎ ((x : X) → Contains xs x → P x)
first_or_all P [] test = inr (λ x c. absurd (omega (arith, c.1)))
first_or_all P (y ∷ xs) test = elim (test y (here y y xs refl)) [
  | inr lacks ↦ inl (0, record { its = y; inside = omega arith; at = refl; lacks = lacks; before = λ k d l. absurd (omega (arith, l)) })
  | inl p ↦ elim (first_or_all P xs (λ x c. test x (there y x xs c))) [
    | inl first ↦ inl (suc first.0, next_first P y xs first.0 p first.1)
    | inr all ↦ inr (λ x c. elim (cons_cases y x xs c) [ inl e ↦ subst P e p | inr d ↦ all x d ])
  ]
]

module _ (ts group : List PlainDatatype) where
  pub first_decided : (IsTooWide ts group → ⊥) → ((i : ℕ) × IsUnsettledAt ts group i) ⊎ IsAccepted ts group
  first_decided narrow = elim (first_or_all (λ (t : PlainDatatype). IsSettled ts group (own_sort t)) group (own_settled_decided ts group narrow)) [
    | inl found ↦ let h = found.1 in inl (found.0, record { narrow = narrow; first = record { its = h.its; inside = h.inside; at = h.at; unsettled = h.lacks; before = h.before } })
    | inr all ↦ inr (record { narrow = narrow; settled = all })
  ]

  -- one of the three holds
  pub group_decided : IsTooWide ts group ⊎ (((i : ℕ) × IsUnsettledAt ts group i) ⊎ IsAccepted ts group)
  group_decided = elim (wide_decided ts group) [ inl wide ↦ inl wide | inr narrow ↦ inr (first_decided narrow) ]

  -- .. and no other
  pub accepted_no_first : (i : ℕ) → IsAccepted ts group → IsFirstUnsettled ts group i → ⊥
  accepted_no_first i a f = f.unsettled (a.settled f.its (subst (Contains group) (sym f.at) (Contains-get_or group i f.its f.inside)))

  not_before : (i j : ℕ) → IsFirstUnsettled ts group i → IsFirstUnsettled ts group j → i < j → ⊥
  not_before i j f g l = f.unsettled (subst (λ (z : PlainDatatype). IsSettled ts group (own_sort z)) (sym f.at) (g.before i f.its l))

  same_place : (i j : ℕ) → (i < j → ⊥) → (j < i → ⊥) → i ≡ j
  same_place i j f g = grind arith

  pub one_first : (i j : ℕ) → IsFirstUnsettled ts group i → IsFirstUnsettled ts group j → i ≡ j
  one_first i j f g = same_place i j (not_before i j f g) (not_before j i g f)
