-- Two sorts are equal or not.
use Rattle.std.proofs.Common.{◌≡◌, true, false, List, [], ◌∷◌, ◌⊎◌, inl, inr, refl, ap, ◌∙◌, rules}
use Rattle.std.proofs.lemmas.Bool.{cases_Bool}
use Rattle.sort_store.specs.declared.head.Head.{Head}
use Rattle.sort_store.specs.contracts.head.HeadPartialEq.TheImpl.{eq-value}
use Rattle.sort_store.specs.Tree.{Sort, sort, SortList, no_sorts, more_sorts}

same_head : (h k : Head) → eq-value.it h k ≡ true → h ≡ k
same_head h k e = search rules

other_head : (h k : Head) → eq-value.it h k ≡ false → h ≡ k → ⊥
other_head h k e s = let t : eq-value.it h k ≡ true = search rules in cc

head_decided : (h k : Head) → (h ≡ k) ⊎ (h ≡ k → ⊥)
head_decided h k = elim (cases_Bool (eq-value.it h k)) [ inl t ↦ inl (same_head h k t) | inr n ↦ inr (other_head h k n) ]

mutual
  pub sort_decided : (t u : Sort) → (t ≡ u) ⊎ (t ≡ u → ⊥)
  sort_decided (sort h ts) (sort k us) = elim (head_decided h k) [
    | inl e ↦ elim (sort_list_decided ts us) [
      | inl f ↦ inl (ap (λ z. sort z ts) e ∙ ap (sort k) f)
      | inr n ↦ inr (λ s. n (let r : ts ≡ us = cc in r))
    ]
    | inr n ↦ inr (λ s. n (let r : h ≡ k = cc in r))
  ]

  pub sort_list_decided : (ts us : SortList) → (ts ≡ us) ⊎ (ts ≡ us → ⊥)
  sort_list_decided no_sorts no_sorts = inl refl
  sort_list_decided no_sorts (more_sorts u us) = inr (λ s. cc)
  sort_list_decided (more_sorts t ts) no_sorts = inr (λ s. cc)
  sort_list_decided (more_sorts t ts) (more_sorts u us) = elim (sort_decided t u) [
    | inl e ↦ elim (sort_list_decided ts us) [
      | inl f ↦ inl (ap (λ z. more_sorts z ts) e ∙ ap (more_sorts u) f)
      | inr n ↦ inr (λ s. n (let r : ts ≡ us = cc in r))
    ]
    | inr n ↦ inr (λ s. n (let r : t ≡ u = cc in r))
  ]

pub sorts_decided : (ts us : List Sort) → (ts ≡ us) ⊎ (ts ≡ us → ⊥)
sorts_decided [] [] = inl refl
sorts_decided [] (u ∷ us) = inr (λ s. cc)
sorts_decided (t ∷ ts) [] = inr (λ s. cc)
sorts_decided (t ∷ ts) (u ∷ us) = elim (sort_decided t u) [
  | inl e ↦ elim (sorts_decided ts us) [
    | inl f ↦ inl (ap (λ z. z ∷ ts) e ∙ ap (λ z. u ∷ z) f)
    | inr n ↦ inr (λ s. n (let r : ts ≡ us = cc in r))
  ]
  | inr n ↦ inr (λ s. n (let r : t ≡ u = cc in r))
]
