-- Parameters that stand in sorts.
use Rattle.std.proofs.Common.{◌≡◌, ◌==◌, ℕ, zero, suc, ◌<◌, ◌≤◌, Bool, true, false, not, ◌||◌, List, [], ◌∷◌, length, map, Option, Some, None, ◌⊎◌, inl, inr, refl, ap, sym, ◌∙◌, arith, slice_get, get_or, drop, subst, rules}
use Rattle.std.proofs.lemmas.Option.{slice_get_within}
use Rattle.sort_store.specs.declared.head.Head.{Head}
use Rattle.sort_store.specs.Tree.{Sort, sort, sorts, SortList, no_sorts, more_sorts, NumberedSort, node, NumberedSorts, no_nodes, more_nodes, node_list, tree, trees, parts, head}
use Rattle.sort_store.specs.Instance.{param_of}
use Rattle.sort_store.specs.Binding.{ParamAt, ParamIn, ParamInEach}
use Rattle.typer.specs.LiveRanks.{occurs_at, occurs_in, occurs_in_some, lacks_some}
use Rattle.typer.proofs.CapturedSymbols.{part_smaller}

or_left : (a b : Bool) → a ≡ true → (a || b) ≡ true
or_left true b e = refl
or_left false b e = cc

or_right : (a b : Bool) → b ≡ true → (a || b) ≡ true
or_right true b e = refl
or_right false b e = e

neither : (a b : Bool) → a ≡ false → b ≡ false → (a || b) ≡ false
neither true b e f = e
neither false b e f = f

module _ (i : ℕ) where
  each_occurs : (rs : NumberedSorts) (k : ℕ) (a : NumberedSort) → slice_get (node_list rs) k ≡ Some a → occurs_in i (tree a) ≡ true → occurs_in_some i (trees rs) ≡ true
  each_occurs no_nodes k a e t = cc
  each_occurs (more_nodes r rs) zero a e t = let s : r ≡ a = cc in or_left _ _ (ap (λ z. occurs_in i (tree z)) s ∙ t)
  each_occurs (more_nodes r rs) (suc k) a e t = or_right _ _ (each_occurs rs k a e t)

  no_param : (h : Head) (inside : Bool) → param_of h ≡ None → occurs_at (param_of h) i inside ≡ inside
  no_param h inside e = ap (λ o. occurs_at o i inside) e

  pub param_occurs : (r : NumberedSort) (j : ℕ) → Some j ≡ param_of (head r) → (i == j) ≡ occurs_in i (tree r)
  param_occurs (node m h rs) j e = ap (λ o. occurs_at o i (occurs_in_some i (trees rs))) e

  pub part_occurs : (r a : NumberedSort) (k : ℕ) → None ≡ param_of (head r) → slice_get (parts r) k ≡ Some a → occurs_in i (tree a) ≡ true → true ≡ occurs_in i (tree r)
  part_occurs (node m h rs) a k n e t = sym (no_param h _ (sym n) ∙ each_occurs rs k a e t)

  none_of_each : (rs : NumberedSorts) → ((k : ℕ) (a : NumberedSort) → slice_get (node_list rs) k ≡ Some a → occurs_in i (tree a) ≡ false) → occurs_in_some i (trees rs) ≡ false
  none_of_each no_nodes h = refl
  none_of_each (more_nodes r rs) h = neither _ _ (h zero r refl) (none_of_each rs (λ k a e. h (suc k) a e))

  pub none_occurs : (r : NumberedSort) (n : ℕ) → None ≡ param_of (head r) → length (parts r) ≤ n
      → ((k : ℕ) (a : NumberedSort) → k < n → slice_get (parts r) k ≡ Some a → occurs_in i (tree a) ≡ false) → false ≡ occurs_in i (tree r)
  none_occurs (node m h rs) n p l f = sym (no_param h _ (sym p) ∙ none_of_each rs (λ k a e. f k a (omega (arith, l, slice_get_within (node_list rs) k a e)) e))

  -- over a slice, on what is left
  pub occurs_here : (rs : List NumberedSort) (k : ℕ) (r : NumberedSort) → k < length rs → r ≡ get_or rs k r → occurs_in i (tree r) ≡ true → occurs_in_some i (sorts (map tree (drop k rs))) ≡ true
  occurs_here [] k r l e t = absurd (omega (arith, l))
  occurs_here (x ∷ rs) zero r l e t = or_left _ _ (ap (λ z. occurs_in i (tree z)) (sym e) ∙ t)
  occurs_here (x ∷ rs) (suc k) r l e t = occurs_here rs k r (omega (arith, l)) e t

  pub occurs_on : (rs : List NumberedSort) (k : ℕ) (r : NumberedSort) → k < length rs → r ≡ get_or rs k r → occurs_in i (tree r) ≡ false
      → occurs_in_some i (sorts (map tree (drop (suc k) rs))) ≡ occurs_in_some i (sorts (map tree (drop k rs)))
  occurs_on [] k r l e t = absurd (omega (arith, l))
  occurs_on (x ∷ rs) zero r l e t = ap (λ b. b || occurs_in_some i (sorts (map tree rs))) (sym (ap (λ z. occurs_in i (tree z)) (sym e) ∙ t))
  occurs_on (x ∷ rs) (suc k) r l e t = occurs_on rs k r (omega (arith, l)) e t

  pub occurs_end : (rs : List NumberedSort) (k : ℕ) → length rs ≤ k → occurs_in_some i (sorts (map tree (drop k rs))) ≡ false
  occurs_end [] zero l = refl
  occurs_end [] (suc k) l = refl
  occurs_end (x ∷ rs) zero l = absurd (omega (arith, l))
  occurs_end (x ∷ rs) (suc k) l = occurs_end rs k (omega (arith, l))

-- whether a parameter is lacking
pub lacks_here : (i : ℕ) (ts : List Sort) → occurs_in_some i (sorts ts) ≡ false → lacks_some (suc i) ts ≡ true
lacks_here i ts e = or_right _ _ (ap not e)

pub lacks_on : (i : ℕ) (ts : List Sort) → lacks_some i ts ≡ false → occurs_in_some i (sorts ts) ≡ true → lacks_some (suc i) ts ≡ false
lacks_on i ts e t = neither _ _ e (ap not t)

pub lacks_more : (i n : ℕ) (ts : List Sort) → i ≤ n → lacks_some i ts ≡ true → lacks_some n ts ≡ true
lacks_more zero zero ts l e = e
lacks_more (suc i) zero ts l e = absurd (omega (arith, l))
lacks_more i (suc n) ts l e = elim (at_or_below i n l) [ inl s ↦ ap (λ k. lacks_some k ts) (sym s) ∙ e | inr m ↦ or_left _ _ (lacks_more i n ts m e) ]
  where
    at_or_below : (i n : ℕ) → i ≤ suc n → (i ≡ suc n) ⊎ (i ≤ n)
    at_or_below zero n l = inr (omega arith)
    at_or_below (suc i) zero l = inl (omega (arith, l))
    at_or_below (suc i) (suc n) l = elim (at_or_below i n (omega (arith, l))) [ inl e ↦ inl (ap suc e) | inr m ↦ inr (omega (arith, m)) ]

at_last : (i n : ℕ) → i < suc n → (i ≡ n) ⊎ (i < n)
at_last zero zero l = inl refl
at_last zero (suc n) l = inr (omega arith)
at_last (suc i) zero l = absurd (omega (arith, l))
at_last (suc i) (suc n) l = elim (at_last i n (omega (arith, l))) [ inl e ↦ inl (ap suc e) | inr m ↦ inr (omega (arith, m)) ]

left_false : (a b : Bool) → (a || b) ≡ false → a ≡ false
left_false true b e = e
left_false false b e = refl

right_false : (a b : Bool) → (a || b) ≡ false → b ≡ false
right_false true b e = cc
right_false false b e = e

negated : (b : Bool) → not b ≡ false → b ≡ true
negated true e = refl
negated false e = cc

either_true : (a b : Bool) → (a || b) ≡ true → (a ≡ true) ⊎ (b ≡ true)
either_true true b e = inl refl
either_true false b e = inr e

equal : (i j : ℕ) → (i == j) ≡ true → i ≡ j
equal i j e = search (rules, e)

at_param : (o : Option ℕ) (i : ℕ) (inside : Bool) (In : Type 0) → (inside ≡ true → In) → occurs_at o i inside ≡ true → ParamAt o i In
at_param (Some j) i inside In f e = equal i j e
at_param None i inside In f e = f e

mutual
  in_sort : (i : ℕ) (t : Sort) → occurs_in i t ≡ true → ParamIn i t
  in_sort i (sort h ts) e = at_param (param_of h) i (occurs_in_some i ts) (ParamInEach i ts) (λ t. in_some i ts t) e

  in_some : (i : ℕ) (ts : SortList) → occurs_in_some i ts ≡ true → ParamInEach i ts
  in_some i no_sorts e = cc
  in_some i (more_sorts t ts) e = elim (either_true _ _ e) [ inl h ↦ inl (in_sort i t h) | inr h ↦ inr (in_some i ts h) ]

-- a parameter of a symbol that is not ambiguous stands in an argument sort
pub given : (n i : ℕ) (ts : List Sort) → lacks_some n ts ≡ false → i < n → ParamInEach i (sorts ts)
given zero i ts e l = absurd (omega (arith, l))
given (suc n) i ts e l = elim (at_last i n l) [
  | inl s ↦ subst (λ k. ParamInEach k (sorts ts)) (sym s) (in_some n (sorts ts) (negated _ (right_false _ _ e)))
  | inr m ↦ given n i ts (left_false _ _ e) m
]

pub ruleset occurs_words = (part_smaller, param_occurs, part_occurs, none_occurs)

pub ruleset occurs_list_words = (occurs_here, occurs_on, occurs_end)

pub ruleset lacks_words = (lacks_here, lacks_on, lacks_more)

pub ambiguous_at : (i n : ℕ) (ts : List Sort) → i < n → occurs_in_some i (sorts ts) ≡ false → true ≡ lacks_some n ts
ambiguous_at i n ts l e = sym (lacks_more (suc i) n ts (omega (arith, l)) (lacks_here i ts e))
