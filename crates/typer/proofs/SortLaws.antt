-- Each sort has exactly one outcome, and declares no name.
use Rattle.std.proofs.Common.{◌≡◌, ℕ, zero, suc, arith, ap, ◌≤◌, List, [], ◌⊎◌, inl, inr, refl}
use Rattle.sig_table.specs.declared.theories.Theories.{Theories}
use Rattle.lex_core.specs.declared.place.Place.{Place}
use Rattle.lex_core.specs.declared.token.Tok.{Tok}
use Rattle.judgement.specs.Judging.{Judging, well_sorted, ill_sorted, Lawful, DeclaresNone}
use Rattle.judgement.proofs.JudgementLaws.{lawful-done, lawful-check, lawful-find, lawful-then, test_decided, option_decided, value_or_fault, value_once, never_both, fault_once}
use Rattle.judgement.proofs.NamesKept.{none-done, none-check, none-find, none-then}
use Rattle.term_grammar.specs.Syntax as syntax
use Rattle.term_grammar.specs.Syntax.{Identifier, symbol, indexed, identifier_at, named_sort, applied_sort, Sorts, with_sort}
use Rattle.sort_store.specs.Tree.{Sort}
use Rattle.typer.specs.Declarations.{Declarations}
use Rattle.typer.specs.SortSymbols.{Meaning, symbol_of, definition_of, meaning}
use Rattle.typer.specs.SortRules.{only_numeral, judge_meaning, judge_identifier, judge_indexed, judge_sort, judge_sorts, SortOf, SortFault}

pub at_most : (m n : ℕ) → (m ≤ n) ⊎ (m ≤ n → ⊥)
at_most zero n = inl (omega arith)
at_most (suc m) zero = inr (λ h. omega (arith, h))
at_most (suc m) (suc n) = elim (at_most m n) [ inl h ↦ inl (omega (arith, h)) | inr differs ↦ inr (λ h. differs (omega (arith, h))) ]

pub same_number : (m n : ℕ) → (m ≡ n) ⊎ (m ≡ n → ⊥)
same_number zero zero = inl refl
same_number zero (suc n) = inr (λ h. omega (arith, h))
same_number (suc m) zero = inr (λ h. omega (arith, h))
same_number (suc m) (suc n) = elim (same_number m n) [ inl h ↦ inl (ap suc h) | inr differs ↦ inr (λ h. differs (omega (arith, h))) ]

-- a judgement that declares no name has a value or a fault, whatever names were declared before
pub decided_of : {A : Type 0} (J : Judging A) → Lawful J → DeclaresNone J → ((x : A) × ((before : List ℕ) → J before (well_sorted x before))) ⊎ ((place : Place) × ((before : List ℕ) → J before (ill_sorted place)))
decided_of {A} J law none = by (value_or_fault J law [])
  where
    by : ((x : A) × (after : List ℕ) × J [] (well_sorted x after)) ⊎ ((place : Place) × J [] (ill_sorted place))
        → ((x : A) × ((before : List ℕ) → J before (well_sorted x before))) ⊎ ((place : Place) × ((before : List ℕ) → J before (ill_sorted place)))
    by (inl (x, after, h)) = inl (x, (none [] (well_sorted x after) h).1)
    by (inr (place, h)) = inr (place, none [] (ill_sorted place) h)

module _ (texts : List (List ℕ)) (declarations : Declarations) (theories : Theories) (params : List ℕ) where
  lawful-indexed : (t : Tok) (is : List Tok) (at : ℕ) (args : List Sort) → Lawful (judge_indexed texts theories at args t is)
  lawful-indexed t is at args =
      lawful-then _ _ (lawful-check _ _ _ (test_decided _)) (λ _. lawful-then _ _ (lawful-check _ _ _ (same_number _ _)) (λ _. lawful-then _ _ (lawful-find _ _ _ (option_decided (only_numeral is)))
      (λ i. lawful-then _ _ (lawful-check _ _ _ (at_most _ _)) (λ _. lawful-then _ _ (lawful-check _ _ _ (at_most _ _)) (λ _. lawful-done _)))))

  lawful-meaning : (m : Meaning) (at : ℕ) (args : List Sort) → Lawful (judge_meaning texts params at args m)
  lawful-meaning (symbol_of h arity) at args =
      lawful-then _ _ (lawful-check _ _ _ (same_number _ _)) (λ _. lawful-then _ _ (lawful-check _ _ _ (at_most _ _)) (λ _. lawful-done _))
  lawful-meaning (definition_of arity body) at args =
      lawful-then _ _ (lawful-check _ _ _ (same_number _ _)) (λ _. lawful-then _ _ (lawful-check _ _ _ (at_most _ _)) (λ _. lawful-then _ _ (lawful-check _ _ _ (test_decided _)) (λ _. lawful-done _)))

  lawful-identifier : (i : Identifier) (at : ℕ) (args : List Sort) → Lawful (judge_identifier texts declarations theories params at args i)
  lawful-identifier (symbol t) at args =
      lawful-then _ _ (lawful-find _ _ _ (option_decided (meaning texts declarations theories params t.name))) (λ m. lawful-meaning m at args)
  lawful-identifier (indexed _ t is) at args = lawful-indexed t is at args

  mutual
    pub lawful-sort : (s : syntax.Sort) → Lawful (judge_sort texts declarations theories params s)
    lawful-sort (named_sort i) = lawful-identifier i (identifier_at i) []
    lawful-sort (applied_sort at i ss) = lawful-then _ _ (lawful-sorts ss) (λ args. lawful-identifier i at args)

    pub lawful-sorts : (ss : Sorts) → Lawful (judge_sorts texts declarations theories params ss)
    lawful-sorts syntax.no_sorts = lawful-done _
    lawful-sorts (with_sort s ss) = lawful-then _ _ (lawful-sort s) (λ t. lawful-then _ _ (lawful-sorts ss) (λ ts. lawful-done _))

  none-meaning : (m : Meaning) (at : ℕ) (args : List Sort) → DeclaresNone (judge_meaning texts params at args m)
  none-meaning (symbol_of h arity) at args = none-then _ _ (none-check _ _ _) (λ _. none-then _ _ (none-check _ _ _) (λ _. none-done _))
  none-meaning (definition_of arity body) at args =
      none-then _ _ (none-check _ _ _) (λ _. none-then _ _ (none-check _ _ _) (λ _. none-then _ _ (none-check _ _ _) (λ _. none-done _)))

  none-identifier : (i : Identifier) (at : ℕ) (args : List Sort) → DeclaresNone (judge_identifier texts declarations theories params at args i)
  none-identifier (symbol t) at args = none-then _ _ (none-find _ _ _) (λ m. none-meaning m at args)
  none-identifier (indexed _ t is) at args =
      none-then _ _ (none-check _ _ _) (λ _. none-then _ _ (none-check _ _ _) (λ _. none-then _ _ (none-find _ _ _) (λ i. none-then _ _ (none-check _ _ _) (λ _. none-then _ _ (none-check _ _ _) (λ _. none-done _)))))

  mutual
    pub none-sort : (s : syntax.Sort) → DeclaresNone (judge_sort texts declarations theories params s)
    none-sort (named_sort i) = none-identifier i (identifier_at i) []
    none-sort (applied_sort at i ss) = none-then _ _ (none-sorts ss) (λ args. none-identifier i at args)

    pub none-sorts : (ss : Sorts) → DeclaresNone (judge_sorts texts declarations theories params ss)
    none-sorts syntax.no_sorts = none-done _
    none-sorts (with_sort s ss) = none-then _ _ (none-sort s) (λ t. none-then _ _ (none-sorts ss) (λ ts. none-done _))

  -- the laws of the two readings
  pub sort_once : (s : syntax.Sort) (t u : Sort) → SortOf texts declarations theories params s t → SortOf texts declarations theories params s u → t ≡ u
  sort_once s t u h k = (value_once _ (lawful-sort s) [] t u [] [] (h []) (k [])).0

  pub sort_or_fault : (s : syntax.Sort) (t : Sort) (place : Place) → SortOf texts declarations theories params s t → SortFault texts declarations theories params s place → ⊥
  sort_or_fault s t place h k = never_both _ (lawful-sort s) [] t [] place (h []) (k [])

  pub fault_of_sort_once : (s : syntax.Sort) (p q : Place) → SortFault texts declarations theories params s p → SortFault texts declarations theories params s q → p ≡ q
  fault_of_sort_once s p q h k = fault_once _ (lawful-sort s) [] p q (h []) (k [])

  pub sort_decided : (s : syntax.Sort) → ((t : Sort) × SortOf texts declarations theories params s t) ⊎ ((place : Place) × SortFault texts declarations theories params s place)
  sort_decided s = decided_of _ (lawful-sort s) (none-sort s)
