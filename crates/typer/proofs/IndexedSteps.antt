-- What the checks of the code say of a sort (_ symbol index+).
use Rattle.std.proofs.Common.{◌≡◌, ◌==◌, ℕ, ◌<◌, ◌≤◌, ◌^◌, true, false, List, [], length, Some, None, Result, Ok, Err, refl, ap, ◌∙◌, arith, inl, inr, rules}
use Rattle.std.proofs.Math.Nat.{lt_of_not-le}
use Rattle.judgement.specs.Judging.{well_sorted, ill_sorted}
use Rattle.lex_core.specs.declared.token.Tok.{Tok}
use Rattle.sig_table.specs.declared.code.Code.TheVariants.{WrongIndex, NumberTooLarge}
use Rattle.sig_table.specs.declared.theories.Theories.{Theories}
use Rattle.sort_store.specs.declared.head.Head.TheVariants as head
use Rattle.sort_store.specs.Tree.{Sort, sort, no_sorts}
use Rattle.dt_rules.specs.declared.error.TyError.{TyError}
use Rattle.dt_rules.specs.declared.error.TyError.TheVariants as error
use Rattle.typer.specs.Answers.{Answers}
use Rattle.typer.specs.SortSymbols.{is_bit_vector}
use Rattle.typer.specs.SortRules.{only_numeral, index_value, judge_symbol, judge_indexed}

module _ (texts : List (List ℕ)) (theories : Theories) (at : ℕ) (args : List Sort) (t : Tok) (is : List Tok) (bits : is_bit_vector texts theories t.name ≡ true) (alone : length args ≡ 0) where
  pub no_numeral : only_numeral is ≡ None → Answers {A = Sort} (Err (error.Fault (record { code = WrongIndex; at = at }))) (judge_indexed texts theories at args t is)
  no_numeral e before = inr (tt, before, (bits, refl), inr (tt, before, (alone, refl), inl (never, refl)))
    where
      never : (i : Tok) → only_numeral is ≡ Some i → ⊥
      never i f = cc

  module _ (i : Tok) (found : only_numeral is ≡ Some i) where
    pub too_large : 2 ^ 32 ≤ index_value texts i → Answers {A = Sort} (Err (error.Fault (record { code = NumberTooLarge; at = at }))) (judge_indexed texts theories at args t is)
    too_large l before = inr (tt, before, (bits, refl), inr (tt, before, (alone, refl), inr (i, before, (found, refl), inl ((λ h. omega (arith, l, h)), refl))))

    pub zero_width : index_value texts i ≡ 0 → Answers {A = Sort} (Err (error.Fault (record { code = WrongIndex; at = at }))) (judge_indexed texts theories at args t is)
    zero_width e before =
        inr (tt, before, (bits, refl), inr (tt, before, (alone, refl), inr (i, before, (found, refl), inr (tt, before, (omega (arith, e), refl), inl ((λ h. omega (arith, e, h)), refl)))))

    pub width_step : (width : ℕ) (r : Result Sort TyError) → width ≡ index_value texts i → width < 2 ^ 32 → 1 ≤ width
        → Answers r (judge_symbol at [] (head.BitVec width) 0) → Answers r (judge_indexed texts theories at args t is)
    width_step width (Ok u) e l m h = λ before. by before (h before)
      where
        by : (before : List ℕ) → judge_symbol at [] (head.BitVec width) 0 before (well_sorted u before) → judge_indexed texts theories at args t is before (well_sorted u before)
        by before (x, s, j, (y, s', k, (f, n))) =
            (tt, before, (bits, refl), (tt, before, (alone, refl), (i, before, (found, refl), (tt, before, (omega (arith, e, l), refl), (tt, before, (omega (arith, e, m), refl), (f ∙ ap (λ w. sort (head.BitVec w) no_sorts) e, refl))))))
    width_step width (Err (error.Fault place)) e l m h = λ before. by before (h before)
      where
        by : (before : List ℕ) → judge_symbol at [] (head.BitVec width) 0 before (ill_sorted place) → judge_indexed texts theories at args t is before (ill_sorted place)
        by before (inl j) = absurd (j.0 refl)
        by before (inr (x, s, j, inl k)) = absurd (k.0 (omega arith))
        by before (inr (x, s, j, inr (y, s', k, f))) = absurd f
    width_step width (Err error.NoMemory) e l m h = tt

pub is_zero : (n : ℕ) → (n == 0) ≡ true → n ≡ 0
is_zero n e = search (rules, e)

pub below : (m n : ℕ) → (n ≤ m → true ≡ false) → m < n
below m n f = lt_of_not-le (λ h. no (f h))
  where
    no : true ≡ false → ⊥
    no e = cc
