-- What the checks of the code say of a sort symbol with its arguments.
use Rattle.std.proofs.Common.{◌≡◌, ℕ, ◌<◌, ◌≤◌, Bool, true, false, not, IsTrue, List, length, inl, inr, ◌↔◌, Ok, Err, refl, sym, subst}
use Rattle.std.proofs.Math.Nat.{lt_of_not-le}
use Rattle.sig_table.specs.declared.code.Code.TheVariants.{CapturedSortParameter}
use Rattle.std.specs.Result.{IsErrOf}
use Rattle.sort_store.specs.declared.error.SortError.{SortError}
use Rattle.sort_store.specs.declared.head.Head.{Head}
use Rattle.sort_store.specs.Tree.{Sort, NumberedSort, sort, sorts, node_count}
use Rattle.sort_store.specs.Instance.{inst}
use Rattle.dt_rules.specs.declared.error.TyError.TheVariants as error
use Rattle.typer.specs.Answers.{Answers}
use Rattle.typer.specs.SortRules.{has_captured, judge_symbol, judge_definition}
use Rattle.typer.proofs.SortLaws.{at_most}

within : (m n : ℕ) → (n < m → ⊥) → m ≤ n
within m n f = elim (at_most m n) [ inl h ↦ h | inr differs ↦ absurd (f (lt_of_not-le differs)) ]

pub not_too_large : (r : NumberedSort) (n : ℕ) → (IsErrOf (Ok r) SortError.TooLarge ↔ (1000 < n)) → n ≤ 1000
not_too_large r n h = within n 1000 (λ l. by (h.1 l))
  where
    by : Ok r ≡ Err SortError.TooLarge → ⊥
    by e = cc

pub symbol_done : (at : ℕ) (args : List Sort) (h : Head) (arity : ℕ) (t : Sort) → length args ≡ arity → node_count (sort h (sorts args)) ≤ 1000 → t ≡ sort h (sorts args)
    → Answers (Ok t) (judge_symbol at args h arity)
symbol_done at args h arity t count small e before = (tt, before, (count, refl), (tt, before, (small, refl), (e, refl)))

module _ (texts : List (List ℕ)) (params : List ℕ) (at : ℕ) (args : List Sort) (arity : ℕ) (body : Sort) where
  is_true : (b : Bool) → b ≡ false → IsTrue (not b)
  is_true true e = sym e
  is_true false e = refl

  never : (b : Bool) → b ≡ true → IsTrue (not b) → ⊥
  never true e h = cc
  never false e h = cc

  pub definition_done : (t : Sort) → length args ≡ arity → node_count (inst args body) ≤ 1000 → t ≡ inst args body → has_captured texts params t ≡ false
      → Answers (Ok t) (judge_definition texts params at args arity body)
  definition_done t count small e free before =
      (tt, before, (count, refl), (tt, before, (small, refl), (tt, before, (is_true _ (subst (λ u. has_captured texts params u ≡ false) e free), refl), (e, refl))))

  pub definition_captured : (t : Sort) → length args ≡ arity → node_count (inst args body) ≤ 1000 → t ≡ inst args body → has_captured texts params t ≡ true
      → Answers {A = Sort} (Err (error.Fault (record { code = CapturedSortParameter; at = at }))) (judge_definition texts params at args arity body)
  definition_captured t count small e captured before =
      inr (tt, before, (count, refl), inr (tt, before, (small, refl), inl (never _ (subst (λ u. has_captured texts params u ≡ true) e captured), refl)))
