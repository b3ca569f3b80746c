-- What is known of the ranks of a function symbol says which outcome the rule on ranks has.
use Rattle.std.proofs.Common.{◌≡◌, ℕ, ◌<◌, ◌≤◌, Bool, true, false, Option, Some, None, Result, Ok, Err, refl, inl, inr, arith, subst, sym, ap, ◌∙◌}
use Rattle.std.specs.Option.{IfSome, IsSomeAnd, option_map}
use Rattle.std.specs.Result.{IfErr, IfOk}
use Rattle.judgement.specs.Judging.{Judging}
use Rattle.sig_table.specs.declared.code.Code.TheVariants.{NoRank, AmbiguousConstructor, WrongQualifiedSort, SortTooLarge}
use Rattle.sort_store.specs.Tree.{Sort, NumberedSort, node_count, tree}
use Rattle.dt_rules.specs.declared.error.TyError.{TyError}
use Rattle.dt_rules.specs.declared.error.TyError.TheVariants as error
use Rattle.typer.specs.Answers.{Answers, fault_at, tree_answer}
use Rattle.typer.specs.RankRules.{judge_rank}

module _ (rank : Sort → Type 0) (ambiguous : Bool) (at : ℕ) where
  pub no_rank : (asked : Option Sort) → ((s : Sort) → rank s → ⊥) → Answers {A = Sort} (Err (fault_at NoRank at)) (judge_rank rank ambiguous at asked)
  no_rank None none before = inl (λ h. none h.0 h.1, refl)
  no_rank (Some asked) none before = inl (λ h. none h.0 h.1, refl)

  pub not_given : (s : Sort) → rank s → ambiguous ≡ true → Answers {A = Sort} (Err (fault_at AmbiguousConstructor at)) (judge_rank rank ambiguous at None)
  not_given s r t before = inr (tt, before, ((s, r), refl), inl (λ e. cc, refl))

  pub too_large : (s : Sort) → rank s → ambiguous ≡ false → 1000 < node_count s → Answers {A = Sort} (Err (fault_at SortTooLarge at)) (judge_rank rank ambiguous at None)
  too_large s r e l before = inr (tt, before, ((s, r), refl), inr (tt, before, (e, refl), inr (s, before, (r, refl), inl (λ m. omega (arith, l, m), refl))))

  pub has_rank : (s : Sort) → rank s → ambiguous ≡ false → node_count s ≤ 1000 → Answers (Ok s) (judge_rank rank ambiguous at None)
  has_rank s r e l before = (tt, before, ((s, r), refl), (tt, before, (e, refl), (s, before, (r, refl), (tt, before, (l, refl), (refl, refl)))))

  pub other_rank : (s asked : Sort) → rank s → (rank asked → ⊥) → Answers {A = Sort} (Err (fault_at WrongQualifiedSort at)) (judge_rank rank ambiguous at (Some asked))
  other_rank s asked r n before = inr (tt, before, ((s, r), refl), inl (n, refl))

  pub has_asked_rank : (asked : Sort) → rank asked → Answers (Ok asked) (judge_rank rank ambiguous at (Some asked))
  has_asked_rank asked r before = (tt, before, ((asked, r), refl), (tt, before, (r, refl), (refl, refl)))

-- the answer is a result sort, or another one is asked for
pub asked_result : (rank : Sort → Type 0) (at : ℕ) (s : NumberedSort) (asked : Option NumberedSort) (r : Result NumberedSort TyError) → rank (tree s) → ((t : Sort) → rank t → tree s ≡ t) → node_count (tree s) ≤ 1000
    → IfOk r (λ t. (t ≡ s) × IfSome asked (λ a. tree s ≡ tree a)) → IfErr r (λ e. (e ≡ fault_at WrongQualifiedSort at) × IsSomeAnd asked (λ a. tree s ≡ tree a → ⊥))
    → Answers (tree_answer r) (judge_rank rank false at (option_map tree asked))
asked_result rank at s None (Ok t) has once small ok err = subst (λ (z : NumberedSort). Answers (Ok (tree z)) (judge_rank rank false at None)) (sym ok.0) (has_rank rank false at (tree s) has refl small)
asked_result rank at s (Some a) (Ok t) has once small ok err =
    subst (λ (z : Sort). Answers (Ok z) (judge_rank rank false at (Some (tree a)))) (sym (ap tree ok.0 ∙ ok.1)) (has_asked_rank rank false at (tree a) (subst rank ok.1 has))
asked_result rank at s None (Err e) has once small ok err = absurd err.1
asked_result rank at s (Some a) (Err e) has once small ok err =
    subst (λ z. Answers {A = Sort} (Err z) (judge_rank rank false at (Some (tree a)))) (sym err.0) (other_rank rank false at (tree s) (tree a) has (λ h. err.1 (once (tree a) h)))

-- the answer is a copy of a sort, or memory ran out
pub of_copy : (r : Result NumberedSort TyError) (s : NumberedSort) (J : Judging Sort) → IfOk r (λ t. t ≡ s) → IfErr r (λ e. e ≡ error.NoMemory) → Answers (Ok (tree s)) J → Answers (tree_answer r) J
of_copy (Ok t) s J e f h = subst (λ z. Answers (Ok z) J) (sym (ap tree e)) h
of_copy (Err e) s J f same h = subst (λ z. Answers {A = Sort} (Err z) J) (sym same) tt
