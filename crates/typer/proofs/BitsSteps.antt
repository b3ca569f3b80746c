-- What the answers for a symbol on bit vectors say of the rule on its rank.
use Rattle.std.proofs.Common.{◌≡◌, ℕ, ◌≤◌, ◌==◌, Bool, true, false, if◌then◌else◌, List, [], map, Option, Some, None, Result, Ok, Err, refl, ap, sym, ◌∙◌, inl, inr, subst}
use Rattle.std.specs.Option.{IfSome, IsSomeAnd, option_map}
use Rattle.std.specs.Result.{IfErr, IfOk}
use Rattle.sig_table.specs.declared.theories.Theories.{Theories}
use Rattle.sig_table.specs.declared.theories.NameForm.{NameForm}
use Rattle.sig_table.specs.declared.theories.NameForm.TheVariants as written_form
use Rattle.sig_table.specs.declared.code.Code.TheVariants.{NoRank, NumberTooLarge, WrongIndex, WrongQualifiedSort}
use Rattle.sort_store.specs.Tree.{Sort, NumberedSort, node_count, tree}
use Rattle.theory_bv.specs.declared.index.Index.{Index}
use Rattle.theory_bv.specs.declared.rank.BvResult.{BvResult}
use Rattle.theory_bv.specs.declared.rank.BvFault.TheVariants.{BadIndex, TooWide}
use Rattle.theory_bv.specs.Answers.{Answer, bv_answer}
use Rattle.theory_bv.specs.Declarations.{Declaration}
use Rattle.theory_bv.specs.Ranks.{HasBadIndex, HasBvBadIndex, IsBvTooWide, wrong_count}
use Rattle.theory_bv.specs.Symbols.{IsWrittenWith, declaration_of, form, form_of}
use Rattle.dt_rules.specs.declared.error.TyError.{TyError}
use Rattle.dt_rules.specs.declared.error.TyError.TheVariants as error
use Rattle.typer.specs.Answers.{Answers, fault_at, tree_answer}
use Rattle.typer.specs.BitVectors.{HasBitsRank, bits_form, judge_bits, sort_of, width_of}
use Rattle.typer.specs.FunctionSymbols.{Function, if_indexed, if_plain}
use Rattle.typer.specs.RankRules.{judge_rank}
use Rattle.typer.proofs.BitsRanks.{rank_answered, bad_index_answered, too_wide_answered, bits_result_once}
use Rattle.typer.proofs.RankAnswers.{asked_result, no_rank}

module _ (text : List ℕ) (is : List Index) (at : ℕ) (args : List Sort) (asked : Option Sort) (x : Answer) (told : bv_answer text is (map width_of args) ≡ x) where
  abbrev ws : List (Option ℕ)
  ws = map width_of args

  abbrev Fails : TyError → Type 0
  Fails e = Answers {A = Sort} (Err e) (judge_bits text is at args asked)

  no_bad_index : (x ≡ Err BadIndex → ⊥) → HasBvBadIndex text is ws → ⊥
  no_bad_index other h = other (sym told ∙ (bad_index_answered text is ws).1 h)

  no_number_too_large : (x ≡ Err TooWide → ⊥) → IsBvTooWide text is ws → ⊥
  no_number_too_large other h = other (sym told ∙ (too_wide_answered text is ws).1 h)

  -- past the rules on indices and widths
  past : (r : Result Sort TyError) → (x ≡ Err BadIndex → ⊥) → (x ≡ Err TooWide → ⊥) → Answers r (judge_rank (HasBitsRank text is args) false at asked) → Answers r (judge_bits text is at args asked)
  past (Ok t) good narrow h = λ before. (tt, before, (no_bad_index good, refl), (tt, before, (no_number_too_large narrow, refl), h before))
  past (Err (error.Fault place)) good narrow h = λ before. inr (tt, before, (no_bad_index good, refl), inr (tt, before, (no_number_too_large narrow, refl), h before))
  past (Err error.NoMemory) good narrow h = tt

  pub too_wide : (e : TyError) → x ≡ Err TooWide → e ≡ fault_at NumberTooLarge at → Fails e
  too_wide e wide same =
      subst Fails (sym same) (λ before. inr (tt, before, (no_bad_index (λ bad. cc), refl), inl ((λ narrow. narrow ((too_wide_answered text is ws).0 (told ∙ wide))), refl)))

  pub no_bits_rank : (e : TyError) → x ≡ Ok None → e ≡ fault_at NoRank at → Fails e
  no_bits_rank e none same = subst Fails (sym same) (past (Err (fault_at NoRank at)) (λ bad. cc) (λ wide. cc) (no_rank (HasBitsRank text is args) false at asked never))
    where
      never : (s : Sort) → HasBitsRank text is args s → ⊥
      never s h = let found : x ≡ Ok (Some h.found) = sym told ∙ (rank_answered text is ws h.found).1 h.rank in cc

pub bits_rank : (text : List ℕ) (is : List Index) (at : ℕ) (args : List Sort) (asked : Option NumberedSort) (found : BvResult) → bv_answer text is (map width_of args) ≡ Ok (Some found)
    → (s : NumberedSort) → tree s ≡ sort_of found → node_count (tree s) ≤ 1000 → (r : Result NumberedSort TyError) → IfOk r (λ t. (t ≡ s) × IfSome asked (λ a. tree s ≡ tree a))
    → IfErr r (λ e. (e ≡ fault_at WrongQualifiedSort at) × IsSomeAnd asked (λ a. tree s ≡ tree a → ⊥)) → Answers (tree_answer r) (judge_bits text is at args (option_map tree asked))
bits_rank text is at args asked found told s e small r ok err =
    past text is at args (option_map tree asked) (Ok (Some found)) told (tree_answer r) (λ bad. cc) (λ wide. cc) (asked_result (HasBitsRank text is args) at s asked r has (λ t. bits_result_once text is args (tree s) t has) small ok err)
  where
    has : HasBitsRank text is args (tree s)
    has = record { found = found; rank = (rank_answered text is (map width_of args) found).0 told; sort_is = e }

-- how the symbol is written
indexed_bad : (o : Option Declaration) (ws : List (Option ℕ)) → option_map form o ≡ Some written_form.Indexed → IsSomeAnd o (λ d. HasBadIndex d [] ws)
indexed_bad None ws e = cc
indexed_bad (Some d) ws e = wrong_count some
  where
    some : 0 ≡ d.indices → ⊥
    some z = let plain : form d ≡ written_form.Plain = ap (λ n. if n == 0 then written_form.Plain else written_form.Indexed) (sym z) in cc

indexed_written : (b : Bool) (o : Option NameForm) → (if b then o else None) ≡ Some written_form.Indexed → o ≡ Some written_form.Indexed
indexed_written true o e = e
indexed_written false o e = cc

pub no_indices : (theories : Theories) (text : List ℕ) (at : ℕ) (args : List Sort) (asked : Option Sort) (e : TyError) → bits_form theories text ≡ Some written_form.Indexed → e ≡ fault_at WrongIndex at
    → Answers {A = Sort} (Err e) (judge_bits text [] at args asked)
no_indices theories text at args asked e written same =
    subst (λ z. Answers {A = Sort} (Err z) (judge_bits text [] at args asked)) (sym same)
    (λ before. inl ((λ good. good (indexed_bad (declaration_of text) (map width_of args) (indexed_written theories.bits (form_of text) written))), refl))

pub plain_written : (theories : Theories) (text : List ℕ) (f : Function) → if_plain (bits_form theories text) f ≡ Some f → IsWrittenWith (form_of text) []
plain_written theories text f = by theories.bits (form_of text)
  where
    by : (b : Bool) (o : Option NameForm) → if_plain (if b then o else None) f ≡ Some f → IsWrittenWith o []
    by true (Some written_form.Plain) e = refl
    by true (Some written_form.Indexed) e = cc
    by true None e = cc
    by false o e = cc

pub indexed_form : (o : Option NameForm) (f : Function) → if_indexed o f ≡ Some f → o ≡ Some written_form.Indexed
indexed_form (Some written_form.Plain) f e = cc
indexed_form (Some written_form.Indexed) f e = refl
indexed_form None f e = cc

-- the rule is one on the text and the indices
pub bits_moved : (r : Result Sort TyError) (at : ℕ) (args : List Sort) (asked : Option Sort) (text its : List ℕ) (is these : List Index) → text ≡ its → is ≡ these → Answers r (judge_bits text is at args asked)
    → Answers r (judge_bits its these at args asked)
bits_moved r at args asked text its is these e f h = subst (λ z. Answers r (judge_bits its z at args asked)) f (subst (λ z. Answers r (judge_bits z is at args asked)) e h)
