-- Applications of theory symbols are sound, and so are their result sorts.
use Rattle.std.proofs.Common.{◌≡◌, ℕ, List, [], ◌∷◌, map, get_or, inl, inr, ap, sym, ◌∙◌, subst}
use Rattle.sig_table.specs.declared.theories.Theories.{Theories}
use Rattle.lex_core.specs.NameTable.{IsNameTable}
use Rattle.sort_store.specs.Tree.{Sort}
use Rattle.sort_store.specs.Instance.{inst}
use Rattle.sort_store.specs.Ranks.{Arguments, each, many, Rank, RankedSymbol, AreArguments, is_symbol, ranks_of, HasRank}
use Rattle.sort_store.specs.CoreRanks.{core_symbols}
use Rattle.term_store.specs.Declarations.{Declaration}
use Rattle.term_store.specs.SoundTerms.{IsSoundSort, IsCoreName, HasCoreRank, HasTheorySort}
use Rattle.theory_core.specs.IntsRanks.{ints_symbols}
use Rattle.theory_core.specs.ArraysRanks.{arrays_symbols}
use Rattle.theory_core.specs.TheorySymbols.{theory_symbols}
use Rattle.theory_core.specs.Laws.{AreApart}
use Rattle.theory_core.proofs.RankLaws.{core_ints, core_arrays}
use Rattle.theory_core.proofs.TheoryRanks.{HasTheoryRank, theory_rank, ranked_symbol}
use Rattle.typer.proofs.CoreNames.{core_symbol, core_text, core_name}
use Rattle.typer.proofs.RankTables.{EachRank, rank_with}
use Rattle.typer.proofs.SoundInstances.{AreSound}
use Rattle.typer.proofs.TheorySorts.{HasTheorySchema, ints_schemas, arrays_schemas, theory_sort}

module _ (script : List Declaration) (params : ℕ) where
  abbrev GivesSoundOf : Arguments → Sort → Type 0
  GivesSoundOf (each ss) result = (values : List Sort) → AreSound script params (map (inst values) ss) → IsSoundSort script params (inst values result)
  GivesSoundOf (many attribute s) result = (values : List Sort) → IsSoundSort script params (inst values result)

  -- sound argument sorts give a sound result sort
  abbrev GivesSound : Rank → Type 0
  GivesSound rank = GivesSoundOf rank.arguments rank.result

  core_results : EachRank GivesSound core_symbols
  unfolding core_symbols
  core_results = (
    λ v a. (tt, tt),
    (λ v a. (tt, tt), (λ v a. (tt, tt), (λ v. (tt, tt), (λ v. (tt, tt), (λ v. (tt, tt), (λ v. (tt, tt), (λ v. (tt, tt), (λ v. (tt, tt), (λ v a. a.1.0, tt))))))))),
  )

  ints_results : EachRank GivesSound ints_symbols
  unfolding ints_symbols
  ints_results = (
    λ v a. (tt, tt),
    (λ v. (tt, tt), (λ v. (tt, tt), (λ v. (tt, tt), (λ v. (tt, tt), (λ v a. (tt, tt), (λ v a. (tt, tt), (λ v. (tt, tt), (λ v. (tt, tt), (λ v. (tt, tt), (λ v. (tt, tt), (λ v a. (tt, tt), tt))))))))))),
  )

  arrays_results : EachRank GivesSound arrays_symbols
  unfolding arrays_symbols
  arrays_results = (λ v a. a.0.1.1.0, (λ v a. a.0, tt))

  gives_sound : (a : Arguments) (result : Sort) (args values : List Sort) → GivesSoundOf a result → AreArguments a values args → AreSound script params args → IsSoundSort script params (inst values result)
  gives_sound (each ss) result args values g e s = g values (subst (AreSound script params) e s)
  gives_sound (many attribute schema) result args values g e s = g values

  result_sound : (symbols : List RankedSymbol) (name : List ℕ) (args : List Sort) (t : Sort) → EachRank GivesSound symbols → AreSound script params args → HasRank (ranks_of name symbols) args t → IsSoundSort script params t
  result_sound symbols name args t results a h =
      let r = rank_with GivesSound name symbols args t results h in
      subst (IsSoundSort script params) (sym r.2.gives) (gives_sound r.0.arguments r.0.result args r.2.values r.1 r.2.takes a)

  pub theory_result_sound : (theories : Theories) (name : List ℕ) (args : List Sort) (t : Sort) → AreSound script params args → HasRank (ranks_of name (theory_symbols theories)) args t → IsSoundSort script params t
  theory_result_sound theories name args t a h = by ((theory_rank theories name args t).0 h)
    where
      by : HasTheoryRank theories name args t → IsSoundSort script params t
      by (inl (inl r)) = result_sound core_symbols name args t core_results a r
      by (inl (inr r)) = result_sound ints_symbols name args t ints_results a r.1
      by (inr r) = result_sound arrays_symbols name args t arrays_results a r.1

module _ (texts : List (List ℕ)) (table : IsNameTable texts) (name : ℕ) (args : List Sort) (t : Sort) where
  -- the name is that of a function of Core, which has such a rank, or else a sort is one of a theory
  abbrev pub AppliesTheory : Type 0
  AppliesTheory = (IsCoreName name → HasCoreRank name args t) × ((IsCoreName name → ⊥) → HasTheorySort (t ∷ args))

  module _ (text : List ℕ) (named : text ≡ get_or texts name []) where
    core_applies : HasRank (ranks_of text core_symbols) args t → AppliesTheory
    core_applies r = (
      λ c. subst (λ z. HasRank (ranks_of z core_symbols) args t) (named ∙ core_text texts table name c) r,
      λ other. absurd (other (core_name texts table name (ap (λ z. is_symbol z core_symbols) (sym named) ∙ ranked_symbol text core_symbols args t r))),
    )

    other_applies : (symbols : List RankedSymbol) → AreApart core_symbols symbols → EachRank HasTheorySchema symbols → HasRank (ranks_of text symbols) args t → AppliesTheory
    other_applies symbols apart schemas r = (
      λ c. absurd (apart text (ap (λ z. is_symbol z core_symbols) (named ∙ core_text texts table name c) ∙ core_symbol name c) (ranked_symbol text symbols args t r)),
      λ other. (let k = rank_with HasTheorySchema text symbols args t schemas r in theory_sort k.0 args t k.1 k.2),
    )

    pub theory_applies : (theories : Theories) → HasRank (ranks_of text (theory_symbols theories)) args t → AppliesTheory
    theory_applies theories h = by ((theory_rank theories text args t).0 h)
      where
        by : HasTheoryRank theories text args t → AppliesTheory
        by (inl (inl r)) = core_applies r
        by (inl (inr r)) = other_applies ints_symbols core_ints ints_schemas r.1
        by (inr r) = other_applies arrays_symbols core_arrays arrays_schemas r.1
