-- From the first rule of a fragment that is broken to the judgement of the fragment.
use Rattle.std.proofs.Common.{◌≡◌, ℕ, List, [], ◌∷◌, Option, Some, None, Result, Ok, Err, refl, ap, sym, subst, inl, inr}
use Rattle.std.specs.Option.{option_map}
use Rattle.sig_table.specs.declared.code.Code.{Code}
use Rattle.judgement.specs.Judging.{ill_sorted, well_sorted}
use Rattle.term_store.specs.Command.{PlainCommand, PlainDef}
use Rattle.logic_frag.specs.declared.logic.Logic.{Logic}
use Rattle.logic_frag.specs.FragmentRules.{BreaksRule, IsFirstBroken, context_of, fragment_codes}
use Rattle.logic_frag.specs.Logics.{described}
use Rattle.script_core.specs.declared.scope.StepError.{StepError}
use Rattle.script_core.specs.declared.scope.StepError.TheVariants as error
use Rattle.script_core.specs.Effects.{Answers}
use Rattle.script_core.specs.Rules.{judge_codes, judge_fragment}

codes_met : (Broken : Code → Type 0) (at : ℕ) (cs : List Code) → IsFirstBroken Broken cs None → judge_codes Broken at cs [] (well_sorted tt [])
codes_met Broken at [] h = (refl, refl)
codes_met Broken at (c ∷ cs) (inl (b, e)) = cc
codes_met Broken at (c ∷ cs) (inr (f, h)) = (tt, [], (f, refl), codes_met Broken at cs h)

code_broken : (Broken : Code → Type 0) (at : ℕ) (cs : List Code) (code : Code) → IsFirstBroken Broken cs (Some code) → judge_codes Broken at cs [] (ill_sorted (record { code = code; at = at }))
code_broken Broken at [] code h = cc
code_broken Broken at (c ∷ cs) code (inl (b, e)) = let same : code ≡ c = cc in inl ((λ f. f b), ap (λ (x : Code). record { code = x; at = at }) same)
code_broken Broken at (c ∷ cs) code (inr (f, h)) = inr (tt, [], (f, refl), code_broken Broken at cs code h)

abbrev MeetsFragment : Option Logic → List (List ℕ) → List PlainDef → ℕ → PlainCommand → Result (Unit {0}) StepError → Type 0
MeetsFragment logic texts kept at c result = Answers (judge_fragment (option_map described logic) texts kept at c) (λ u. u) result

-- A logic that is set.
module _ (logic : Option Logic) (l : Logic) (texts : List (List ℕ)) (kept : List PlainDef) (at : ℕ) (c : PlainCommand) (set : logic ≡ Some l) (first : Option Code)
    (breaks : IsFirstBroken (BreaksRule (described l) (context_of texts kept c) c) fragment_codes first) where
  abbrev Broken : Code → Type 0
  Broken = BreaksRule (described l) (context_of texts kept c) c

  pub fragment_met : first ≡ None → MeetsFragment logic texts kept at c (Ok tt)
  fragment_met none =
      subst (λ (o : Option Logic). MeetsFragment o texts kept at c (Ok tt)) (sym set) (codes_met Broken at fragment_codes (subst (IsFirstBroken Broken fragment_codes) none breaks))

  pub fragment_broken : (code : Code) (e : StepError) → first ≡ Some code → e ≡ error.Broken (record { code = code; at = at }) → MeetsFragment logic texts kept at c (Err e)
  fragment_broken code e some is =
      subst (λ (o : Option Logic). MeetsFragment o texts kept at c (Err e)) (sym set) (subst (λ (x : StepError). MeetsFragment (Some l) texts kept at c (Err x)) (sym is)
      (code_broken Broken at fragment_codes code (subst (IsFirstBroken Broken fragment_codes) some breaks)))
