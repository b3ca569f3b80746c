-- What the rule on ranks tells of a result sort, and the soundness of the result sort of a live function symbol.
use Rattle.std.proofs.Common.{◌≡◌, ℕ, ◌<◌, Bool, false, List, length, get_or, Option, Some, None, ◌⊎◌, inl, inr, ap, sym, ◌∙◌, arith, subst}
use Rattle.std.proofs.lemmas.List.{get_or_default}
use Rattle.sig_table.specs.declared.theories.Theories.{Theories}
use Rattle.judgement.specs.Judging.{well_sorted}
use Rattle.sort_store.specs.declared.head.Head.{Head}
use Rattle.sort_store.specs.Tree.{Sort, sort, SortList, no_sorts, more_sorts, sorts}
use Rattle.sort_store.specs.CoreRanks.{bool}
use Rattle.scope_stack.specs.declared.entry.FunKind.TheVariants as kind
use Rattle.sort_store.specs.Instance.{param_of, value_or, inst, insts}
use Rattle.sort_store.specs.Binding.{ParamAt, ParamIn, ParamInEach}
use Rattle.term_store.specs.Declarations.{Declaration}
use Rattle.term_store.specs.SoundTerms.{IsSoundSort, AreSoundSorts, AppliesDeclared, AppliesTester, HasRankAt, HasTesterRankAt}
use Rattle.typer.specs.Declarations.{FunDeclaration}
use Rattle.typer.specs.BitVectors.{HasBitsRank}
use Rattle.typer.specs.FunctionSymbols.{Function, theory, bits, declared, HasRank, is_ambiguous as is_ambiguous_function, judge_result, tester_of}
use Rattle.typer.specs.LiveRanks.{HasInstance, is_ambiguous}
use Rattle.typer.specs.RankRules.{judge_rank}
use Rattle.typer.specs.Soundness.{IsSoundFunction}
use Rattle.typer.proofs.Occurrences.{given}
use Rattle.typer.proofs.RankDecisions.{made_takes}
use Rattle.typer.proofs.SoundInstances.{AreSound, are_sound, instance_sound}

-- a rank has the result sort, which `as` names where the arguments don't give it
pub ranked : (rank : Sort → Type 0) (ambiguous : Bool) (at : ℕ) (asked : Option Sort) (t : Sort) (before after : List ℕ) → judge_rank rank ambiguous at asked before (well_sorted t after)
    → rank t × ((asked ≡ Some t) ⊎ (ambiguous ≡ false))
ranked rank ambiguous at None t before after (x, b, some, (y, c, clear, (result, d, found, (z, e, small, (made, same))))) = (subst rank (sym made) found.0, inr clear.0)
ranked rank ambiguous at (Some s) t before after (x, b, some, (y, c, has, (made, same))) = (subst rank (sym made) has.0, inl (ap Some (sym made)))

-- .. of each kind of function symbol
pub result_ranked : (theories : Theories) (f : Function) (at : ℕ) (args : List Sort) (asked : Option Sort) (t : Sort) (before after : List ℕ) → judge_result theories f at args asked before (well_sorted t after)
    → HasRank theories f args t × ((asked ≡ Some t) ⊎ (is_ambiguous_function f ≡ false))
result_ranked theories (theory text) at args asked t before after h = ranked (HasRank theories (theory text) args) false at asked t before after h
result_ranked theories (bits text is) at args asked t before after (x, between, good, (y, later, narrow, h)) = ranked (HasBitsRank text is args) false at asked t later after h
result_ranked theories (declared f) at args asked t before after h = ranked (HasInstance f args) (is_ambiguous f) at asked t before after h

module _ (script : List Declaration) (params : ℕ) where
  -- where a parameter stands in a schema with a sound instance its value is sound
  module _ (values : List Sort) (i : ℕ) (within : i < length values) where
    abbrev HasSoundValue : Type 0
    HasSoundValue = (other : Sort) → IsSoundSort script params (get_or values i other)

    value_at : (o : Option ℕ) (h : Head) (ts : SortList) (In : Type 0) → ParamAt o i In → IsSoundSort script params (value_or o values (sort h ts)) → (In → AreSoundSorts script params ts → HasSoundValue) → HasSoundValue
    value_at None h ts In p s inside other = inside p s.1 other
    value_at (Some j) h ts In p s inside other =
        subst (IsSoundSort script params) (ap (λ k. get_or values k (sort h ts)) (sym p) ∙ get_or_default values i (sort h ts) other within) s

    mutual
      value_sound : (t : Sort) → ParamIn i t → IsSoundSort script params (inst values t) → HasSoundValue
      value_sound (sort h ts) p s = value_at (param_of h) h (insts values ts) (ParamInEach i ts) p s (λ q r. value_sound_in ts q r)

      pub value_sound_in : (ts : SortList) → ParamInEach i ts → AreSoundSorts script params (insts values ts) → HasSoundValue
      value_sound_in no_sorts p s = absurd p
      value_sound_in (more_sorts t ts) (inl p) s = value_sound t p s.0
      value_sound_in (more_sorts t ts) (inr p) s = value_sound_in ts p s.1

  module _ (f : FunDeclaration) (args : List Sort) (t : Sort) (h : HasInstance f args t) (a : AreSound script params args) where
    values_sound : is_ambiguous f ≡ false → AreSound script params h.values
    values_sound clear =
        are_sound script params h.values (
        λ i other l. value_sound_in h.values i l (sorts f.args) (given f.params i f.args clear (omega (arith, l, h.count))) (subst (AreSoundSorts script params) (sym (made_takes h.values f.args args h.takes)) a) other
        )

    pub live_result_sound : IsSoundFunction script f → is_ambiguous f ≡ false → IsSoundSort script params t
    live_result_sound sound clear =
        subst (IsSoundSort script params) h.gives (instance_sound script params h.values f.result (values_sound clear) (subst (λ n. IsSoundSort script n f.result) (sym h.count) sound.result))

pub live_applies : (script : List Declaration) (f : FunDeclaration) (args : List Sort) (t : Sort) → IsSoundFunction script f → HasInstance f args t → AppliesDeclared script f.number args t
live_applies script f args t sound h = record {
  its = sound.its;
  is_declared = sound.is_declared;
  number_is = sound.number_is;
  values = h.values;
  rank = subst (λ s. HasRankAt sound.its h.values args s) h.gives (subst (λ ss. HasRankAt sound.its h.values ss (inst h.values f.result)) h.takes (sound.ranks h.values h.count));
}

pub tester_applies : (script : List Declaration) (f : FunDeclaration) (args : List Sort) (t : Sort) → IsSoundFunction script f → f.kind ≡ kind.Constructor → HasInstance (tester_of f) args t → AppliesTester script f.number args t
tester_applies script f args t sound constructs h = record {
  its = sound.its;
  is_declared = sound.is_declared;
  number_is = sound.number_is;
  values = h.values;
  rank = subst (λ s. HasTesterRankAt sound.its h.values args s) h.gives (subst (λ ss. HasTesterRankAt sound.its h.values ss bool) h.takes (sound.tester constructs h.values h.count));
}
