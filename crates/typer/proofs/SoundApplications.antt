-- An application that the rules give is sound, of a function symbol of a sound signature to sound terms.
use Rattle.std.proofs.Common.{◌≡◌, ℕ, Bool, true, false, List, [], ◌∷◌, map, Option, Some, None, ◌⊎◌, inl, inr, refl, ap, sym, subst}
use Rattle.std.specs.Option.{IfSome, option_map}
use Rattle.sig_table.specs.declared.theories.NameForm.{NameForm}
use Rattle.sig_table.specs.declared.theories.NameForm.TheVariants as form
use Rattle.lex_core.specs.declared.token.Tok.{Tok}
use Rattle.judgement.specs.Judging.{well_sorted}
use Rattle.sort_store.specs.Tree.{Sort}
use Rattle.scope_stack.specs.Levels.{found, live}
use Rattle.term_store.specs.declared.parts.Applied.{Applied}
use Rattle.term_store.specs.Term.{PlainTerm, term, plain_sort, plain_terms}
use Rattle.term_store.specs.Declarations.{Declaration}
use Rattle.term_store.specs.SoundTerms.{Bound, IsSoundSort, IsSoundTerm, AreSoundTerms, IsSoundApplication, plain_sorts}
use Rattle.theory_core.specs.TheorySymbols.{form_of}
use Rattle.typer.specs.BitVectors.{bits_form, index_of}
use Rattle.typer.specs.Declarations.{FunDeclaration}
use Rattle.typer.specs.FunctionSymbols.{Signature, Function, theory, bits, declared, function_of, indexed_function, if_plain, if_indexed, tester_of, text_of, HasRank, is_ambiguous}
use Rattle.typer.specs.LiveRanks.{HasInstance}
use Rattle.typer.specs.SortSymbols.{or_else}
use Rattle.term_store.specs.declared.parts.Fun.TheVariants as fun
use Rattle.typer.specs.TermRules.{fun_of, judge_function, judge_head, judge_indexed_by, apply_head}
use Rattle.typer.proofs.Instances.{tested_live}
use Rattle.typer.specs.Soundness.{IsSoundFunction, IsSoundSignature}
use Rattle.typer.proofs.NameSteps.{lookup_all}
use Rattle.typer.proofs.SoundBits.{bits_applies, bits_result_sound}
use Rattle.typer.proofs.SoundInstances.{AreSound}
use Rattle.typer.proofs.SoundRanks.{ranked, result_ranked, live_result_sound, live_applies, tester_applies}
use Rattle.typer.proofs.SoundTheories.{theory_result_sound, theory_applies}

sorts_of : (us : List PlainTerm) → plain_sorts (plain_terms us) ≡ map plain_sort us
sorts_of [] = refl
sorts_of (u ∷ us) = ap (λ ss. plain_sort u ∷ ss) (sorts_of us)

-- a sound term has a sound sort
pub sort_sound : (script : List Declaration) (outer : Bound) (u : PlainTerm) → IsSoundTerm script outer u → IsSoundSort script 0 (plain_sort u)
sort_sound script outer (term n s x) h = h.0

sorts_sound : (script : List Declaration) (outer : Bound) (us : List PlainTerm) → AreSoundTerms script outer (plain_terms us) → AreSound script 0 (map plain_sort us)
sorts_sound script outer [] h = tt
sorts_sound script outer (u ∷ us) h = (sort_sound script outer u h.0, sorts_sound script outer us h.1)

module _ (script : List Declaration) (signature : Signature) (sound : IsSoundSignature script signature) where
  -- the name is that of the function symbol, which is sound
  abbrev Names : ℕ → Function → Type 0
  Names name (theory text) = text ≡ text_of signature name
  Names name (bits text is) = text ≡ text_of signature name
  Names name (declared f) = IsSoundFunction script f

  abbrev NamesOption : ℕ → Option Function → Type 0
  NamesOption name None = Unit {0}
  NamesOption name (Some f) = Names name f

  plain_named : (o : Option NameForm) (name : ℕ) (f : Function) → Names name f → NamesOption name (if_plain o f)
  plain_named (Some form.Plain) name f h = h
  plain_named (Some form.Indexed) name f h = tt
  plain_named None name f h = tt

  indexed_named : (o : Option NameForm) (name : ℕ) (f : Function) → Names name f → NamesOption name (if_indexed o f)
  indexed_named (Some form.Plain) name f h = tt
  indexed_named (Some form.Indexed) name f h = h
  indexed_named None name f h = tt

  live_named : (o : Option FunDeclaration) (name : ℕ) → found name signature.declarations.funs ≡ o → NamesOption name (option_map declared o)
  live_named None name e = tt
  live_named (Some f) name e = lookup_all (λ (d : ℕ × FunDeclaration). IsSoundFunction script d.1) name (live signature.declarations.funs) f sound.funs e

  named_or_else : (name : ℕ) (a b : Option Function) → NamesOption name a → NamesOption name b → NamesOption name (or_else a b)
  named_or_else name (Some f) b h k = h
  named_or_else name None b h k = k

  function_named : (name : ℕ) → NamesOption name (function_of signature name)
  function_named name =
      named_or_else name _ _ (named_or_else name _ _ (plain_named (form_of signature.theories (text_of signature name)) name (theory (text_of signature name)) refl)
      (plain_named (bits_form signature.theories (text_of signature name)) name (bits (text_of signature name) []) refl)) (live_named (found name signature.declarations.funs) name refl)

  indexed_function_named : (name : ℕ) (is : List Tok) → NamesOption name (indexed_function signature name is)
  indexed_function_named name is =
      named_or_else name _ _ (indexed_named (form_of signature.theories (text_of signature name)) name (theory (text_of signature name)) refl)
      (indexed_named (bits_form signature.theories (text_of signature name)) name (bits (text_of signature name) (map (index_of signature.texts) is)) refl)

  -- the result sort and the application, by the rank
  ranked_sound : (f : Function) (name : ℕ) (args : List Sort) (t : Sort) (asked : Option Sort) → Names name f → AreSound script 0 args → IfSome asked (IsSoundSort script 0)
      → HasRank signature.theories f args t → (asked ≡ Some t) ⊎ (is_ambiguous f ≡ false) → IsSoundSort script 0 t × IsSoundApplication script (fun_of f) name args t
  ranked_sound (theory text) name args t asked named a s rank told =
      (theory_result_sound script 0 signature.theories text args t a rank, theory_applies signature.texts sound.table name args t text named signature.theories rank)
  ranked_sound (bits text is) name args t asked named a s rank told = (bits_result_sound text is args t script 0 rank, bits_applies text is args t signature.texts sound.table name named rank)
  ranked_sound (declared f) name args t asked named a s rank told = (by told, live_applies script f args t named rank)
    where
      by : (asked ≡ Some t) ⊎ (is_ambiguous (declared f) ≡ false) → IsSoundSort script 0 t
      by (inl e) = subst (λ o. IfSome o (IsSoundSort script 0)) e s
      by (inr clear) = live_result_sound script 0 f args t rank a named clear

  module _ (outer : Bound) (at : ℕ) (args : List PlainTerm) (asked : Option Sort) (a : AreSoundTerms script outer (plain_terms args)) (s : IfSome asked (IsSoundSort script 0)) (name : ℕ) where
    function_sound : (f : Function) (indices : List ℕ) (head : Applied × Sort) (before after : List ℕ) → Names name f
        → judge_function signature f at (map plain_sort args) asked name indices before (well_sorted head after) → IsSoundTerm script outer (apply_head head args)
    function_sound f indices head before after named (t, between, rank, (made, same)) =
        let k = result_ranked signature.theories f at (map plain_sort args) asked t before between rank in
        let h = ranked_sound f name (map plain_sort args) t asked named (sorts_sound script outer args a) s k.0 k.1 in
        subst (λ (z : Applied × Sort). IsSoundTerm script outer (apply_head z args)) (sym made) (h.0, (a, subst (λ ss. IsSoundApplication script (fun_of f) name ss t) (sym (sorts_of args)) h.1))

    pub head_sound : (head : Applied × Sort) (before after : List ℕ) → judge_head signature at (map plain_sort args) asked name before (well_sorted head after) → IsSoundTerm script outer (apply_head head args)
    head_sound head before after (f, between, (e, same), h) = function_sound f [] head between after (subst (NamesOption name) e (function_named name)) h

    pub indexed_head_sound : (b : Bool) (is : List Tok) (head : Applied × Sort) (before after : List ℕ) → judge_indexed_by b signature at (map plain_sort args) asked name is before (well_sorted head after)
        → IsSoundTerm script outer (apply_head head args)
    indexed_head_sound true is head before after (c, between, (e, same), (t, later, rank, (made, g))) =
        let l = tested_live signature is c e in
        let f = lookup_all (λ (d : ℕ × FunDeclaration). IsSoundFunction script d.1) c.0 (live signature.declarations.funs) c.1 sound.funs l.0 in
        let h = (ranked (HasInstance (tester_of c.1) (map plain_sort args)) (is_ambiguous (declared (tester_of c.1))) at asked t between later rank).0 in
        subst (λ (z : Applied × Sort). IsSoundTerm script outer (apply_head z args)) (sym made)
        (subst (IsSoundSort script 0) h.gives (tt, tt), (a, subst (λ ss. IsSoundApplication script (fun.Tester c.1.number) c.0 ss t) (sym (sorts_of args)) (tester_applies script c.1 (map plain_sort args) t f l.1 h)))
    indexed_head_sound false is head before after (f, between, (e, same), (x, later, takes, h)) = function_sound f (map (λ i. i.name) is) head later after (subst (NamesOption name) e (indexed_function_named name is)) h
