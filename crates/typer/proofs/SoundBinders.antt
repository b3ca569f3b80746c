-- A let, a quantifier and an annotation that the rules give are sound, where their parts are.
use Rattle.std.proofs.Common.{◌≡◌, ℕ, suc, Bool, List, [], ◌∷◌, ◌++◌, length, map, refl, ap, sym, ◌∙◌, subst, append_assoc, append-nil}
use Rattle.judgement.specs.Judging.{Judging, well_sorted}
use Rattle.term_grammar.specs.Syntax.{SortedSymbol, Bindings, no_bindings, with_binding}
use Rattle.sort_store.specs.Tree.{Sort}
use Rattle.term_store.specs.Term.{PlainTerm, plain_terms}
use Rattle.term_store.specs.Declarations.{Declaration}
use Rattle.term_store.specs.SoundTerms.{AreDistinct, Bound, bound_also, bound_to, AreSoundVars, IsSoundSort, IsSoundTerm, AreSoundTerms, AreSoundNotes, plain_sorts}
use Rattle.typer.specs.FunctionSymbols.{Signature}
use Rattle.typer.specs.TermRules.{Binding, PlainNote, annotated_term, bound_sort, judge_bindings, judge_quantifier, judge_variables, let_term, plain_notes}
use Rattle.typer.specs.Soundness.{IsSoundSignature}
use Rattle.typer.proofs.DistinctNames.{distinct_push}
use Rattle.typer.proofs.SoundApplications.{sort_sound}
use Rattle.typer.proofs.SoundSorts.{sound_sort}

-- variables inside others
pub bound_append : (vars more : List (ℕ × Sort)) (outer : Bound) → bound_also (vars ++ more) outer ≡ bound_also more (bound_also vars outer)
bound_append [] more outer = refl
bound_append (v ∷ vars) more outer = bound_append vars more (v ∷ outer)

bound_to_sorts : (cs : List Binding) (outer : Bound) → bound_also (map bound_sort cs) outer ≡ bound_to (map (λ (b : Binding). b.0) cs) (plain_sorts (plain_terms (map (λ (b : Binding). b.1) cs))) outer
bound_to_sorts [] outer = refl
bound_to_sorts (c ∷ cs) outer = bound_to_sorts cs (bound_sort c ∷ outer)

as_many : (cs : List Binding) → length (map (λ (b : Binding). b.0) cs) ≡ length (plain_sorts (plain_terms (map (λ (b : Binding). b.1) cs)))
as_many [] = refl
as_many (c ∷ cs) = ap (λ (n : ℕ). suc n) (as_many cs)

module _ (script : List Declaration) where
  pub vars_append : (vars more : List (ℕ × Sort)) → AreSoundVars script vars → AreSoundVars script more → AreSoundVars script (vars ++ more)
  vars_append [] more h k = k
  vars_append (v ∷ vars) more h k = (h.0, vars_append vars more h.1 k)

  pub bindings_sound : (outer : Bound) (cs : List Binding) → AreSoundTerms script outer (plain_terms (map (λ (b : Binding). b.1) cs)) → AreSoundVars script (map bound_sort cs)
  bindings_sound outer [] h = tt
  bindings_sound outer (c ∷ cs) h = (sort_sound script outer c.1 h.0, bindings_sound outer cs h.1)

  -- the variables of a let are distinct
  module _ (signature : Signature) (vars : List (ℕ × Sort)) where
    bindings_distinct : (bs : Bindings) (others : List ℕ) (cs : List Binding) (before after : List ℕ) → AreDistinct others → judge_bindings signature vars others bs before (well_sorted cs after)
        → AreDistinct (others ++ map (λ (b : Binding). b.0) cs)
    bindings_distinct no_bindings others cs before after h (made, same) =
        subst AreDistinct (sym (ap (λ (z : List Binding). others ++ map (λ (b : Binding). b.0) z) made ∙ append-nil others)) h
    bindings_distinct (with_binding at x t bs) others cs before after h (c, between, (w, start, (apart, e), (v, next, k, (named, f))), (rest, later, l, (made, same))) =
        let more = bindings_distinct bs (others ++ x.name ∷ []) rest between later (distinct_push others x.name h apart) l in
        subst AreDistinct (append_assoc others (x.name ∷ []) (map (λ (b : Binding). b.0) rest) ∙ ap (λ (n : ℕ). others ++ n ∷ map (λ (b : Binding). b.0) rest) (sym (ap (λ (b : Binding). b.0) named))
        ∙ ap (λ (z : List Binding). others ++ map (λ (b : Binding). b.0) z) (sym made)) more

    pub let_distinct : (bs : Bindings) (cs : List Binding) (before after : List ℕ) → judge_bindings signature vars [] bs before (well_sorted cs after) → AreDistinct (map (λ (b : Binding). b.0) cs)
    let_distinct bs cs before after h = bindings_distinct bs [] cs before after (record { distinct = λ i j n e f. cc }) h

  pub let_sound : (vars : List (ℕ × Sort)) (cs : List Binding) (v : PlainTerm) → AreDistinct (map (λ (b : Binding). b.0) cs) → AreSoundTerms script (bound_also vars []) (plain_terms (map (λ (b : Binding). b.1) cs))
      → IsSoundTerm script (bound_also (vars ++ map bound_sort cs) []) v → IsSoundTerm script (bound_also vars []) (let_term cs v)
  let_sound vars cs v apart values body =
      let inner = bound_append vars (map bound_sort cs) [] ∙ bound_to_sorts cs (bound_also vars []) in
      (sort_sound script (bound_also (vars ++ map bound_sort cs) []) v body, (as_many cs, apart, values, subst (λ (o : Bound). IsSoundTerm script o v) inner body, refl))

  -- the variables of a quantifier
  pub variables_sound : (signature : Signature) → IsSoundSignature script signature → (raws : List SortedSymbol) (vs : List (ℕ × Sort)) (before after : List ℕ)
      → judge_variables signature raws before (well_sorted vs after) → AreSoundVars script vs
  variables_sound signature sound [] vs before after (made, same) = subst (AreSoundVars script) (sym made) tt
  variables_sound signature sound (raw ∷ raws) vs before after (v, between, (s, start, h, (e, f)), (ws, later, k, (made, same))) =
      subst (AreSoundVars script) (sym made)
      (subst (λ (z : ℕ × Sort). IsSoundSort script 0 z.1) (sym e) (sound_sort script signature.texts signature.declarations signature.theories [] sound.sorts raw.sort s before start h), variables_sound signature sound raws ws between later k)

  pub quantifier_sound : (vars : List (ℕ × Sort)) (all : Bool) (at : ℕ) (variables : Judging (List (ℕ × Sort))) (body : List (ℕ × Sort) → Judging PlainTerm) (u : PlainTerm) (before after : List ℕ)
      → ((vs : List (ℕ × Sort)) (first second : List ℕ) → variables first (well_sorted vs second) → AreSoundVars script vs)
      → ((vs : List (ℕ × Sort)) (v : PlainTerm) (first second : List ℕ) → AreSoundVars script vs → body vs first (well_sorted v second) → IsSoundTerm script (bound_also (vars ++ vs) []) v)
      → judge_quantifier all at variables body before (well_sorted u after) → IsSoundTerm script (bound_also vars []) u
  quantifier_sound vars all at variables body u before after own inner (vs, between, h, (v, later, k, (x, last, (is_bool, e), (made, same)))) =
      let sorts = own vs before between h in
      subst (IsSoundTerm script (bound_also vars [])) (sym made)
      ((tt, tt), (sorts, subst (λ (o : Bound). IsSoundTerm script o v) (bound_append vars vs []) (inner vs v between later sorts k), is_bool, refl))

  pub annotation_sound : (outer : Bound) (v : PlainTerm) (ms : List PlainNote) → IsSoundTerm script outer v → AreSoundNotes script outer (plain_notes ms) → IsSoundTerm script outer (annotated_term v ms)
  annotation_sound outer v ms h k = (sort_sound script outer v h, (h, refl, k))
