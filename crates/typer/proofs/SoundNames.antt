-- A named term is sound whatever variables are bound round it, since no variable stands free in it.
use Rattle.std.proofs.Common.{ℕ, Bool, true, false, List, [], ◌∷◌, ◌++◌, map, Option, Some, None, sym, subst}
use Rattle.judgement.specs.Judging.{Judging, well_sorted}
use Rattle.lex_core.specs.declared.token.Tok.{Tok}
use Rattle.term_grammar.specs.Syntax as syntax
use Rattle.term_grammar.specs.Syntax.{qualified_at, constant, qualified_term, application, let_in, for_all, there_exists, match_with, annotated, term_at, Terms, no_terms, with_term, Bindings, no_bindings, with_binding, Cases, no_cases, with_case, Notes, no_notes, with_note, Note, named_note, pattern_note, attribute_note}
use Rattle.sort_store.specs.Tree.{Sort}
use Rattle.term_store.specs.Term.{PlainTerm, plain_sort, plain_terms}
use Rattle.term_store.specs.Declarations.{Declaration, names_in, names_in_cases, names_in_each, names_in_note, names_in_notes}
use Rattle.term_store.specs.SoundTerms.{AreSoundVars, Bound, IsSoundTerm, bound_also}
use Rattle.typer.specs.FunctionSymbols.{Signature}
use Rattle.typer.specs.Soundness.{IsSoundSignature}
use Rattle.typer.specs.MatchRules.{Instance, pattern_variables}
use Rattle.typer.specs.SortSymbols.{or_else}
use Rattle.typer.specs.TermRules.{Binding, Case, PlainNote, bound_sort, identifier_of, judge_bindings, judge_cases, judge_name, judge_note, judge_notes, judge_quantifier, judge_term, judge_terms, judge_variables, number_after, plain_cases, plain_notes}
use Rattle.typer.proofs.ClosedTerms.{closed_sound}
use Rattle.typer.proofs.EachNamed.{EachNamed, append_named, none_named, one_named}
use Rattle.typer.proofs.NamesGiven.{application_names}
use Rattle.typer.proofs.SoundApplications.{sort_sound}
use Rattle.typer.proofs.SoundMatches.{IsSoundMatch, sound_match, typed_pattern_fits}
use Rattle.typer.proofs.SoundBinders.{bindings_sound, variables_sound, vars_append}
use Rattle.typer.proofs.SoundTerms.{sound_bindings, sound_term}

module _ (script : List Declaration) where
  -- sound, whatever variables are bound round it
  abbrev pub IsSoundAnywhere : PlainTerm → Type 0
  IsSoundAnywhere u = (outer : Bound) → IsSoundTerm script outer u

  abbrev pub AreSoundNames : List Declaration → Type 0
  AreSoundNames ds = EachNamed IsSoundAnywhere ds

  no_sound_names : AreSoundNames []
  no_sound_names = none_named IsSoundAnywhere

  sound_names_append : (ds es : List Declaration) → AreSoundNames ds → AreSoundNames es → AreSoundNames (ds ++ es)
  sound_names_append ds es h k = append_named IsSoundAnywhere ds es h k

  module _ (signature : Signature) (sound : IsSoundSignature script signature) where
    quantifier_sound_names : (all : Bool) (at : ℕ) (raws : List syntax.SortedSymbol) (vars : List (ℕ × Sort)) (body : List (ℕ × Sort) → Judging PlainTerm) (u : PlainTerm) (before after : List ℕ) → AreSoundVars script vars
        → ((vs : List (ℕ × Sort)) (v : PlainTerm) (first second : List ℕ) → AreSoundVars script (vars ++ vs) → body vs first (well_sorted v second) → AreSoundNames (names_in v))
        → judge_quantifier all at (judge_variables signature raws) body before (well_sorted u after) → AreSoundNames (names_in u)
    quantifier_sound_names all at raws vars body u before after given inner (vs, between, h, (v, later, k, (x, last, checked, (made, same)))) =
        subst (λ z. AreSoundNames (names_in z)) (sym made) (inner vs v between later (vars_append script vars vs given (variables_sound script signature sound raws vs before between h)) k)

    name_sound : (vars : List (ℕ × Sort)) (u : PlainTerm) (t : Tok) (m : PlainNote) (before after : List ℕ) → IsSoundTerm script (bound_also vars []) u → judge_name signature u t before (well_sorted m after)
        → AreSoundNames (names_in_note u m)
    name_sound vars u t m before after s (seen, start, h, (x, between, may, (y, later, k, (made, same)))) =
        subst (λ z. AreSoundNames (names_in_note u z)) (sym made) (one_named IsSoundAnywhere (number_after signature seen) t.name u (λ outer. closed_sound script u (bound_also vars []) outer may.0.0 s))

    mutual
      pub named_sound : (raw : syntax.Term) (vars : List (ℕ × Sort)) → AreSoundVars script vars → (u : PlainTerm) (before after : List ℕ) → judge_term signature vars raw before (well_sorted u after) → AreSoundNames (names_in u)
      named_sound (constant t) vars given u before after (s, between, h, (made, same)) = subst (λ z. AreSoundNames (names_in z)) (sym made) no_sound_names
      named_sound (qualified_term q) vars given u before after (asked, between, h, k) =
          subst AreSoundNames (sym (application_names signature vars (identifier_of q) (qualified_at q) [] asked u between after k)) no_sound_names
      named_sound (application at q ts) vars given u before after (asked, between, h, (args, later, k, l)) =
          subst AreSoundNames (sym (application_names signature vars (identifier_of q) at args asked u later after l)) (each_named_sound ts vars given args between later k)
      named_sound (let_in at bs b) vars given u before after (cs, between, h, (v, later, k, (made, same))) =
          let values = sound_bindings script signature sound bs vars given [] cs before between h in
          subst (λ z. AreSoundNames (names_in z)) (sym made)
          (sound_names_append (names_in_each (plain_terms (map (λ (b : Binding). b.1) cs))) (names_in v) (bound_named_sound bs vars given [] cs before between h)
          (named_sound b (vars ++ map bound_sort cs) (vars_append script vars (map bound_sort cs) given (bindings_sound script (bound_also vars []) cs values)) v between later k))
      named_sound (for_all at vs b) vars given u before after h =
          quantifier_sound_names true (term_at b) vs vars (λ ws. judge_term signature (vars ++ ws) b) u before after given (λ ws v first second own k. named_sound b (vars ++ ws) own v first second k) h
      named_sound (there_exists at vs b) vars given u before after h =
          quantifier_sound_names false (term_at b) vs vars (λ ws. judge_term signature (vars ++ ws) b) u before after given (λ ws v first second own k. named_sound b (vars ++ ws) own v first second k) h
      named_sound (match_with at b cs) vars given u before after (v, b1, h, (i, b2, e, (ds, b3, k, (x, b4, covered, (s, b5, first, (made, same)))))) =
          let of = sound_term script signature sound b vars given v before b1 h in
          let m = sound_match script signature.datatypes sound.datatypes (plain_sort v) (sort_sound script (bound_also vars []) v of) i e.0 in
          subst (λ z. AreSoundNames (names_in z)) (sym made)
          (sound_names_append (names_in v) (names_in_cases (plain_cases ds)) (named_sound b vars given v before b1 h) (cases_named_sound cs vars given i (plain_sort v) m None ds b2 b3 k))
      named_sound (annotated at b ns) vars given u before after (v, between, h, (ms, later, k, (made, same))) =
          subst (λ z. AreSoundNames (names_in z)) (sym made)
          (sound_names_append (names_in v) (names_in_notes v (plain_notes ms)) (named_sound b vars given v before between h)
          (notes_named_sound ns vars given v (sound_term script signature sound b vars given v before between h) ms between later k))

      pub each_named_sound : (ts : Terms) (vars : List (ℕ × Sort)) → AreSoundVars script vars → (us : List PlainTerm) (before after : List ℕ) → judge_terms signature vars ts before (well_sorted us after) → AreSoundNames (names_in_each (plain_terms us))
      each_named_sound no_terms vars given us before after (made, same) = subst (λ z. AreSoundNames (names_in_each (plain_terms z))) (sym made) no_sound_names
      each_named_sound (with_term t ts) vars given us before after (u, between, h, (rest, later, k, (made, same))) =
          subst (λ z. AreSoundNames (names_in_each (plain_terms z))) (sym made)
          (sound_names_append (names_in u) (names_in_each (plain_terms rest)) (named_sound t vars given u before between h) (each_named_sound ts vars given rest between later k))

      bound_named_sound : (bs : Bindings) (vars : List (ℕ × Sort)) → AreSoundVars script vars → (others : List ℕ) (cs : List Binding) (before after : List ℕ) → judge_bindings signature vars others bs before (well_sorted cs after)
          → AreSoundNames (names_in_each (plain_terms (map (λ (b : Binding). b.1) cs)))
      bound_named_sound no_bindings vars given others cs before after (made, same) = subst (λ (z : List Binding). AreSoundNames (names_in_each (plain_terms (map (λ (b : Binding). b.1) z)))) (sym made) no_sound_names
      bound_named_sound (with_binding at x t bs) vars given others cs before after (c, between, (w, start, apart, (v, next, h, (e, f))), (rest, later, k, (made, same))) =
          subst (λ (z : List Binding). AreSoundNames (names_in_each (plain_terms (map (λ (b : Binding). b.1) z)))) (sym made)
          (sound_names_append (names_in c.1) (names_in_each (plain_terms (map (λ (b : Binding). b.1) rest)))
          (subst (λ (z : Binding). AreSoundNames (names_in z.1)) (sym e) (named_sound t vars given v start next h)) (bound_named_sound bs vars given (others ++ x.name ∷ []) rest between later k))

      cases_named_sound : (cs : Cases) (vars : List (ℕ × Sort)) → AreSoundVars script vars → (i : Instance) (of : Sort) → IsSoundMatch script signature.datatypes of i → (first : Option Sort) (ds : List Case) (before after : List ℕ)
          → judge_cases signature vars i of first cs before (well_sorted ds after) → AreSoundNames (names_in_cases (plain_cases ds))
      cases_named_sound no_cases vars given i of m first ds before after (made, same) = subst (λ z. AreSoundNames (names_in_cases (plain_cases z))) (sym made) no_sound_names
      cases_named_sound (with_case at p t cs) vars given i of m first ds before after (c, between, (q, b1, typed, (u, b2, h, (x, b3, checked, (f, g)))), (rest, later, k, (made, same))) =
          let own = typed_pattern_fits script i of signature.datatypes m (bound_also vars []) p q before b1 typed in
          subst (λ z. AreSoundNames (names_in_cases (plain_cases z))) (sym made)
          (sound_names_append (names_in c.1) (names_in_cases (plain_cases rest))
          (subst (λ (z : Case). AreSoundNames (names_in z.1)) (sym f) (named_sound t (vars ++ pattern_variables i of q) (vars_append script vars (pattern_variables i of q) given own.0) u b1 b2 h))
          (cases_named_sound cs vars given i of m (or_else first (Some (plain_sort c.1))) rest between later k))

      notes_named_sound : (ns : Notes) (vars : List (ℕ × Sort)) → AreSoundVars script vars → (u : PlainTerm) → IsSoundTerm script (bound_also vars []) u → (ms : List PlainNote) (before after : List ℕ)
          → judge_notes signature vars u ns before (well_sorted ms after) → AreSoundNames (names_in_notes u (plain_notes ms))
      notes_named_sound no_notes vars given u s ms before after (made, same) = subst (λ z. AreSoundNames (names_in_notes u (plain_notes z))) (sym made) no_sound_names
      notes_named_sound (with_note n ns) vars given u s ms before after (m, between, h, (rest, later, k, (made, same))) =
          subst (λ z. AreSoundNames (names_in_notes u (plain_notes z))) (sym made)
          (sound_names_append (names_in_note u m) (names_in_notes u (plain_notes rest)) (note_named_sound n vars given u s m before between h) (notes_named_sound ns vars given u s rest between later k))

      note_named_sound : (n : Note) (vars : List (ℕ × Sort)) → AreSoundVars script vars → (u : PlainTerm) → IsSoundTerm script (bound_also vars []) u → (m : PlainNote) (before after : List ℕ)
          → judge_note signature vars u n before (well_sorted m after) → AreSoundNames (names_in_note u m)
      note_named_sound (named_note t) vars given u s m before after h = name_sound vars u t m before after s h
      note_named_sound (pattern_note ts) vars given u s m before after (us, between, h, (made, same)) =
          subst (λ z. AreSoundNames (names_in_note u z)) (sym made) (each_named_sound ts vars given us before between h)
      note_named_sound (attribute_note a) vars given u s m before after (made, same) = subst (λ z. AreSoundNames (names_in_note u z)) (sym made) no_sound_names
