-- What a raw term is well sorted with is sound where the signature and the variables are.
use Rattle.std.proofs.Common.{◌≡◌, ℕ, ◌-◌, ◌*◌, ◌==◌, Bool, true, false, if◌then◌else◌, codes, List, [], ◌∷◌, ◌++◌, length, map, Option, Some, None, ap, refl, sym, subst, ◌∙◌}
use Rattle.std.specs.Option.{IfSome}
use Rattle.sig_table.specs.declared.theories.Theories.{Theories}
use Rattle.lex_core.specs.declared.token.TokKind.{TokKind}
use Rattle.lex_core.specs.declared.token.TokKind.TheVariants as kind
use Rattle.judgement.specs.Judging.{well_sorted}
use Rattle.term_grammar.specs.Syntax as syntax
use Rattle.term_grammar.specs.Syntax.{Identifier, symbol, indexed, Qualified, unqualified, qualified, qualified_at, constant, qualified_term, application, let_in, for_all, there_exists, match_with, annotated, term_at, Terms, no_terms, with_term, Bindings, no_bindings, with_binding, Cases, no_cases, with_case, Notes, no_notes, with_note, Note, named_note, pattern_note, attribute_note}
use Rattle.sort_store.specs.Tree.{Sort}
use Rattle.term_store.specs.Term.{PlainTerm, plain_sort, plain_terms}
use Rattle.term_store.specs.Declarations.{Declaration}
use Rattle.term_store.specs.SoundTerms.{Bound, bound_also, IsSoundSort, IsTheorySort, AreSoundVars, IsSoundCase, AreSoundCases, IsSoundTerm, AreSoundTerms, AreSoundNotes, IsSoundNote}
use Rattle.theory_core.specs.IntsRanks.{int}
use Rattle.typer.specs.BitVectors.{bit_vector}
use Rattle.typer.specs.FunctionSymbols.{Signature, text_of}
use Rattle.typer.specs.SortSymbols.{is_text, or_else}
use Rattle.typer.specs.MatchRules.{Instance, pattern_variables}
use Rattle.typer.specs.TermRules.{Binding, Case, PlainNote, bound, bound_sort, first_sort, identifier_of, literal_sort, judge_symbol, judge_application, judge_asked, judge_bindings, judge_cases, judge_note, judge_notes, judge_term, judge_terms, judge_variables, plain_cases, plain_notes}
use Rattle.typer.specs.Soundness.{IsSoundSignature}
use Rattle.typer.proofs.SoundSorts.{sound_sort}
use Rattle.typer.proofs.SoundVariables.{same_bound}
use Rattle.typer.proofs.SoundApplications.{head_sound, indexed_head_sound, sort_sound}
use Rattle.typer.proofs.SoundMatches.{IsSoundMatch, branch_is, first_stays, match_sound, sound_match, typed_pattern_fits}
use Rattle.typer.proofs.SoundBinders.{annotation_sound, bindings_sound, bound_append, let_distinct, let_sound, quantifier_sound, variables_sound, vars_append}

module _ (script : List Declaration) where
  abbrev IsSoundIfSome : Option Sort → Type 0
  IsSoundIfSome o = IfSome o (IsSoundSort script 0)

  sound_or_else : (a b : Option Sort) → IsSoundIfSome a → IsSoundIfSome b → IsSoundIfSome (or_else a b)
  sound_or_else (Some s) b h k = h
  sound_or_else None b h k = k

  sound_if : (b : Bool) (s : Sort) → IsSoundSort script 0 s → IsSoundIfSome (if b then Some s else None)
  sound_if true s h = h
  sound_if false s h = tt

  bound_sound : (vars : List (ℕ × Sort)) (name : ℕ) → AreSoundVars script vars → IsSoundIfSome (bound vars name)
  bound_sound [] name h = tt
  bound_sound (v ∷ vars) name h = sound_or_else (bound vars name) _ (bound_sound vars name h.1) (sound_if (v.0 == name) v.1 h.0)

  -- each literal has a sort of a theory
  abbrev IsSoundLiteral : Sort → Type 0
  IsSoundLiteral s = IsSoundSort script 0 s × IsTheorySort s

  literal_of : (b : Bool) (t s : Sort) → IsSoundLiteral t → (if b then Some t else None) ≡ Some s → IsSoundLiteral s
  literal_of true t s h e = let same : t ≡ s = cc in subst IsSoundLiteral same h
  literal_of false t s h e = cc

  literal_sound : (theories : Theories) (text : List ℕ) (k : TokKind) (s : Sort) → literal_sort theories text k ≡ Some s → IsSoundLiteral s
  literal_sound theories text kind.Numeral s e = literal_of theories.ints int s ((tt, tt), tt) e
  literal_sound theories text kind.Binary s e = literal_of theories.bits (bit_vector (length text - 2)) s ((tt, tt), tt) e
  literal_sound theories text kind.Hexadecimal s e = literal_of theories.bits (bit_vector (4 * (length text - 2))) s ((tt, tt), tt) e
  literal_sound theories text kind.Open s e = cc
  literal_sound theories text kind.Close s e = cc
  literal_sound theories text kind.Decimal s e = cc
  literal_sound theories text kind.Str s e = cc
  literal_sound theories text kind.Symbol s e = cc
  literal_sound theories text kind.Reserved s e = cc
  literal_sound theories text kind.Keyword s e = cc

module _ (script : List Declaration) (signature : Signature) (vars : List (ℕ × Sort)) (sound : IsSoundSignature script signature) (sound_vars : AreSoundVars script vars) where
  abbrev outer : Bound
  outer = bound_also vars []

  abbrev IsSoundHere : PlainTerm → Type 0
  IsSoundHere u = IsSoundTerm script outer u

  asked_sound : (q : Qualified) (asked : Option Sort) (before after : List ℕ) → judge_asked signature q before (well_sorted asked after) → IsSoundIfSome script asked
  asked_sound (unqualified i) asked before after (made, same) = subst (IsSoundIfSome script) (sym made) tt
  asked_sound (qualified _ i s) asked before after (t, between, h, (made, same)) =
      subst (IsSoundIfSome script) (sym made) (sound_sort script signature.texts signature.declarations signature.theories [] sound.sorts s t before between h)

  symbol_sound : (o : Option Sort) (at : ℕ) (args : List PlainTerm) (asked : Option Sort) (name : ℕ) (u : PlainTerm) (before after : List ℕ) → bound vars name ≡ o → IsSoundIfSome script o
      → AreSoundTerms script outer (plain_terms args) → IsSoundIfSome script asked → judge_symbol signature o at args asked name before (well_sorted u after) → IsSoundHere u
  symbol_sound (Some s) at args asked name u before after e h a k (x, between, bare, (made, same)) = subst IsSoundHere (sym made) (h, same_bound vars name ∙ e)
  symbol_sound None at args asked name u before after e h a k (head, between, j, (made, same)) = subst IsSoundHere (sym made) (head_sound script signature sound outer at args asked a k name head before between j)

  application_sound : (i : Identifier) (at : ℕ) (args : List PlainTerm) (asked : Option Sort) (u : PlainTerm) (before after : List ℕ) → AreSoundTerms script outer (plain_terms args) → IsSoundIfSome script asked
      → judge_application signature vars at args asked i before (well_sorted u after) → IsSoundHere u
  application_sound (symbol t) at args asked u before after a k h = symbol_sound (bound vars t.name) at args asked t.name u before after refl (bound_sound script vars t.name sound_vars) a k h
  application_sound (indexed _ t is) at args asked u before after a k (head, between, j, (made, same)) =
      subst IsSoundHere (sym made) (indexed_head_sound script signature sound outer at args asked a k t.name (is_text signature.texts (codes "is") t.name) is head before between j)

module _ (script : List Declaration) (signature : Signature) (sound : IsSoundSignature script signature) where
  mutual
    pub sound_term : (raw : syntax.Term) (vars : List (ℕ × Sort)) → AreSoundVars script vars → (u : PlainTerm) (before after : List ℕ) → judge_term signature vars raw before (well_sorted u after) → IsSoundTerm script (bound_also vars []) u
    sound_term (constant t) vars given u before after (s, between, (r, later, (e, f), (x, last, narrow, (sort_made, stays))), (made, same)) =
        subst (IsSoundTerm script (bound_also vars [])) (sym made) (subst (IsSoundLiteral script) (sym sort_made) (literal_sound script signature.theories (text_of signature t.name) t.kind r e))
    sound_term (qualified_term q) vars given u before after (asked, between, h, k) =
        application_sound script signature vars sound given (identifier_of q) (qualified_at q) [] asked u between after tt (asked_sound script signature vars sound given q asked before between h) k
    sound_term (application at q ts) vars given u before after (asked, between, h, (args, later, k, l)) =
        application_sound script signature vars sound given (identifier_of q) at args asked u later after (sound_terms ts vars given args between later k) (asked_sound script signature vars sound given q asked before between h) l
    sound_term (let_in at bs b) vars given u before after (cs, between, h, (v, later, k, (made, same))) =
        let values = sound_bindings bs vars given [] cs before between h in
        subst (IsSoundTerm script (bound_also vars [])) (sym made)
        (let_sound script vars cs v (let_distinct script signature vars bs cs before between h) values
        (sound_term b (vars ++ map bound_sort cs) (vars_append script vars (map bound_sort cs) given (bindings_sound script (bound_also vars []) cs values)) v between later k))
    sound_term (for_all at vs b) vars given u before after h =
        quantifier_sound script vars true (term_at b) (judge_variables signature vs) (λ ws. judge_term signature (vars ++ ws) b) u before after (variables_sound script signature sound vs)
        (λ ws v first second own. sound_term b (vars ++ ws) (vars_append script vars ws given own) v first second) h
    sound_term (there_exists at vs b) vars given u before after h =
        quantifier_sound script vars false (term_at b) (judge_variables signature vs) (λ ws. judge_term signature (vars ++ ws) b) u before after (variables_sound script signature sound vs)
        (λ ws v first second own. sound_term b (vars ++ ws) (vars_append script vars ws given own) v first second) h
    sound_term (match_with at b cs) vars given u before after (v, b1, h, (i, b2, e, (ds, b3, k, (x, b4, covered, (s, b5, first, (made, same)))))) =
        let of = sound_term b vars given v before b1 h in
        let m = sound_match script signature.datatypes sound.datatypes (plain_sort v) (sort_sound script (bound_also vars []) v of) i e.0 in
        subst (IsSoundTerm script (bound_also vars [])) (sym made)
        (match_sound script i (plain_sort v) signature.datatypes m (bound_also vars []) v ds s refl of first.0 (sound_cases cs vars given i (plain_sort v) m None s ds b2 b3 first.0 k))
    sound_term (annotated at b ns) vars given u before after (v, between, h, (ms, later, k, (made, same))) =
        subst (IsSoundTerm script (bound_also vars [])) (sym made) (annotation_sound script (bound_also vars []) v ms (sound_term b vars given v before between h) (sound_notes ns vars given v ms between later k))

    pub sound_terms : (ts : Terms) (vars : List (ℕ × Sort)) → AreSoundVars script vars → (us : List PlainTerm) (before after : List ℕ) → judge_terms signature vars ts before (well_sorted us after)
        → AreSoundTerms script (bound_also vars []) (plain_terms us)
    sound_terms no_terms vars given us before after (made, same) = subst (λ z. AreSoundTerms script (bound_also vars []) (plain_terms z)) (sym made) tt
    sound_terms (with_term t ts) vars given us before after (u, between, h, (rest, later, k, (made, same))) =
        subst (λ z. AreSoundTerms script (bound_also vars []) (plain_terms z)) (sym made) (sound_term t vars given u before between h, sound_terms ts vars given rest between later k)

    pub sound_bindings : (bs : Bindings) (vars : List (ℕ × Sort)) → AreSoundVars script vars → (others : List ℕ) (cs : List Binding) (before after : List ℕ) → judge_bindings signature vars others bs before (well_sorted cs after)
        → AreSoundTerms script (bound_also vars []) (plain_terms (map (λ (b : Binding). b.1) cs))
    sound_bindings no_bindings vars given others cs before after (made, same) = subst (λ (z : List Binding). AreSoundTerms script (bound_also vars []) (plain_terms (map (λ (b : Binding). b.1) z))) (sym made) tt
    sound_bindings (with_binding at x t bs) vars given others cs before after (c, between, (w, start, apart, (v, next, h, (e, f))), (rest, later, k, (made, same))) =
        subst (λ (z : List Binding). AreSoundTerms script (bound_also vars []) (plain_terms (map (λ (b : Binding). b.1) z))) (sym made)
        (subst (λ (z : Binding). IsSoundTerm script (bound_also vars []) z.1) (sym e) (sound_term t vars given v start next h), sound_bindings bs vars given (others ++ x.name ∷ []) rest between later k)

    pub sound_cases : (cs : Cases) (vars : List (ℕ × Sort)) → AreSoundVars script vars → (i : Instance) (of : Sort) → IsSoundMatch script signature.datatypes of i → (first : Option Sort) (s : Sort) (ds : List Case) (before after : List ℕ)
        → or_else first (first_sort ds) ≡ Some s → judge_cases signature vars i of first cs before (well_sorted ds after) → AreSoundCases script (bound_also vars []) of s (plain_cases ds)
    sound_cases no_cases vars given i of m first s ds before after e (made, same) = subst (λ z. AreSoundCases script (bound_also vars []) of s (plain_cases z)) (sym made) tt
    sound_cases (with_case at p t cs) vars given i of m first s ds before after e (c, between, (q, b1, typed, (u, b2, h, (x, b3, checked, (f, g)))), (rest, later, k, (made, same))) =
        let outer = bound_also vars [] in
        let own = pattern_variables i of q in
        let fits = typed_pattern_fits script i of signature.datatypes m outer p q before b1 typed in
        let branch = sound_term t (vars ++ own) (vars_append script vars own given fits.0) u b1 b2 h in
        let sort_of : plain_sort u ≡ plain_sort c.1 = ap (λ (z : Case). plain_sort z.1) (sym f) in
        let first_is : or_else first (Some (plain_sort c.1)) ≡ Some s = subst (λ z. or_else first (first_sort z) ≡ Some s) made e in
        let same_sort = branch_is first (plain_sort u) s checked.0 (ap (λ z. or_else first (Some z)) sort_of ∙ first_is) in
        subst (λ z. AreSoundCases script outer of s (plain_cases z)) (sym made) (
          subst (λ (z : Case). IsSoundCase script outer of z.0 (λ inner. IsSoundTerm script inner z.1)) (sym f) (fits.1 u (subst (λ o. IsSoundTerm script o u) (bound_append vars own []) branch)),
          sym sort_of ∙ same_sort,
          sound_cases cs vars given i of m (or_else first (Some (plain_sort c.1))) s rest between later (first_stays (or_else first (Some (plain_sort c.1))) s (first_sort rest) first_is) k,
        )

    sound_notes : (ns : Notes) (vars : List (ℕ × Sort)) → AreSoundVars script vars → (u : PlainTerm) (ms : List PlainNote) (before after : List ℕ) → judge_notes signature vars u ns before (well_sorted ms after)
        → AreSoundNotes script (bound_also vars []) (plain_notes ms)
    sound_notes no_notes vars given u ms before after (made, same) = subst (λ z. AreSoundNotes script (bound_also vars []) (plain_notes z)) (sym made) tt
    sound_notes (with_note n ns) vars given u ms before after (m, between, h, (rest, later, k, (made, same))) =
        subst (λ z. AreSoundNotes script (bound_also vars []) (plain_notes z)) (sym made) (sound_note n vars given u m before between h, sound_notes ns vars given u rest between later k)

    sound_note : (n : Note) (vars : List (ℕ × Sort)) → AreSoundVars script vars → (u : PlainTerm) (m : PlainNote) (before after : List ℕ) → judge_note signature vars u n before (well_sorted m after) → IsSoundNote script (bound_also vars []) m
    sound_note (named_note t) vars given u m before after (seen, start, h, (x, between, may, (y, later, k, (made, same)))) = subst (IsSoundNote script (bound_also vars [])) (sym made) tt
    sound_note (pattern_note ts) vars given u m before after (us, between, h, (made, same)) = subst (IsSoundNote script (bound_also vars [])) (sym made) (sound_terms ts vars given us before between h)
    sound_note (attribute_note a) vars given u m before after (made, same) = subst (IsSoundNote script (bound_also vars [])) (sym made) tt
