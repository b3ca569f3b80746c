-- The names that a term declares are those of its named terms, one after the other.
use Rattle.std.proofs.Common.{◌≡◌, ℕ, Bool, true, false, List, [], ◌∷◌, ◌++◌, map, Option, Some, None, ap, sym, ◌∙◌, subst}
use Rattle.judgement.specs.Judging.{Judging, well_sorted}
use Rattle.lex_core.specs.declared.token.Tok.{Tok}
use Rattle.term_grammar.specs.Syntax as syntax
use Rattle.term_grammar.specs.Syntax.{Identifier, symbol, indexed, qualified_at, constant, qualified_term, application, let_in, for_all, there_exists, match_with, annotated, term_at, Terms, no_terms, with_term, Bindings, no_bindings, with_binding, Cases, no_cases, with_case, Notes, no_notes, with_note, Note, named_note, pattern_note, attribute_note}
use Rattle.sort_store.specs.Tree.{Sort}
use Rattle.term_store.specs.Term.{PlainTerm, plain_sort, plain_terms}
use Rattle.term_store.specs.Declarations.{Declaration, names_in, names_in_cases, names_in_each, names_in_note, names_in_notes}
use Rattle.typer.specs.FunctionSymbols.{Signature}
use Rattle.typer.specs.NamedTerms.{AreNamedAfter, name_given}
use Rattle.typer.specs.MatchRules.{Instance, pattern_variables}
use Rattle.typer.specs.SortSymbols.{or_else}
use Rattle.typer.specs.TermRules.{Binding, Case, PlainNote, bound, bound_sort, identifier_of, judge_symbol, judge_application, judge_bindings, judge_cases, judge_name, judge_note, judge_notes, judge_quantifier, judge_term, judge_terms, judge_variables, number_after, plain_cases, plain_notes}
use Rattle.typer.proofs.TermLaws.{none-application, none-asked, none-typed_pattern, none-variables}

module _ (signature : Signature) where
  abbrev From : List ℕ → List Declaration → List ℕ → Type 0
  From before ds after = AreNamedAfter signature before ds after

  pub named_append : (ds es : List Declaration) (before between after : List ℕ) → From before ds between → From between es after → From before (ds ++ es) after
  named_append [] es before between after e k = subst (λ z. From z es after) e k
  named_append (d ∷ ds) es before between after h k = (h.0, named_append ds es (before ++ name_given d ∷ []) between after h.1 k)

  -- what declares no name more
  ends : (ds : List Declaration) (before between after : List ℕ) → after ≡ between → From before ds between → From before ds after
  ends ds before between after e h = subst (From before ds) (sym e) h

  begins : (ds : List Declaration) (before between after : List ℕ) → between ≡ before → From between ds after → From before ds after
  begins ds before between after e h = subst (λ z. From z ds after) e h

  module _ (vars : List (ℕ × Sort)) where
    symbol_names : (o : Option Sort) (at : ℕ) (args : List PlainTerm) (asked : Option Sort) (name : ℕ) (u : PlainTerm) (before after : List ℕ)
        → judge_symbol signature o at args asked name before (well_sorted u after) → names_in u ≡ names_in_each (plain_terms args)
    symbol_names (Some s) at args asked name u before after (x, between, bare, (made, same)) = ap names_in made ∙ sym (ap (λ z. names_in_each (plain_terms z)) bare.0.0)
    symbol_names None at args asked name u before after (head, between, h, (made, same)) = ap names_in made

    pub application_names : (i : Identifier) (at : ℕ) (args : List PlainTerm) (asked : Option Sort) (u : PlainTerm) (before after : List ℕ)
        → judge_application signature vars at args asked i before (well_sorted u after) → names_in u ≡ names_in_each (plain_terms args)
    application_names (symbol t) at args asked u before after h = symbol_names (bound vars t.name) at args asked t.name u before after h
    application_names (indexed _ t is) at args asked u before after (head, between, h, (made, same)) = ap names_in made

    application_given : (i : Identifier) (at : ℕ) (args : List PlainTerm) (asked : Option Sort) (u : PlainTerm) (start before after : List ℕ) → From start (names_in_each (plain_terms args)) before
        → judge_application signature vars at args asked i before (well_sorted u after) → From start (names_in u) after
    application_given i at args asked u start before after g h =
        subst (λ z. From start z after) (sym (application_names i at args asked u before after h))
        (ends (names_in_each (plain_terms args)) start before after (none-application signature vars i at args asked before (well_sorted u after) h).0 g)

  abbrev GivenByBound : List ℕ → List Binding → List ℕ → Type 0
  GivenByBound before bs after = From before (names_in_each (plain_terms (map (λ (b : Binding). b.1) bs))) after

  abbrev GivenByNotes : PlainTerm → List ℕ → List PlainNote → List ℕ → Type 0
  GivenByNotes u before ns after = From before (names_in_notes u (plain_notes ns)) after

  abbrev GivenByCases : List ℕ → List Case → List ℕ → Type 0
  GivenByCases before cs after = From before (names_in_cases (plain_cases cs)) after

  quantifier_given : (all : Bool) (at : ℕ) (raws : List syntax.SortedSymbol) (body : List (ℕ × Sort) → Judging PlainTerm) (u : PlainTerm) (before after : List ℕ)
      → ((vs : List (ℕ × Sort)) (v : PlainTerm) (first second : List ℕ) → body vs first (well_sorted v second) → From first (names_in v) second)
      → judge_quantifier all at (judge_variables signature raws) body before (well_sorted u after) → From before (names_in u) after
  quantifier_given all at raws body u before after inner (vs, between, h, (v, later, k, (x, last, checked, (made, same)))) =
      subst (λ z. From before (names_in z) after) (sym made)
      (ends (names_in v) before later after (same ∙ checked.1) (begins (names_in v) before between later (none-variables signature raws before (well_sorted vs between) h).0 (inner vs v between later k)))

  name_given_by : (u : PlainTerm) (t : Tok) (m : PlainNote) (before after : List ℕ) → judge_name signature u t before (well_sorted m after) → From before (names_in_note u m) after
  name_given_by u t m before after (seen, start, (e, f), (x, between, may, (y, later, k, (made, same)))) =
      subst (λ z. From before (names_in_note u z) after) (sym made)
      (ap (λ z. (number_after signature z).0) e, same ∙ k ∙ ap (λ z. z ++ t.name ∷ []) (may.1 ∙ f))

  mutual
    pub names_given : (raw : syntax.Term) (vars : List (ℕ × Sort)) (u : PlainTerm) (before after : List ℕ) → judge_term signature vars raw before (well_sorted u after) → From before (names_in u) after
    names_given (constant t) vars u before after (s, between, (r, later, h, (x, last, narrow, (sort_made, stays))), (made, same)) = subst (λ z. From before (names_in z) after) (sym made) (same ∙ stays ∙ narrow.1 ∙ h.1)
    names_given (qualified_term q) vars u before after (asked, between, h, k) =
        application_given vars (identifier_of q) (qualified_at q) [] asked u before between after (none-asked signature vars q before (well_sorted asked between) h).0 k
    names_given (application at q ts) vars u before after (asked, between, h, (args, later, k, l)) =
        application_given vars (identifier_of q) at args asked u before later after
        (begins (names_in_each (plain_terms args)) before between later (none-asked signature vars q before (well_sorted asked between) h).0 (given_each ts vars args between later k)) l
    names_given (let_in at bs b) vars u before after (cs, between, h, (v, later, k, (made, same))) =
        subst (λ z. From before (names_in z) after) (sym made)
        (named_append (names_in_each (plain_terms (map (λ (b : Binding). b.1) cs))) (names_in v) before between after (given_bound bs vars [] cs before between h)
        (ends (names_in v) between later after same (names_given b (vars ++ map bound_sort cs) v between later k)))
    names_given (for_all at vs b) vars u before after h = quantifier_given true (term_at b) vs (λ ws. judge_term signature (vars ++ ws) b) u before after (λ ws. names_given b (vars ++ ws)) h
    names_given (there_exists at vs b) vars u before after h = quantifier_given false (term_at b) vs (λ ws. judge_term signature (vars ++ ws) b) u before after (λ ws. names_given b (vars ++ ws)) h
    names_given (match_with at b cs) vars u before after (v, b1, h, (i, b2, e, (ds, b3, k, (x, b4, covered, (s, b5, first, (made, same)))))) =
        subst (λ z. From before (names_in z) after) (sym made)
        (named_append (names_in v) (names_in_cases (plain_cases ds)) before b1 after (names_given b vars v before b1 h)
        (ends (names_in_cases (plain_cases ds)) b1 b3 after (same ∙ first.1 ∙ covered.1) (begins (names_in_cases (plain_cases ds)) b1 b2 b3 e.1 (given_by_cases cs vars i (plain_sort v) None ds b2 b3 k))))
    names_given (annotated at b ns) vars u before after (v, between, h, (ms, later, k, (made, same))) =
        subst (λ z. From before (names_in z) after) (sym made)
        (named_append (names_in v) (names_in_notes v (plain_notes ms)) before between after (names_given b vars v before between h)
        (ends (names_in_notes v (plain_notes ms)) between later after same (given_by_notes ns vars v ms between later k)))

    pub given_each : (ts : Terms) (vars : List (ℕ × Sort)) (us : List PlainTerm) (before after : List ℕ) → judge_terms signature vars ts before (well_sorted us after) → From before (names_in_each (plain_terms us)) after
    given_each no_terms vars us before after (made, same) = subst (λ z. From before (names_in_each (plain_terms z)) after) (sym made) same
    given_each (with_term t ts) vars us before after (u, between, h, (rest, later, k, (made, same))) =
        subst (λ z. From before (names_in_each (plain_terms z)) after) (sym made)
        (named_append (names_in u) (names_in_each (plain_terms rest)) before between after (names_given t vars u before between h)
        (ends (names_in_each (plain_terms rest)) between later after same (given_each ts vars rest between later k)))

    given_bound : (bs : Bindings) (vars : List (ℕ × Sort)) (others : List ℕ) (cs : List Binding) (before after : List ℕ) → judge_bindings signature vars others bs before (well_sorted cs after) → GivenByBound before cs after
    given_bound no_bindings vars others cs before after (made, same) = subst (λ z. GivenByBound before z after) (sym made) same
    given_bound (with_binding at x t bs) vars others cs before after (c, between, (w, start, apart, (v, next, h, (e, f))), (rest, later, k, (made, same))) =
        subst (λ z. GivenByBound before z after) (sym made)
        (named_append (names_in c.1) (names_in_each (plain_terms (map (λ (b : Binding). b.1) rest))) before between after
        (subst (λ (z : Binding). From before (names_in z.1) between) (sym e) (ends (names_in v) before next between f (begins (names_in v) before start next apart.1 (names_given t vars v start next h))))
        (ends (names_in_each (plain_terms (map (λ (b : Binding). b.1) rest))) between later after same (given_bound bs vars (others ++ x.name ∷ []) rest between later k)))

    given_by_cases : (cs : Cases) (vars : List (ℕ × Sort)) (i : Instance) (of : Sort) (first : Option Sort) (ds : List Case) (before after : List ℕ)
        → judge_cases signature vars i of first cs before (well_sorted ds after) → GivenByCases before ds after
    given_by_cases no_cases vars i of first ds before after (made, same) = subst (λ z. GivenByCases before z after) (sym made) same
    given_by_cases (with_case at p t cs) vars i of first ds before after (c, between, (q, b1, typed, (u, b2, h, (x, b3, checked, (f, g)))), (rest, later, k, (made, same))) =
        subst (λ z. GivenByCases before z after) (sym made)
        (named_append (names_in c.1) (names_in_cases (plain_cases rest)) before between after
        (subst (λ (z : Case). From before (names_in z.1) between) (sym f)
        (ends (names_in u) before b2 between (g ∙ checked.1) (begins (names_in u) before b1 b2 (none-typed_pattern i p before (well_sorted q b1) typed).0 (names_given t (vars ++ pattern_variables i of q) u b1 b2 h))))
        (ends (names_in_cases (plain_cases rest)) between later after same (given_by_cases cs vars i of (or_else first (Some (plain_sort c.1))) rest between later k)))

    given_by_notes : (ns : Notes) (vars : List (ℕ × Sort)) (u : PlainTerm) (ms : List PlainNote) (before after : List ℕ) → judge_notes signature vars u ns before (well_sorted ms after) → GivenByNotes u before ms after
    given_by_notes no_notes vars u ms before after (made, same) = subst (λ z. GivenByNotes u before z after) (sym made) same
    given_by_notes (with_note n ns) vars u ms before after (m, between, h, (rest, later, k, (made, same))) =
        subst (λ z. GivenByNotes u before z after) (sym made)
        (named_append (names_in_note u m) (names_in_notes u (plain_notes rest)) before between after (given_by_note n vars u m before between h)
        (ends (names_in_notes u (plain_notes rest)) between later after same (given_by_notes ns vars u rest between later k)))

    given_by_note : (n : Note) (vars : List (ℕ × Sort)) (u : PlainTerm) (m : PlainNote) (before after : List ℕ) → judge_note signature vars u n before (well_sorted m after) → From before (names_in_note u m) after
    given_by_note (named_note t) vars u m before after h = name_given_by u t m before after h
    given_by_note (pattern_note ts) vars u m before after (us, between, h, (made, same)) =
        subst (λ z. From before (names_in_note u z) after) (sym made) (ends (names_in_each (plain_terms us)) before between after same (given_each ts vars us before between h))
    given_by_note (attribute_note a) vars u m before after (made, same) = subst (λ z. From before (names_in_note u z) after) (sym made) same
