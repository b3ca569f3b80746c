-- The typed terms that the rules give apply only functions with numbers below a bound that all live functions are below.
use Rattle.std.proofs.Common.{◌≡◌, ℕ, ◌<◌, Bool, true, false, codes, List, [], ◌∷◌, ◌++◌, map, Option, Some, None, refl, sym, subst}
use Rattle.std.specs.List.{All}
use Rattle.std.specs.Option.{option_map}
use Rattle.judgement.specs.Judging.{Judging, well_sorted}
use Rattle.sig_table.specs.declared.theories.NameForm.{NameForm}
use Rattle.sig_table.specs.declared.theories.NameForm.TheVariants as form
use Rattle.lex_core.specs.declared.token.Tok.{Tok}
use Rattle.scope_stack.specs.Levels.{found, live}
use Rattle.term_grammar.specs.Syntax as syntax
use Rattle.term_grammar.specs.Syntax.{Identifier, symbol, indexed, qualified_at, constant, qualified_term, application, let_in, for_all, there_exists, match_with, annotated, term_at, Terms, no_terms, with_term, Bindings, no_bindings, with_binding, Cases, no_cases, with_case, Notes, no_notes, with_note, Note, named_note, pattern_note, attribute_note}
use Rattle.sort_store.specs.Tree.{Sort}
use Rattle.term_store.specs.declared.parts.Applied.{Applied}
use Rattle.term_store.specs.SoundTerms.{AppliesBelow, CasesApplyBelow, EachAppliesBelow, IsFunBelow, NoteAppliesBelow, NotesApplyBelow}
use Rattle.term_store.specs.Term.{PlainTerm, plain_sort, plain_terms}
use Rattle.theory_core.specs.TheorySymbols.{form_of}
use Rattle.typer.specs.BitVectors.{bits_form, index_of}
use Rattle.typer.specs.Declarations.{Declarations, FunDeclaration}
use Rattle.typer.specs.FunctionSymbols.{Signature, Function, theory, bits, declared, function_of, indexed_function, if_plain, if_indexed, tested, text_of}
use Rattle.typer.specs.MatchRules.{Instance, pattern_variables}
use Rattle.typer.specs.SortSymbols.{is_text, or_else}
use Rattle.typer.specs.TermRules.{Binding, Case, PlainNote, apply_head, bound, bound_sort, fun_of, identifier_of, judge_application, judge_bindings, judge_cases, judge_function, judge_head, judge_indexed_by, judge_note, judge_notes, judge_quantifier, judge_symbol, judge_term, judge_terms, judge_variables, plain_cases, plain_notes}
use Rattle.typer.proofs.Instances.{tested_live}
use Rattle.typer.proofs.NameSteps.{lookup_all}

-- each live function has a number below the bound
abbrev pub AreFunctionsBelow : ℕ → Declarations → Type 0
AreFunctionsBelow n declarations = All (λ (d : ℕ × FunDeclaration). d.1.number.0 < n) (live declarations.funs)

module _ (n : ℕ) (signature : Signature) (below : AreFunctionsBelow n signature.declarations) where
  abbrev IsBelow : Option Function → Type 0
  IsBelow None = Unit {0}
  IsBelow (Some f) = IsFunBelow n (fun_of f)

  plain_below : (o : Option NameForm) (f : Function) → IsFunBelow n (fun_of f) → IsBelow (if_plain o f)
  plain_below (Some form.Plain) f h = h
  plain_below (Some form.Indexed) f h = tt
  plain_below None f h = tt

  indexed_below : (o : Option NameForm) (f : Function) → IsFunBelow n (fun_of f) → IsBelow (if_indexed o f)
  indexed_below (Some form.Plain) f h = tt
  indexed_below (Some form.Indexed) f h = h
  indexed_below None f h = tt

  live_below : (o : Option FunDeclaration) (name : ℕ) → found name signature.declarations.funs ≡ o → IsBelow (option_map declared o)
  live_below None name e = tt
  live_below (Some f) name e = lookup_all (λ (d : ℕ × FunDeclaration). d.1.number.0 < n) name (live signature.declarations.funs) f below e

  below_or_else : (a b : Option Function) → IsBelow a → IsBelow b → IsBelow (or_else a b)
  below_or_else (Some f) b h k = h
  below_or_else None b h k = k

  function_below : (name : ℕ) → IsBelow (function_of signature name)
  function_below name =
      below_or_else _ _ (below_or_else _ _ (plain_below (form_of signature.theories (text_of signature name)) (theory (text_of signature name)) tt)
      (plain_below (bits_form signature.theories (text_of signature name)) (bits (text_of signature name) []) tt)) (live_below (found name signature.declarations.funs) name refl)

  indexed_function_below : (name : ℕ) (is : List Tok) → IsBelow (indexed_function signature name is)
  indexed_function_below name is =
      below_or_else _ _ (indexed_below (form_of signature.theories (text_of signature name)) (theory (text_of signature name)) tt)
      (indexed_below (bits_form signature.theories (text_of signature name)) (bits (text_of signature name) (map (index_of signature.texts) is)) tt)

  -- the constructor of a tester is live
  tested_below : (is : List Tok) (c : ℕ × FunDeclaration) → tested signature is ≡ Some c → c.1.number.0 < n
  tested_below is c e = let t = tested_live signature is c e in lookup_all (λ (d : ℕ × FunDeclaration). d.1.number.0 < n) c.0 (live signature.declarations.funs) c.1 below t.0

  -- a function symbol with arguments that apply only functions below the bound
  module _ (at : ℕ) (args : List PlainTerm) (asked : Option Sort) (name : ℕ) (each : EachAppliesBelow n (plain_terms args)) where
    applied_below : (f : Function) (indices : List ℕ) (head : Applied × Sort) (before after : List ℕ) → IsBelow (Some f)
        → judge_function signature f at (map plain_sort args) asked name indices before (well_sorted head after) → AppliesBelow n (apply_head head args)
    applied_below f indices head before after h (t, between, rank, (made, same)) = subst (λ (z : Applied × Sort). AppliesBelow n (apply_head z args)) (sym made) (h, each)

    head_below : (head : Applied × Sort) (before after : List ℕ) → judge_head signature at (map plain_sort args) asked name before (well_sorted head after) → AppliesBelow n (apply_head head args)
    head_below head before after (f, between, (e, same), h) = applied_below f [] head between after (subst IsBelow e (function_below name)) h

    indexed_head_below : (b : Bool) (is : List Tok) (head : Applied × Sort) (before after : List ℕ) → judge_indexed_by b signature at (map plain_sort args) asked name is before (well_sorted head after)
        → AppliesBelow n (apply_head head args)
    indexed_head_below true is head before after (c, between, (e, same), (t, later, rank, (made, g))) = subst (λ (z : Applied × Sort). AppliesBelow n (apply_head z args)) (sym made) (tested_below is c e, each)
    indexed_head_below false is head before after (f, between, (e, same), (x, later, takes, h)) = applied_below f _ head later after (subst IsBelow e (indexed_function_below name is)) h

  module _ (vars : List (ℕ × Sort)) where
    symbol_below : (o : Option Sort) (at : ℕ) (args : List PlainTerm) (asked : Option Sort) (name : ℕ) (u : PlainTerm) (before after : List ℕ) → EachAppliesBelow n (plain_terms args)
        → judge_symbol signature o at args asked name before (well_sorted u after) → AppliesBelow n u
    symbol_below (Some s) at args asked name u before after each (x, between, bare, (made, same)) = subst (AppliesBelow n) (sym made) tt
    symbol_below None at args asked name u before after each (head, between, h, (made, same)) = subst (AppliesBelow n) (sym made) (head_below at args asked name each head before between h)

    application_below : (i : Identifier) (at : ℕ) (args : List PlainTerm) (asked : Option Sort) (u : PlainTerm) (before after : List ℕ) → EachAppliesBelow n (plain_terms args)
        → judge_application signature vars at args asked i before (well_sorted u after) → AppliesBelow n u
    application_below (symbol t) at args asked u before after each h = symbol_below (bound vars t.name) at args asked t.name u before after each h
    application_below (indexed _ t is) at args asked u before after each (head, between, h, (made, same)) =
        subst (AppliesBelow n) (sym made) (indexed_head_below at args asked t.name each (is_text signature.texts (codes "is") t.name) is head before between h)

  quantifier_below : (all : Bool) (at : ℕ) (variables : Judging (List (ℕ × Sort))) (body : List (ℕ × Sort) → Judging PlainTerm) (u : PlainTerm) (before after : List ℕ)
      → ((vs : List (ℕ × Sort)) (v : PlainTerm) (first second : List ℕ) → body vs first (well_sorted v second) → AppliesBelow n v)
      → judge_quantifier all at variables body before (well_sorted u after) → AppliesBelow n u
  quantifier_below all at variables body u before after inner (vs, between, h, (v, later, k, (x, last, checked, (made, same)))) = subst (AppliesBelow n) (sym made) (inner vs v between later k)

  abbrev EachBound : List Binding → Type 0
  EachBound bs = EachAppliesBelow n (plain_terms (map (λ (b : Binding). b.1) bs))

  mutual
    pub applies_below : (raw : syntax.Term) (vars : List (ℕ × Sort)) (u : PlainTerm) (before after : List ℕ) → judge_term signature vars raw before (well_sorted u after) → AppliesBelow n u
    applies_below (constant t) vars u before after (s, between, h, (made, same)) = subst (AppliesBelow n) (sym made) tt
    applies_below (qualified_term q) vars u before after (asked, between, h, k) = application_below vars (identifier_of q) (qualified_at q) [] asked u between after tt k
    applies_below (application at q ts) vars u before after (asked, between, h, (args, later, k, l)) =
        application_below vars (identifier_of q) at args asked u later after (each_applies_below ts vars args between later k) l
    applies_below (let_in at bs b) vars u before after (cs, between, h, (v, later, k, (made, same))) =
        subst (AppliesBelow n) (sym made) (each_bound_below bs vars [] cs before between h, applies_below b (vars ++ map bound_sort cs) v between later k)
    applies_below (for_all at vs b) vars u before after h =
        quantifier_below true (term_at b) (judge_variables signature vs) (λ ws. judge_term signature (vars ++ ws) b) u before after (λ ws. applies_below b (vars ++ ws)) h
    applies_below (there_exists at vs b) vars u before after h =
        quantifier_below false (term_at b) (judge_variables signature vs) (λ ws. judge_term signature (vars ++ ws) b) u before after (λ ws. applies_below b (vars ++ ws)) h
    applies_below (match_with at b cs) vars u before after (v, b1, h, (i, b2, e, (ds, b3, k, (x, b4, covered, (s, b5, first, (made, same)))))) =
        subst (AppliesBelow n) (sym made) (applies_below b vars v before b1 h, cases_apply_below cs vars i (plain_sort v) None ds b2 b3 k)
    applies_below (annotated at b ns) vars u before after (v, between, h, (ms, later, k, (made, same))) =
        subst (AppliesBelow n) (sym made) (applies_below b vars v before between h, notes_apply_below ns vars v ms between later k)

    pub each_applies_below : (ts : Terms) (vars : List (ℕ × Sort)) (us : List PlainTerm) (before after : List ℕ) → judge_terms signature vars ts before (well_sorted us after) → EachAppliesBelow n (plain_terms us)
    each_applies_below no_terms vars us before after (made, same) = subst (λ z. EachAppliesBelow n (plain_terms z)) (sym made) tt
    each_applies_below (with_term t ts) vars us before after (u, between, h, (rest, later, k, (made, same))) =
        subst (λ z. EachAppliesBelow n (plain_terms z)) (sym made) (applies_below t vars u before between h, each_applies_below ts vars rest between later k)

    cases_apply_below : (cs : Cases) (vars : List (ℕ × Sort)) (i : Instance) (of : Sort) (first : Option Sort) (ds : List Case) (before after : List ℕ)
        → judge_cases signature vars i of first cs before (well_sorted ds after) → CasesApplyBelow n (plain_cases ds)
    cases_apply_below no_cases vars i of first ds before after (made, same) = subst (λ z. CasesApplyBelow n (plain_cases z)) (sym made) tt
    cases_apply_below (with_case at p t cs) vars i of first ds before after (c, between, (q, b1, typed, (u, b2, h, (x, b3, checked, (f, g)))), (rest, later, k, (made, same))) =
        subst (λ z. CasesApplyBelow n (plain_cases z)) (sym made)
        (subst (λ (z : Case). AppliesBelow n z.1) (sym f) (applies_below t (vars ++ pattern_variables i of q) u b1 b2 h), cases_apply_below cs vars i of (or_else first (Some (plain_sort c.1))) rest between later k)

    each_bound_below : (bs : Bindings) (vars : List (ℕ × Sort)) (others : List ℕ) (cs : List Binding) (before after : List ℕ) → judge_bindings signature vars others bs before (well_sorted cs after) → EachBound cs
    each_bound_below no_bindings vars others cs before after (made, same) = subst EachBound (sym made) tt
    each_bound_below (with_binding at x t bs) vars others cs before after (c, between, (w, start, apart, (v, next, h, (e, f))), (rest, later, k, (made, same))) =
        subst EachBound (sym made) (subst (λ (z : Binding). AppliesBelow n z.1) (sym e) (applies_below t vars v start next h), each_bound_below bs vars (others ++ x.name ∷ []) rest between later k)

    notes_apply_below : (ns : Notes) (vars : List (ℕ × Sort)) (u : PlainTerm) (ms : List PlainNote) (before after : List ℕ) → judge_notes signature vars u ns before (well_sorted ms after) → NotesApplyBelow n (plain_notes ms)
    notes_apply_below no_notes vars u ms before after (made, same) = subst (λ z. NotesApplyBelow n (plain_notes z)) (sym made) tt
    notes_apply_below (with_note m ns) vars u ms before after (v, between, h, (rest, later, k, (made, same))) =
        subst (λ z. NotesApplyBelow n (plain_notes z)) (sym made) (note_applies_below m vars u v before between h, notes_apply_below ns vars u rest between later k)

    note_applies_below : (m : Note) (vars : List (ℕ × Sort)) (u : PlainTerm) (v : PlainNote) (before after : List ℕ) → judge_note signature vars u m before (well_sorted v after) → NoteAppliesBelow n v
    note_applies_below (named_note t) vars u v before after (seen, start, h, (x, between, may, (y, later, k, (made, same)))) = subst (NoteAppliesBelow n) (sym made) tt
    note_applies_below (pattern_note ts) vars u v before after (us, between, h, (made, same)) = subst (NoteAppliesBelow n) (sym made) (each_applies_below ts vars us before between h)
    note_applies_below (attribute_note a) vars u v before after (made, same) = subst (NoteAppliesBelow n) (sym made) tt
