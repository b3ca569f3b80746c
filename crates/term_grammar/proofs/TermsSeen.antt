-- What is known of a tree that reads as a term.
use Rattle.std.proofs.Common.{◌≡◌, ℕ, List, [], Option, Some, None, Result, Ok, Err, IsOk, IsTrue, is_ok, refl, ap, sym, subst, ◌∙◌}
use Rattle.std.specs.Result.{result_unwrap_or}
use Rattle.lex_core.specs.declared.token.Tok.{Tok}
use Rattle.sexp_core.specs.Sexp.{Sexp, atom, list, Sexps, nil, cons}
use Rattle.sexp_core.specs.Parts.{whole}
use Rattle.sexp_core.specs.declared.parts.Part.{Part}
use Rattle.term_grammar.specs.declared.term_form.TermForm.{TermForm}
use Rattle.term_grammar.specs.declared.term_form.TermForm.TheVariants as form
use Rattle.term_grammar.specs.Syntax.{symbol, named_sort, unqualified, SortedSymbol, Term, constant, qualified_term, application, let_in, for_all, there_exists, match_with, annotated, no_terms, with_term, Bindings, no_bindings, with_binding, Cases, no_cases, with_case, Notes, no_notes, with_note}
use Rattle.term_grammar.specs.declared.term_form.NoteForm.{NoteForm}
use Rattle.term_grammar.specs.declared.term_form.NoteForm.TheVariants as note
use Rattle.term_grammar.specs.TermForms.{named_parts, is_pattern, case_parts, note_parts, term_form}
use Rattle.term_grammar.specs.Reads.{byte_of, made_of_two, no_token, pattern_of, with_sorted, read_sort, read_qualified, read_sorted, read_term, read_terms, read_bindings, read_cases, read_notes, with_named, with_pattern, with_attribute}
use Rattle.term_grammar.specs.FormReading.{term_by}
use Rattle.term_grammar.specs.NoteForms.{note_of, NoteReads}
use Rattle.term_grammar.specs.Readings.{sort_of, term_of, terms_of, qualified_of, bindings_of, sorted_of, cases_of, notes_of}
use Rattle.term_grammar.proofs.FormsRead.{read_term-form}
use Rattle.term_grammar.proofs.ListsRead.{bindings_by, read_bindings-first, sorted_by, read_sorted-first, cases_by, read_cases-first, notes_by, read_notes-first}
use Rattle.term_grammar.proofs.SortsSeen.{made_of_ok, made_of_two_ok}
use Rattle.term_grammar.proofs.TokenKinds.{no_test}
use Rattle.term_grammar.proofs.PartsFound.{at_part, case_found}

-- what the form of a tree that reads as a term tells of the parts
abbrev pub Seen : Sexp Tok → Term → TermForm → Type 0
Seen t u (form.Constant c) = u ≡ constant c
Seen t u form.Qualified = IsOk (read_qualified t) × (u ≡ qualified_term (qualified_of t))
Seen t u (form.Application h ts) = IsOk (read_qualified (whole h)) × (IsOk (read_terms ts) × (u ≡ application (byte_of t) (qualified_of (whole h)) (terms_of ts)))
Seen t u (form.Let bs b) = IsOk (read_bindings bs) × (IsOk (read_term (whole b)) × (u ≡ let_in (byte_of t) (bindings_of bs) (term_of (whole b))))
Seen t u (form.Forall vs b) = IsOk (read_sorted vs) × (IsOk (read_term (whole b)) × (u ≡ for_all (byte_of t) (sorted_of vs) (term_of (whole b))))
Seen t u (form.Exists vs b) = IsOk (read_sorted vs) × (IsOk (read_term (whole b)) × (u ≡ there_exists (byte_of t) (sorted_of vs) (term_of (whole b))))
Seen t u (form.Match b cs) = IsOk (read_term (whole b)) × (IsOk (read_cases cs) × (u ≡ match_with (byte_of t) (term_of (whole b)) (cases_of cs)))
Seen t u (form.Annotated b ns) = IsOk (read_term (whole b)) × (IsOk (read_notes ns) × (u ≡ annotated (byte_of t) (term_of (whole b)) (notes_of ns)))

abbrev term_or : Result Term ℕ → Term
term_or r = result_unwrap_or r (constant no_token)

form_seen : (t : Sexp Tok) (f : TermForm) → IsOk (term_by t (Ok f)) → Seen t (term_or (term_by t (Ok f))) f
form_seen t (form.Constant c) h = refl
form_seen t form.Qualified h = made_of_ok qualified_term (read_qualified t) (unqualified (symbol no_token)) (constant no_token) h
form_seen t (form.Application q ts) h = made_of_two_ok _ _ _ _ _ _ h
form_seen t (form.Let bs b) h = made_of_two_ok _ _ _ _ _ _ h
form_seen t (form.Forall vs b) h = made_of_two_ok _ _ _ _ _ _ h
form_seen t (form.Exists vs b) h = made_of_two_ok _ _ _ _ _ _ h
form_seen t (form.Match b cs) h = made_of_two_ok _ _ _ _ _ _ h
form_seen t (form.Annotated b ns) h = made_of_two_ok _ _ _ _ _ _ h

pub term_seen : (t : Sexp Tok) (r : Result TermForm ℕ) (f : TermForm) → r ≡ term_form t → r ≡ Ok f → IsOk (read_term t) → Seen t (term_of t) f
term_seen t r f d e h =
    let r : read_term t ≡ term_by t (Ok f) = read_term-form t ∙ ap (term_by t) (sym d ∙ e) in
    let ok : IsOk (term_by t (Ok f)) = sym (ap (λ (x : Result Term ℕ). is_ok x) r) ∙ h in
    let P : Term → Type 0 = λ u. Seen t u f in
    subst P (sym (ap term_or r)) (form_seen t f ok)

pub unformed : (t : Sexp Tok) (at : ℕ) → term_form t ≡ Err at → IsOk (read_term t) → ⊥
unformed t at e h = no_test (sym (ap (λ (x : Result Term ℕ). is_ok x) (read_term-form t ∙ ap (term_by t) e)) ∙ h)

terms_more : (t : Sexp Tok) (us : Sexps Tok) → IsOk (read_terms (cons t us))
    → IsOk (read_term t) × (IsOk (read_terms us) × (terms_of (cons t us) ≡ with_term (term_of t) (terms_of us)))
unfolding read_term
terms_more t us h = made_of_two_ok with_term (read_term t) (read_terms us) (constant no_token) no_terms no_terms h

pub terms_begin : (ts : Sexps Tok) (t : Sexp Tok) (us : Sexps Tok) → IsOk (read_terms ts) → ts ≡ cons t us
    → IsOk (read_term t) × (IsOk (read_terms us) × (terms_of ts ≡ with_term (term_of t) (terms_of us)))
terms_begin ts t us h e =
    let s = terms_more t us (sym (ap (λ (x : Sexps Tok). is_ok (read_terms x)) e) ∙ h) in
    (s.0, (s.1.0, ap terms_of e ∙ s.1.1))

no_terms_seen : terms_of nil ≡ no_terms
unfolding read_term
no_terms_seen = refl

pub terms_end : (ts : Sexps Tok) → ts ≡ nil → terms_of ts ≡ no_terms
terms_end ts e = ap terms_of e ∙ no_terms_seen

no_bindings_seen : bindings_of nil ≡ no_bindings
unfolding read_term
no_bindings_seen = refl

pub bindings_end : (ts : Sexps Tok) → ts ≡ nil → bindings_of ts ≡ no_bindings
bindings_end ts e = ap bindings_of e ∙ no_bindings_seen

atom_seen : (w : Tok) (us : Sexps Tok) → bindings_of (cons (atom w) us) ≡ no_bindings
unfolding read_term
atom_seen w us = refl

pub binding_atom : (ts : Sexps Tok) (w : Tok) (us : Sexps Tok) → ts ≡ cons (atom w) us → bindings_of ts ≡ no_bindings
binding_atom ts w us e = ap bindings_of e ∙ atom_seen w us

abbrev bindings_or : Result Bindings ℕ → Bindings
bindings_or r = result_unwrap_or r no_bindings

pub binding_none : (ts : Sexps Tok) (b : ℕ) (ps us : Sexps Tok) → ts ≡ cons (list b ps) us → named_parts ps ≡ None → bindings_of ts ≡ no_bindings
binding_none ts b ps us e f = ap bindings_of e ∙ ap bindings_or (read_bindings-first b ps us ∙ ap (λ (o : Option (Tok × Part)). bindings_by b o us) f)

pub binding_begin : (ts : Sexps Tok) (b : ℕ) (ps us : Sexps Tok) (x : Tok) (p : Part) → IsOk (read_bindings ts) → ts ≡ cons (list b ps) us → named_parts ps ≡ Some (x, p)
    → IsOk (read_term (whole p)) × (IsOk (read_bindings us) × (bindings_of ts ≡ with_binding b x (term_of (whole p)) (bindings_of us)))
binding_begin ts b ps us x p h e f =
    let r : read_bindings ts ≡ made_of_two (with_binding b x) (read_term (whole p)) (read_bindings us) =
    ap read_bindings e ∙ read_bindings-first b ps us ∙ ap (λ (o : Option (Tok × Part)). bindings_by b o us) f in
    let ok : IsOk (made_of_two (with_binding b x) (read_term (whole p)) (read_bindings us)) = sym (ap (λ (y : Result Bindings ℕ). is_ok y) r) ∙ h in
    let m = made_of_two_ok (with_binding b x) (read_term (whole p)) (read_bindings us) (constant no_token) no_bindings no_bindings ok in
    (m.0, (m.1.0, ap bindings_or r ∙ m.1.1))

no_cases_seen : cases_of nil ≡ no_cases
unfolding read_term
no_cases_seen = refl

pub cases_end : (ts : Sexps Tok) → ts ≡ nil → cases_of ts ≡ no_cases
cases_end ts e = ap cases_of e ∙ no_cases_seen

case_atom_seen : (w : Tok) (us : Sexps Tok) → cases_of (cons (atom w) us) ≡ no_cases
unfolding read_term
case_atom_seen w us = refl

pub case_atom : (ts : Sexps Tok) (w : Tok) (us : Sexps Tok) → ts ≡ cons (atom w) us → cases_of ts ≡ no_cases
case_atom ts w us e = ap cases_of e ∙ case_atom_seen w us

abbrev cases_or : Result Cases ℕ → Cases
cases_or r = result_unwrap_or r no_cases

pub case_none : (ts : Sexps Tok) (b : ℕ) (ps us : Sexps Tok) → ts ≡ cons (list b ps) us → case_parts ps ≡ None → cases_of ts ≡ no_cases
case_none ts b ps us e f = ap cases_of e ∙ ap cases_or (read_cases-first b ps us ∙ ap (λ (o : Option (Part × Part)). cases_by b o us) f)

pub case_begin : (ts : Sexps Tok) (b : ℕ) (ps us : Sexps Tok) (x p : Part) → IsOk (read_cases ts) → ts ≡ cons (list b ps) us → case_parts ps ≡ Some (x, p)
    → IsOk (read_term (whole p)) × (IsOk (read_cases us) × (cases_of ts ≡ with_case b (pattern_of (whole x)) (term_of (whole p)) (cases_of us)))
case_begin ts b ps us x p h e f =
    let r : read_cases ts ≡ made_of_two (with_case b (pattern_of (whole x))) (read_term (whole p)) (read_cases us) =
    ap read_cases e ∙ read_cases-first b ps us ∙ ap (λ (o : Option (Part × Part)). cases_by b o us) f in
    let ok : IsOk (made_of_two (with_case b (pattern_of (whole x))) (read_term (whole p)) (read_cases us)) = sym (ap (λ (y : Result Cases ℕ). is_ok y) r) ∙ h in
    let m = made_of_two_ok (with_case b (pattern_of (whole x))) (read_term (whole p)) (read_cases us) (constant no_token) no_cases no_cases ok in
    (m.0, (m.1.0, ap cases_or r ∙ m.1.1))

pub pattern_seen : (us : Sexps Tok) (x p : Part) → case_parts us ≡ Some (x, p) → IsTrue (is_pattern (whole x))
pattern_seen us x p e = at_part (case_parts us) (x, p) _ e (case_found us)

abbrev notes_or : Result Notes ℕ → Notes
notes_or r = result_unwrap_or r no_notes

pub notes_end : (ts : Sexps Tok) → note_parts ts ≡ None → notes_of ts ≡ no_notes
notes_end ts e = ap notes_or (read_notes-first ts ∙ ap notes_by e)

notes_made : (ts : Sexps Tok) (o : Option (NoteForm × Sexps Tok)) → note_parts ts ≡ o → read_notes ts ≡ notes_by o
notes_made ts o e = read_notes-first ts ∙ ap notes_by e

note_made : (f : NoteForm) (us : Sexps Tok) → IsOk (notes_by (Some (f, us)))
    → NoteReads f × (IsOk (read_notes us) × (notes_or (notes_by (Some (f, us))) ≡ with_note (note_of f) (notes_of us)))
note_made (note.Named n) us h = let m = made_of_ok (with_named n) (read_notes us) no_notes no_notes h in (tt, m)
note_made (note.Pattern vs) us h = made_of_two_ok with_pattern (read_terms vs) (read_notes us) no_terms no_notes no_notes h
note_made (note.Attribute k v) us h = let m = made_of_ok (with_attribute k v) (read_notes us) no_notes no_notes h in (tt, m)

pub notes_begin : (ts : Sexps Tok) (f : NoteForm) (us : Sexps Tok) → note_parts ts ≡ Some (f, us) → IsOk (read_notes ts)
    → NoteReads f × (IsOk (read_notes us) × (notes_of ts ≡ with_note (note_of f) (notes_of us)))
notes_begin ts f us e h =
    let r : read_notes ts ≡ notes_by (Some (f, us)) = notes_made ts _ e in
    let m = note_made f us (sym (ap (λ (y : Result Notes ℕ). is_ok y) r) ∙ h) in
    (m.0, (m.1.0, ap notes_or r ∙ m.1.1))

no_variables_seen : sorted_of nil ≡ []
unfolding read_sorted
no_variables_seen = refl

pub variables_end : (ts : Sexps Tok) → ts ≡ nil → sorted_of ts ≡ []
variables_end ts e = ap sorted_of e ∙ no_variables_seen

variable_atom_seen : (w : Tok) (us : Sexps Tok) → sorted_of (cons (atom w) us) ≡ []
unfolding read_sorted
variable_atom_seen w us = refl

pub variable_atom : (ts : Sexps Tok) (w : Tok) (us : Sexps Tok) → ts ≡ cons (atom w) us → sorted_of ts ≡ []
variable_atom ts w us e = ap sorted_of e ∙ variable_atom_seen w us

abbrev sorted_or : Result (List SortedSymbol) ℕ → List SortedSymbol
sorted_or r = result_unwrap_or r []

pub variable_none : (ts : Sexps Tok) (b : ℕ) (ps us : Sexps Tok) → ts ≡ cons (list b ps) us → named_parts ps ≡ None → sorted_of ts ≡ []
variable_none ts b ps us e f = ap sorted_of e ∙ ap sorted_or (read_sorted-first b ps us ∙ ap (λ (o : Option (Tok × Part)). sorted_by b o us) f)

pub variable_begin : (ts : Sexps Tok) (b : ℕ) (ps us : Sexps Tok) (x : Tok) (p : Part) → IsOk (read_sorted ts) → ts ≡ cons (list b ps) us → named_parts ps ≡ Some (x, p)
    → IsOk (read_sort (whole p)) × (IsOk (read_sorted us) × (sorted_of ts ≡ with_sorted b x (sort_of (whole p)) (sorted_of us)))
variable_begin ts b ps us x p h e f =
    let r : read_sorted ts ≡ made_of_two (with_sorted b x) (read_sort (whole p)) (read_sorted us) =
    ap read_sorted e ∙ read_sorted-first b ps us ∙ ap (λ (o : Option (Tok × Part)). sorted_by b o us) f in
    let ok : IsOk (made_of_two (with_sorted b x) (read_sort (whole p)) (read_sorted us)) = sym (ap (λ (y : Result (List SortedSymbol) ℕ). is_ok y) r) ∙ h in
    let m = made_of_two_ok (with_sorted b x) (read_sort (whole p)) (read_sorted us) (named_sort (symbol no_token)) [] [] ok in
    (m.0, (m.1.0, ap sorted_or r ∙ m.1.1))
