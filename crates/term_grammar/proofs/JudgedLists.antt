-- Whether a list reads, by its first tree and the others.
use Rattle.std.proofs.Common.{◌≡◌, ℕ, Option, Some, None, Result, Ok, refl, ap, ◌∙◌}
use Rattle.lex_core.specs.declared.token.Tok.{Tok}
use Rattle.sexp_core.specs.Sexp.{Sexp, atom, list, Sexps, nil, cons}
use Rattle.sexp_core.specs.Parts.{whole}
use Rattle.sexp_core.specs.declared.parts.Part.{Part}
use Rattle.term_grammar.specs.declared.term_form.NoteForm.{NoteForm}
use Rattle.term_grammar.specs.declared.term_form.NoteForm.TheVariants as note
use Rattle.term_grammar.specs.Reads.{read_sort, read_sorts, read_sorted, read_term, read_terms, read_bindings, read_cases, read_notes}
use Rattle.term_grammar.specs.TermForms.{named_parts, case_parts, note_parts}
use Rattle.term_grammar.specs.FormReading.{judged, both}
use Rattle.term_grammar.proofs.FormsRead.{judged-made_of, judged-made_of_two}
use Rattle.term_grammar.proofs.FormSizes.{named_parts-size, case_parts-size, note_parts-size}
use Rattle.term_grammar.proofs.ListsRead.{sorted_by, read_sorted-first, bindings_by, read_bindings-first, cases_by, read_cases-first, notes_by, read_notes-first}

pub judged-no_sorts : judged (read_sorts nil) ≡ Ok tt
unfolding read_sort
judged-no_sorts = refl

pub judged-sorts : (t : Sexp Tok) (ts : Sexps Tok) → judged (read_sorts (cons t ts)) ≡ both (judged (read_sort t)) (judged (read_sorts ts))
unfolding read_sort
judged-sorts t ts = judged-made_of_two _ _ _

pub judged-no_sorted : judged (read_sorted nil) ≡ Ok tt
unfolding read_sorted
judged-no_sorted = refl

pub judged-sorted_atom : (t : Tok) (ts : Sexps Tok) → judged (read_sorted (cons (atom t) ts)) ≡ Ok tt
unfolding read_sorted
judged-sorted_atom t ts = refl

abbrev pub sorted_judged_by : Option (Tok × Part) → Sexps Tok → Result (Unit {0}) ℕ
sorted_judged_by None ts = Ok tt
sorted_judged_by (Some p) ts = both (judged (read_sort (whole p.1))) (judged (read_sorted ts))

sorted_judged : (b : ℕ) (o : Option (Tok × Part)) (ts : Sexps Tok) → judged (sorted_by b o ts) ≡ sorted_judged_by o ts
sorted_judged b None ts = refl
sorted_judged b (Some p) ts = judged-made_of_two _ _ _

pub judged-sorted_list : (b : ℕ) (us ts : Sexps Tok) → judged (read_sorted (cons (list b us) ts)) ≡ sorted_judged_by (named_parts us) ts
judged-sorted_list b us ts = ap judged (read_sorted-first b us ts) ∙ sorted_judged b (named_parts us) ts

pub judged-no_terms : judged (read_terms nil) ≡ Ok tt
unfolding read_term
judged-no_terms = refl

pub judged-terms : (t : Sexp Tok) (ts : Sexps Tok) → judged (read_terms (cons t ts)) ≡ both (judged (read_term t)) (judged (read_terms ts))
unfolding read_term
judged-terms t ts = judged-made_of_two _ _ _

pub judged-no_bindings : judged (read_bindings nil) ≡ Ok tt
unfolding read_term
judged-no_bindings = refl

pub judged-binding_atom : (t : Tok) (ts : Sexps Tok) → judged (read_bindings (cons (atom t) ts)) ≡ Ok tt
unfolding read_term
judged-binding_atom t ts = refl

abbrev pub bindings_judged_by : Option (Tok × Part) → Sexps Tok → Result (Unit {0}) ℕ
bindings_judged_by None ts = Ok tt
bindings_judged_by (Some p) ts = both (judged (read_term (whole p.1))) (judged (read_bindings ts))

bindings_judged : (b : ℕ) (o : Option (Tok × Part)) (ts : Sexps Tok) → judged (bindings_by b o ts) ≡ bindings_judged_by o ts
bindings_judged b None ts = refl
bindings_judged b (Some p) ts = judged-made_of_two _ _ _

pub judged-binding_list : (b : ℕ) (us ts : Sexps Tok) → judged (read_bindings (cons (list b us) ts)) ≡ bindings_judged_by (named_parts us) ts
judged-binding_list b us ts = ap judged (read_bindings-first b us ts) ∙ bindings_judged b (named_parts us) ts

pub judged-no_cases : judged (read_cases nil) ≡ Ok tt
unfolding read_term
judged-no_cases = refl

pub judged-case_atom : (t : Tok) (ts : Sexps Tok) → judged (read_cases (cons (atom t) ts)) ≡ Ok tt
unfolding read_term
judged-case_atom t ts = refl

abbrev pub cases_judged_by : Option (Part × Part) → Sexps Tok → Result (Unit {0}) ℕ
cases_judged_by None ts = Ok tt
cases_judged_by (Some p) ts = both (judged (read_term (whole p.1))) (judged (read_cases ts))

cases_judged : (b : ℕ) (o : Option (Part × Part)) (ts : Sexps Tok) → judged (cases_by b o ts) ≡ cases_judged_by o ts
cases_judged b None ts = refl
cases_judged b (Some p) ts = judged-made_of_two _ _ _

pub judged-case_list : (b : ℕ) (us ts : Sexps Tok) → judged (read_cases (cons (list b us) ts)) ≡ cases_judged_by (case_parts us) ts
judged-case_list b us ts = ap judged (read_cases-first b us ts) ∙ cases_judged b (case_parts us) ts

abbrev pub notes_judged_by : Option (NoteForm × Sexps Tok) → Result (Unit {0}) ℕ
notes_judged_by None = Ok tt
notes_judged_by (Some (note.Named n, ts)) = judged (read_notes ts)
notes_judged_by (Some (note.Pattern us, ts)) = both (judged (read_terms us)) (judged (read_notes ts))
notes_judged_by (Some (note.Attribute k v, ts)) = judged (read_notes ts)

notes_judged : (o : Option (NoteForm × Sexps Tok)) → judged (notes_by o) ≡ notes_judged_by o
notes_judged None = refl
notes_judged (Some (note.Named n, ts)) = judged-made_of _ _
notes_judged (Some (note.Pattern us, ts)) = judged-made_of_two _ _ _
notes_judged (Some (note.Attribute k v, ts)) = judged-made_of _ _

pub judged-notes : (ts : Sexps Tok) → judged (read_notes ts) ≡ notes_judged_by (note_parts ts)
judged-notes ts = ap judged (read_notes-first ts) ∙ notes_judged (note_parts ts)

pub ruleset sorts_rules = (judged-no_sorts, judged-sorts)

pub ruleset sorted_rules = (judged-no_sorted, judged-sorted_atom, judged-sorted_list)

pub ruleset terms_rules = (judged-no_terms, judged-terms)

pub ruleset bindings_rules = (judged-no_bindings, judged-binding_atom, judged-binding_list, named_parts-size)

pub ruleset cases_rules = (judged-no_cases, judged-case_atom, judged-case_list, case_parts-size)

pub ruleset notes_rules = (judged-notes, note_parts-size)
