-- A tree reads as its form does.
use Rattle.std.proofs.Common.{◌≡◌, ℕ, Bool, true, false, not, ◌&&◌, if◌then◌else◌, Option, Some, option_and_then, Result, Ok, Err, refl, ap, sym, ◌∙◌}
use Rattle.lex_core.specs.declared.token.Tok.{Tok}
use Rattle.sexp_core.specs.Sexp.{Sexp, atom, list, Sexps, nil, cons}
use Rattle.sexp_core.specs.Parts.{whole}
use Rattle.sexp_core.specs.declared.parts.Part.{Part}
use Rattle.sexp_core.specs.declared.parts.Part.TheVariants as part
use Rattle.term_grammar.specs.declared.words.TermWord.{TermWord}
use Rattle.term_grammar.specs.declared.words.TermWord.TheVariants as word
use Rattle.term_grammar.specs.declared.form.SortForm.{SortForm}
use Rattle.term_grammar.specs.declared.form.SortForm.TheVariants as sort
use Rattle.term_grammar.specs.declared.term_form.TermForm.{TermForm}
use Rattle.term_grammar.specs.declared.term_form.TermForm.TheVariants as term
use Rattle.term_grammar.specs.Words.{is_constant}
use Rattle.term_grammar.specs.FirstParts.{part_of, is_empty, guard}
use Rattle.term_grammar.specs.Syntax.{named_sort, applied_sort, Term, constant, qualified_term, let_in, for_all, there_exists, match_with, annotated}
use Rattle.term_grammar.specs.Forms.{is_identifier, applied_form, sort_form}
use Rattle.term_grammar.specs.TermForms.{is_qualified, are_named, are_cases, are_notes, word_of, word_form, application_form, or_at, term_form}
use Rattle.term_grammar.specs.Reads.{byte_of, made_of, made_of_two, made_of_three, by_word, identifier_of, read_sort, read_sorts, read_sorted, read_qualified, read_term, read_bindings, read_cases, read_notes, read_application, read_let, read_binder, read_match, read_annotation}
use Rattle.term_grammar.specs.FormReading.{sort_by, term_by, judged, both, sort_judged_by, term_judged_by}

pub whole-part_of : (t : Sexp Tok) → whole (part_of t) ≡ t
whole-part_of (atom t) = refl
whole-part_of (list at ts) = refl

applied_reads : (t : Sexp Tok) (h : Part) (ts : Sexps Tok) (q i e : Bool)
    → (if q then Ok (named_sort (identifier_of t)) else if i && not e then made_of (applied_sort (byte_of t) (identifier_of (whole h))) (read_sorts ts) else Err (byte_of t))
    ≡ sort_by t (if q then Ok sort.Identifier else applied_form (byte_of t) (option_and_then (λ _. option_and_then (λ _. Some (h, ts)) (guard (not e))) (guard i)))
applied_reads t h ts true i e = refl
applied_reads t h ts false true true = refl
applied_reads t h ts false true false = refl
applied_reads t h ts false false e = refl

atom_sort : (t : Tok) (q : Bool) → (if q then Ok (named_sort (identifier_of (atom t))) else Err t.at) ≡ sort_by (atom t) (if q then Ok sort.Identifier else Err t.at)
atom_sort t true = refl
atom_sort t false = refl

pub read_sort-form : (t : Sexp Tok) → read_sort t ≡ sort_by t (sort_form t)
unfolding read_sort
read_sort-form (atom t) = atom_sort t (is_identifier (atom t))
read_sort-form (list at nil) = refl
read_sort-form (list at (cons (atom w) ts)) =
    applied_reads (list at (cons (atom w) ts)) (part.Atom w) ts (is_identifier (list at (cons (atom w) ts))) (is_identifier (atom w)) (is_empty ts)
read_sort-form (list at (cons (list b us) ts)) =
    applied_reads (list at (cons (list b us) ts)) (part.List b us) ts (is_identifier (list at (cons (list b us) ts))) (is_identifier (list b us)) (is_empty ts)

-- the tests that close a production
guarded : {A : Type 0} (e n : Bool) (p : A) (f : A → Option TermForm) (r : Result Term ℕ) (t : Sexp Tok) (at : ℕ) → r ≡ term_by t (or_at at (f p))
    → (if not e && n then r else Err at) ≡ term_by t (or_at at (option_and_then f (option_and_then (λ _. option_and_then (λ _. Some p) (guard n)) (guard (not e)))))
guarded true n p f r t at h = refl
guarded false true p f r t at h = h
guarded false false p f r t at h = refl

let_reads : (t : Sexp Tok) (ts : Sexps Tok) → read_let (byte_of t) ts ≡ term_by t (or_at (byte_of t) (word_form word.Let ts))
unfolding read_term
let_reads t nil = refl
let_reads t (cons (atom x) ts) = refl
let_reads t (cons (list b bs) nil) = refl
let_reads t (cons (list b bs) (cons u (cons v vs))) = refl
let_reads t (cons (list b bs) (cons u nil)) =
    guarded (is_empty bs) (are_named bs) (bs, part_of u) (λ p. Some (term.Let p.0 p.1)) _ t (byte_of t) (ap (λ (x : Sexp Tok). made_of_two (let_in (byte_of t)) (read_bindings bs) (read_term x)) (sym (whole-part_of u)))

forall_reads : (t : Sexp Tok) (ts : Sexps Tok) → read_binder for_all (byte_of t) ts ≡ term_by t (or_at (byte_of t) (word_form word.Forall ts))
unfolding read_term
forall_reads t nil = refl
forall_reads t (cons (atom x) ts) = refl
forall_reads t (cons (list b bs) nil) = refl
forall_reads t (cons (list b bs) (cons u (cons v vs))) = refl
forall_reads t (cons (list b bs) (cons u nil)) =
    guarded (is_empty bs) (are_named bs) (bs, part_of u) (λ p. Some (term.Forall p.0 p.1)) _ t (byte_of t) (ap (λ (x : Sexp Tok). made_of_two (for_all (byte_of t)) (read_sorted bs) (read_term x)) (sym (whole-part_of u)))

exists_reads : (t : Sexp Tok) (ts : Sexps Tok) → read_binder there_exists (byte_of t) ts ≡ term_by t (or_at (byte_of t) (word_form word.Exists ts))
unfolding read_term
exists_reads t nil = refl
exists_reads t (cons (atom x) ts) = refl
exists_reads t (cons (list b bs) nil) = refl
exists_reads t (cons (list b bs) (cons u (cons v vs))) = refl
exists_reads t (cons (list b bs) (cons u nil)) =
    guarded (is_empty bs) (are_named bs) (bs, part_of u) (λ p. Some (term.Exists p.0 p.1)) _ t (byte_of t) (ap (λ (x : Sexp Tok). made_of_two (there_exists (byte_of t)) (read_sorted bs) (read_term x)) (sym (whole-part_of u)))

match_reads : (t : Sexp Tok) (ts : Sexps Tok) → read_match (byte_of t) ts ≡ term_by t (or_at (byte_of t) (word_form word.Match ts))
unfolding read_term
match_reads t nil = refl
match_reads t (cons u nil) = refl
match_reads t (cons u (cons (atom x) ts)) = refl
match_reads t (cons u (cons (list b cs) (cons v vs))) = refl
match_reads t (cons u (cons (list b cs) nil)) =
    guarded (is_empty cs) (are_cases cs) (part_of u, cs) (λ p. Some (term.Match p.0 p.1)) _ t (byte_of t) (ap (λ (x : Sexp Tok). made_of_two (match_with (byte_of t)) (read_term x) (read_cases cs)) (sym (whole-part_of u)))

annotation_reads : (t : Sexp Tok) (ts : Sexps Tok) → read_annotation (byte_of t) ts ≡ term_by t (or_at (byte_of t) (word_form word.Annotation ts))
unfolding read_term
annotation_reads t nil = refl
annotation_reads t (cons u ns) =
    guarded (is_empty ns) (are_notes ns) (part_of u, ns) (λ p. Some (term.Annotated p.0 p.1)) _ t (byte_of t) (ap (λ (x : Sexp Tok). made_of_two (annotated (byte_of t)) (read_term x) (read_notes ns)) (sym (whole-part_of u)))

word_reads : (t : Sexp Tok) (ts : Sexps Tok) (w : TermWord)
    → by_word w (read_let (byte_of t) ts) (read_binder for_all (byte_of t) ts) (read_binder there_exists (byte_of t) ts) (read_match (byte_of t) ts) (read_annotation (byte_of t) ts) (Err (byte_of t))
    ≡ term_by t (or_at (byte_of t) (word_form w ts))
word_reads t ts word.Let = let_reads t ts
word_reads t ts word.Forall = forall_reads t ts
word_reads t ts word.Exists = exists_reads t ts
word_reads t ts word.Match = match_reads t ts
word_reads t ts word.Annotation = annotation_reads t ts
word_reads t ts word.Other = refl

application_reads : (t : Sexp Tok) (h : Part) (ts : Sexps Tok) → read_application (byte_of t) (whole h) ts ≡ term_by t (or_at (byte_of t) (application_form h ts))
unfolding read_term
application_reads t h nil = refl
application_reads t h (cons u us) = refl

list_reads : (t : Sexp Tok) (h : Part) (ts : Sexps Tok) (q i : Bool)
    → (if q then made_of qualified_term (read_qualified t) else if i then read_application (byte_of t) (whole h) ts
    else by_word (word_of (whole h)) (read_let (byte_of t) ts) (read_binder for_all (byte_of t) ts) (read_binder there_exists (byte_of t) ts) (read_match (byte_of t) ts) (read_annotation (byte_of t) ts) (Err (byte_of t)))
    ≡ term_by t (if q then Ok term.Qualified else or_at (byte_of t) (if i then application_form h ts else word_form (word_of (whole h)) ts))
list_reads t h ts true i = refl
list_reads t h ts false true = application_reads t h ts
list_reads t h ts false false = word_reads t ts (word_of (whole h))

atom_reads : (t : Tok) (q c : Bool)
    → (if q then made_of qualified_term (read_qualified (atom t)) else if c then Ok (constant t) else Err t.at)
    ≡ term_by (atom t) (if q then Ok term.Qualified else if c then Ok (term.Constant t) else Err t.at)
atom_reads t true c = refl
atom_reads t false true = refl
atom_reads t false false = refl

pub read_term-form : (t : Sexp Tok) → read_term t ≡ term_by t (term_form t)
unfolding read_term
read_term-form (atom t) = atom_reads t (is_qualified (atom t)) (is_constant t)
read_term-form (list at nil) = refl
read_term-form (list at (cons (atom w) ts)) =
    list_reads (list at (cons (atom w) ts)) (part.Atom w) ts (is_qualified (list at (cons (atom w) ts))) (is_qualified (atom w))
read_term-form (list at (cons (list b us) ts)) =
    list_reads (list at (cons (list b us) ts)) (part.List b us) ts (is_qualified (list at (cons (list b us) ts))) (is_qualified (list b us))

pub judged-made_of : {A B : Type 0} (f : A → B) (r : Result A ℕ) → judged (made_of f r) ≡ judged r
judged-made_of f (Ok a) = refl
judged-made_of f (Err e) = refl

pub judged-made_of_two : {A B C : Type 0} (f : A → B → C) (r : Result A ℕ) (s : Result B ℕ) → judged (made_of_two f r s) ≡ both (judged r) (judged s)
judged-made_of_two f (Ok a) s = judged-made_of (f a) s
judged-made_of_two f (Err e) s = refl

pub judged-made_of_three : {A B C D : Type 0} (f : A → B → C → D) (r : Result A ℕ) (s : Result B ℕ) (t : Result C ℕ) → judged (made_of_three f r s t) ≡ both (judged r) (both (judged s) (judged t))
judged-made_of_three f (Ok a) s t = judged-made_of_two (f a) s t
judged-made_of_three f (Err e) s t = refl

sort_judged : (t : Sexp Tok) (f : Result SortForm ℕ) → judged (sort_by t f) ≡ sort_judged_by f
sort_judged t (Err e) = refl
sort_judged t (Ok sort.Identifier) = refl
sort_judged t (Ok (sort.Applied i ss)) = judged-made_of _ _

pub judged-read_sort : (t : Sexp Tok) → judged (read_sort t) ≡ sort_judged_by (sort_form t)
judged-read_sort t = ap judged (read_sort-form t) ∙ sort_judged t (sort_form t)

term_judged : (t : Sexp Tok) (f : Result TermForm ℕ) → judged (term_by t f) ≡ term_judged_by t f
term_judged t (Err e) = refl
term_judged t (Ok (term.Constant c)) = refl
term_judged t (Ok term.Qualified) = judged-made_of _ _
term_judged t (Ok (term.Application h ts)) = judged-made_of_two _ _ _
term_judged t (Ok (term.Let bs u)) = judged-made_of_two _ _ _
term_judged t (Ok (term.Forall vs u)) = judged-made_of_two _ _ _
term_judged t (Ok (term.Exists vs u)) = judged-made_of_two _ _ _
term_judged t (Ok (term.Match u cs)) = judged-made_of_two _ _ _
term_judged t (Ok (term.Annotated u ns)) = judged-made_of_two _ _ _

pub judged-read_term : (t : Sexp Tok) → judged (read_term t) ≡ term_judged_by t (term_form t)
judged-read_term t = ap judged (read_term-form t) ∙ term_judged t (term_form t)
