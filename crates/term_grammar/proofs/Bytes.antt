-- The byte in the abstract syntax is the byte where the tree begins.
use Rattle.std.proofs.Common.{◌≡◌, ℕ, Bool, true, false, not, ◌&&◌, if◌then◌else◌, Option, Some, None, is_some, List, Result, Ok, Err, IsOk, IsTrue, refl}
use Rattle.std.specs.Result.{result_unwrap_or}
use Rattle.lex_core.specs.declared.token.Tok.{Tok}
use Rattle.sexp_core.specs.Sexp.{Sexp, atom, list, Sexps, nil, cons}
use Rattle.sexp_core.specs.Parts.{whole}
use Rattle.sexp_core.specs.declared.parts.Part.{Part}
use Rattle.term_grammar.specs.declared.words.TermWord.{TermWord}
use Rattle.term_grammar.specs.declared.words.TermWord.TheVariants as word
use Rattle.term_grammar.specs.Words.{is_symbol, is_constant}
use Rattle.term_grammar.specs.FirstParts.{is_empty}
use Rattle.term_grammar.specs.Syntax.{Identifier, symbol, identifier_at, Sort, named_sort, applied_sort, sort_at, Qualified, unqualified, qualified, qualified_at, SortedSymbol, pattern_at, Term, constant, qualified_term, application, let_in, for_all, there_exists, match_with, annotated, term_at}
use Rattle.term_grammar.specs.Forms.{indexed_parts, is_identifier}
use Rattle.term_grammar.specs.TermForms.{as_parts, constructor_parts, is_qualified, is_pattern, are_named, are_cases, are_notes, word_of}
use Rattle.term_grammar.specs.Reads.{made_of, made_of_two, no_token, byte_of, indexed_by, identifier_of, pattern_by, pattern_of, read_sort, read_sorts, qualified_by, read_qualified, by_word, read_term, read_application, read_let, read_binder, read_match, read_annotation}
use Rattle.term_grammar.specs.Readings.{sort_of, term_of}
use Rattle.term_grammar.proofs.TokenKinds.{no_test}

-- what is read, if anything is, begins at a byte
abbrev BeginsAt : {A : Type 0} → (A → ℕ) → Result A ℕ → ℕ → Type 0
BeginsAt at_of (Ok a) n = at_of a ≡ n
BeginsAt at_of (Err e) n = Unit {0}

begins : {A : Type 0} (at_of : A → ℕ) (r : Result A ℕ) (d : A) (n : ℕ) → BeginsAt at_of r n → IsOk r → at_of (result_unwrap_or r d) ≡ n
begins at_of (Ok a) d n b h = b
begins at_of (Err e) d n b h = absurd (no_test h)

made_begins : {A B : Type 0} (at_of : B → ℕ) (f : A → B) (r : Result A ℕ) (n : ℕ) → ((a : A) → at_of (f a) ≡ n) → BeginsAt at_of (made_of f r) n
made_begins at_of f (Ok a) n h = h a
made_begins at_of f (Err e) n h = tt

made_two_begin : {A B C : Type 0} (at_of : C → ℕ) (f : A → B → C) (r : Result A ℕ) (s : Result B ℕ) (n : ℕ)
    → ((a : A) (b : B) → at_of (f a b) ≡ n) → BeginsAt at_of (made_of_two f r s) n
made_two_begin at_of f (Ok a) s n h = made_begins at_of (f a) s n (h a)
made_two_begin at_of f (Err e) s n h = tt

guarded : {A : Type 0} (at_of : A → ℕ) (b : Bool) (r : Result A ℕ) (n : ℕ) → BeginsAt at_of r n → BeginsAt at_of (if b then r else Err n) n
guarded at_of true r n h = h
guarded at_of false r n h = tt

-- identifiers and patterns

indexed_begins : (at : ℕ) (o : Option (Tok × Sexps Tok)) → is_some o ≡ true → identifier_at (indexed_by at o) ≡ at
indexed_begins at (Some p) h = refl
indexed_begins at None h = absurd (no_test h)

identifier_begins : (t : Sexp Tok) → is_identifier t ≡ true → identifier_at (identifier_of t) ≡ byte_of t
identifier_begins (atom t) h = refl
identifier_begins (list at ts) h = indexed_begins at (indexed_parts ts) h

constructor_begins : (at : ℕ) (o : Option (Tok × Sexps Tok)) → is_some o ≡ true → pattern_at (pattern_by at o) ≡ at
constructor_begins at (Some p) h = refl
constructor_begins at None h = absurd (no_test h)

pub pattern_begins : (t : Sexp Tok) → IsTrue (is_pattern t) → pattern_at (pattern_of t) ≡ byte_of t
pattern_begins (atom t) h = refl
pattern_begins (list at ts) h = constructor_begins at (constructor_parts ts) h

-- sorts

sort_by_test : (n : ℕ) (i j : Identifier) (r : Result Sort ℕ) (q e : Bool) → (q ≡ true → identifier_at i ≡ n) → BeginsAt sort_at r n
    → BeginsAt sort_at (if q then Ok (named_sort i) else if e then r else Err n) n
sort_by_test n i j r true e h b = h refl
sort_by_test n i j r false true h b = b
sort_by_test n i j r false false h b = tt

read_sort-begins : (t : Sexp Tok) → BeginsAt sort_at (read_sort t) (byte_of t)
unfolding read_sort
read_sort-begins (atom t) = guarded sort_at (is_identifier (atom t)) (Ok (named_sort (symbol t))) t.at refl
read_sort-begins (list at nil) = tt
read_sort-begins (list at (cons h ts)) =
    sort_by_test at (identifier_of (list at (cons h ts))) (identifier_of h) (made_of (applied_sort at (identifier_of h)) (read_sorts ts))
    (is_identifier (list at (cons h ts))) (is_identifier h && not (is_empty ts)) (identifier_begins (list at (cons h ts)))
    (made_begins sort_at (applied_sort at (identifier_of h)) (read_sorts ts) at (λ ss. refl))

pub sort_begins : (t : Sexp Tok) → IsOk (read_sort t) → sort_at (sort_of t) ≡ byte_of t
sort_begins t h = begins sort_at (read_sort t) (named_sort (symbol no_token)) (byte_of t) (read_sort-begins t) h

-- qualified identifiers

as_begins : (at : ℕ) (i : Identifier) (o : Option (Part × Part)) (q : Bool) → (q ≡ true → identifier_at i ≡ at)
    → BeginsAt qualified_at (if q then Ok (unqualified i) else qualified_by at o) at
as_begins at i o true h = h refl
as_begins at i (Some p) false h = made_begins qualified_at (qualified at (identifier_of (whole p.0))) (read_sort (whole p.1)) at (λ s. refl)
as_begins at i None false h = tt

read_qualified-begins : (t : Sexp Tok) → BeginsAt qualified_at (read_qualified t) (byte_of t)
unfolding read_qualified
read_qualified-begins (atom t) = guarded qualified_at (is_symbol t) (Ok (unqualified (symbol t))) t.at refl
read_qualified-begins (list at ts) = as_begins at (identifier_of (list at ts)) (as_parts ts) (is_identifier (list at ts)) (identifier_begins (list at ts))

-- terms

qualified_begins : (r : Result Qualified ℕ) (n : ℕ) → BeginsAt qualified_at r n → BeginsAt term_at (made_of qualified_term r) n
qualified_begins (Ok q) n h = h
qualified_begins (Err e) n h = tt

application_begins : (at : ℕ) (h : Sexp Tok) (ts : Sexps Tok) → BeginsAt term_at (read_application at h ts) at
unfolding read_term
application_begins at h nil = tt
application_begins at h (cons t ts) = made_two_begin term_at (application at) _ _ at (λ q us. refl)

let_begins : (at : ℕ) (ts : Sexps Tok) → BeginsAt term_at (read_let at ts) at
unfolding read_term
let_begins at nil = tt
let_begins at (cons (atom x) ts) = tt
let_begins at (cons (list b bs) nil) = tt
let_begins at (cons (list b bs) (cons u (cons v vs))) = tt
let_begins at (cons (list b bs) (cons u nil)) = guarded term_at (not (is_empty bs) && are_named bs) _ at (made_two_begin term_at (let_in at) _ _ at (λ cs v. refl))

binder_begins : (f : ℕ → List SortedSymbol → Term → Term) (at : ℕ) (ts : Sexps Tok) → ((vs : List SortedSymbol) (u : Term) → term_at (f at vs u) ≡ at)
    → BeginsAt term_at (read_binder f at ts) at
unfolding read_term
binder_begins f at nil h = tt
binder_begins f at (cons (atom x) ts) h = tt
binder_begins f at (cons (list b bs) nil) h = tt
binder_begins f at (cons (list b bs) (cons u (cons v vs))) h = tt
binder_begins f at (cons (list b bs) (cons u nil)) h = guarded term_at (not (is_empty bs) && are_named bs) _ at (made_two_begin term_at (f at) _ _ at h)

match_begins : (at : ℕ) (ts : Sexps Tok) → BeginsAt term_at (read_match at ts) at
unfolding read_term
match_begins at nil = tt
match_begins at (cons u nil) = tt
match_begins at (cons u (cons (atom x) ts)) = tt
match_begins at (cons u (cons (list b cs) (cons v vs))) = tt
match_begins at (cons u (cons (list b cs) nil)) = guarded term_at (not (is_empty cs) && are_cases cs) _ at (made_two_begin term_at (match_with at) _ _ at (λ v ds. refl))

annotation_begins : (at : ℕ) (ts : Sexps Tok) → BeginsAt term_at (read_annotation at ts) at
unfolding read_term
annotation_begins at nil = tt
annotation_begins at (cons u ns) = guarded term_at (not (is_empty ns) && are_notes ns) _ at (made_two_begin term_at (annotated at) _ _ at (λ v ms. refl))

word_begins : (at : ℕ) (ts : Sexps Tok) (w : TermWord)
    → BeginsAt term_at (by_word w (read_let at ts) (read_binder for_all at ts) (read_binder there_exists at ts) (read_match at ts) (read_annotation at ts) (Err at)) at
word_begins at ts word.Let = let_begins at ts
word_begins at ts word.Forall = binder_begins for_all at ts (λ vs u. refl)
word_begins at ts word.Exists = binder_begins there_exists at ts (λ vs u. refl)
word_begins at ts word.Match = match_begins at ts
word_begins at ts word.Annotation = annotation_begins at ts
word_begins at ts word.Other = tt

list_begins : (n : ℕ) (r s u : Result Term ℕ) (q i : Bool) → BeginsAt term_at r n → BeginsAt term_at s n → BeginsAt term_at u n
    → BeginsAt term_at (if q then r else if i then s else u) n
list_begins n r s u true i a b c = a
list_begins n r s u false true a b c = b
list_begins n r s u false false a b c = c

read_term-begins : (t : Sexp Tok) → BeginsAt term_at (read_term t) (byte_of t)
unfolding read_term
read_term-begins (atom t) =
    list_begins t.at _ (Ok (constant t)) (Err t.at) (is_qualified (atom t)) (is_constant t) (qualified_begins (read_qualified (atom t)) t.at (read_qualified-begins (atom t))) refl tt
read_term-begins (list at nil) = tt
read_term-begins (list at (cons h ts)) =
    list_begins at _ _ _ (is_qualified (list at (cons h ts))) (is_qualified h)
    (qualified_begins (read_qualified (list at (cons h ts))) at (read_qualified-begins (list at (cons h ts)))) (application_begins at h ts) (word_begins at ts (word_of h))

pub term_begins : (t : Sexp Tok) → IsOk (read_term t) → term_at (term_of t) ≡ byte_of t
term_begins t h = begins term_at (read_term t) (constant no_token) (byte_of t) (read_term-begins t) h
