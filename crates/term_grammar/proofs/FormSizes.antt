-- The parts of a form are smaller than the tree.
use Rattle.std.proofs.Common.{◌≡◌, ℕ, ◌+◌, ◌≤◌, Bool, true, false, not, if◌then◌else◌, Option, Some, None, option_and_then, Result, Ok, Err, ap, arith}
use Rattle.lex_core.specs.declared.token.Tok.{Tok}
use Rattle.sexp_core.specs.Sexp.{Sexp, atom, list, Sexps, nil, cons}
use Rattle.sexp_core.specs.Parts.{whole}
use Rattle.sexp_core.specs.Items.{size, size_all}
use Rattle.sexp_core.specs.declared.parts.Part.{Part}
use Rattle.sexp_core.specs.declared.parts.Part.TheVariants as part
use Rattle.term_grammar.specs.declared.words.TermWord.{TermWord}
use Rattle.term_grammar.specs.declared.words.TermWord.TheVariants as word
use Rattle.term_grammar.specs.declared.words.TheConstants.{NAMED, PATTERN}
use Rattle.term_grammar.specs.declared.form.SortForm.{SortForm}
use Rattle.term_grammar.specs.declared.form.SortForm.TheVariants as sort
use Rattle.term_grammar.specs.declared.term_form.TermForm.{TermForm}
use Rattle.term_grammar.specs.declared.term_form.TermForm.TheVariants as term
use Rattle.term_grammar.specs.declared.term_form.NoteForm.{NoteForm}
use Rattle.term_grammar.specs.declared.term_form.NoteForm.TheVariants as note
use Rattle.term_grammar.specs.Words.{is_symbol, is_keyword, is_key, is_value_token, is_constant}
use Rattle.term_grammar.specs.FirstParts.{part_of, any_first, is_empty, guard}
use Rattle.term_grammar.specs.Forms.{is_identifier, applied_form, sort_form}
use Rattle.term_grammar.specs.TermForms.{is_qualified, is_pattern, named_parts, case_parts, note_parts, are_named, are_cases, are_notes, word_of, word_form, application_form, or_at, term_form}
use Rattle.term_grammar.proofs.AttributeLists.{alone, then_token, then_list}
use Rattle.term_grammar.proofs.FormsRead.{whole-part_of, judged-read_sort, judged-read_term}

abbrev pub sort_size : Result SortForm ℕ → ℕ
sort_size (Err e) = 0
sort_size (Ok sort.Identifier) = 0
sort_size (Ok (sort.Applied i ss)) = size_all ss + 1

applied_size : (at : ℕ) (h : Part) (ts : Sexps Tok) (q i e : Bool)
    → sort_size (if q then Ok sort.Identifier else applied_form at (option_and_then (λ _. option_and_then (λ _. Some (h, ts)) (guard (not e))) (guard i))) ≤ size_all ts + 1
applied_size at h ts true i e = omega arith
applied_size at h ts false true true = omega arith
applied_size at h ts false true false = omega arith
applied_size at h ts false false e = omega arith

atom_size : (t : Tok) (q : Bool) → sort_size (if q then Ok sort.Identifier else Err t.at) ≤ 1
atom_size t true = omega arith
atom_size t false = omega arith

pub sort_form-size : (t : Sexp Tok) → sort_size (sort_form t) ≤ size t
sort_form-size (atom t) = atom_size t (is_identifier (atom t))
sort_form-size (list at nil) = omega arith
sort_form-size (list at (cons (atom w) ts)) =
    let h = applied_size at (part.Atom w) ts (is_identifier (list at (cons (atom w) ts))) (is_identifier (atom w)) (is_empty ts) in omega (arith, h)
sort_form-size (list at (cons (list b us) ts)) =
    let h = applied_size at (part.List b us) ts (is_identifier (list at (cons (list b us) ts))) (is_identifier (list b us)) (is_empty ts) in omega (arith, h)

abbrev pub form_size : Result TermForm ℕ → ℕ
form_size (Err e) = 0
form_size (Ok (term.Constant c)) = 0
form_size (Ok term.Qualified) = 0
form_size (Ok (term.Application h ts)) = size_all ts + 1
form_size (Ok (term.Let bs u)) = size_all bs + size (whole u) + 1
form_size (Ok (term.Forall vs u)) = size (whole u) + 1
form_size (Ok (term.Exists vs u)) = size (whole u) + 1
form_size (Ok (term.Match u cs)) = size (whole u) + size_all cs + 1
form_size (Ok (term.Annotated u ns)) = size (whole u) + size_all ns + 1

guarded : {A : Type 0} (e n : Bool) (p : A) (f : A → Option TermForm) (at k : ℕ) → form_size (or_at at (f p)) ≤ k
    → form_size (or_at at (option_and_then f (option_and_then (λ _. option_and_then (λ _. Some p) (guard n)) (guard (not e))))) ≤ k
guarded true n p f at k h = omega arith
guarded false true p f at k h = h
guarded false false p f at k h = omega arith

part_size : (u : Sexp Tok) → size (whole (part_of u)) ≡ size u
part_size u = ap size (whole-part_of u)

let_size : (at : ℕ) (ts : Sexps Tok) → form_size (or_at at (word_form word.Let ts)) ≤ size_all ts + 1
let_size at nil = omega arith
let_size at (cons (atom x) ts) = omega arith
let_size at (cons (list b bs) nil) = omega arith
let_size at (cons (list b bs) (cons u (cons v vs))) = omega arith
let_size at (cons (list b bs) (cons u nil)) =
    guarded (is_empty bs) (are_named bs) (bs, part_of u) (λ p. Some (term.Let p.0 p.1)) at _ (omega (arith, part_size u))

forall_size : (at : ℕ) (ts : Sexps Tok) → form_size (or_at at (word_form word.Forall ts)) ≤ size_all ts + 1
forall_size at nil = omega arith
forall_size at (cons (atom x) ts) = omega arith
forall_size at (cons (list b bs) nil) = omega arith
forall_size at (cons (list b bs) (cons u (cons v vs))) = omega arith
forall_size at (cons (list b bs) (cons u nil)) =
    guarded (is_empty bs) (are_named bs) (bs, part_of u) (λ p. Some (term.Forall p.0 p.1)) at _ (omega (arith, part_size u))

exists_size : (at : ℕ) (ts : Sexps Tok) → form_size (or_at at (word_form word.Exists ts)) ≤ size_all ts + 1
exists_size at nil = omega arith
exists_size at (cons (atom x) ts) = omega arith
exists_size at (cons (list b bs) nil) = omega arith
exists_size at (cons (list b bs) (cons u (cons v vs))) = omega arith
exists_size at (cons (list b bs) (cons u nil)) =
    guarded (is_empty bs) (are_named bs) (bs, part_of u) (λ p. Some (term.Exists p.0 p.1)) at _ (omega (arith, part_size u))

match_size : (at : ℕ) (ts : Sexps Tok) → form_size (or_at at (word_form word.Match ts)) ≤ size_all ts + 1
match_size at nil = omega arith
match_size at (cons u nil) = omega arith
match_size at (cons u (cons (atom x) ts)) = omega arith
match_size at (cons u (cons (list b cs) (cons v vs))) = omega arith
match_size at (cons u (cons (list b cs) nil)) =
    guarded (is_empty cs) (are_cases cs) (part_of u, cs) (λ p. Some (term.Match p.0 p.1)) at _ (omega (arith, part_size u))

annotation_size : (at : ℕ) (ts : Sexps Tok) → form_size (or_at at (word_form word.Annotation ts)) ≤ size_all ts + 1
annotation_size at nil = omega arith
annotation_size at (cons u ns) =
    guarded (is_empty ns) (are_notes ns) (part_of u, ns) (λ p. Some (term.Annotated p.0 p.1)) at _ (omega (arith, part_size u))

word_size : (at : ℕ) (ts : Sexps Tok) (w : TermWord) → form_size (or_at at (word_form w ts)) ≤ size_all ts + 1
word_size at ts word.Let = let_size at ts
word_size at ts word.Forall = forall_size at ts
word_size at ts word.Exists = exists_size at ts
word_size at ts word.Match = match_size at ts
word_size at ts word.Annotation = annotation_size at ts
word_size at ts word.Other = omega arith

application_size : (at : ℕ) (h : Part) (ts : Sexps Tok) → form_size (or_at at (application_form h ts)) ≤ size_all ts + 1
application_size at h nil = omega arith
application_size at h (cons t ts) = omega arith

list_size : (at : ℕ) (h : Part) (ts : Sexps Tok) (q i : Bool)
    → form_size (if q then Ok term.Qualified else or_at at (if i then application_form h ts else word_form (word_of (whole h)) ts)) ≤ size_all ts + 1
list_size at h ts true i = omega arith
list_size at h ts false true = application_size at h ts
list_size at h ts false false = word_size at ts (word_of (whole h))

atom_term_size : (t : Tok) (q c : Bool) → form_size (if q then Ok term.Qualified else if c then Ok (term.Constant t) else Err t.at) ≤ 1
atom_term_size t true c = omega arith
atom_term_size t false true = omega arith
atom_term_size t false false = omega arith

pub term_form-size : (t : Sexp Tok) → form_size (term_form t) ≤ size t
term_form-size (atom t) = atom_term_size t (is_qualified (atom t)) (is_constant t)
term_form-size (list at nil) = omega arith
term_form-size (list at (cons (atom w) ts)) =
    let h = list_size at (part.Atom w) ts (is_qualified (list at (cons (atom w) ts))) (is_qualified (atom w)) in omega (arith, h)
term_form-size (list at (cons (list b us) ts)) =
    let h = list_size at (part.List b us) ts (is_qualified (list at (cons (list b us) ts))) (is_qualified (list b us)) in omega (arith, h)

abbrev pub second_size : {A : Type 0} → Option (A × Part) → ℕ
second_size None = 0
second_size (Some p) = size (whole p.1)

named_size : (x : Tok) (r : Sexps Tok) (s : Bool)
    → second_size (option_and_then (λ (n : Tok × Sexps Tok). option_and_then (λ (t : Part × Sexps Tok). option_and_then (λ _. Some (n.0, t.0)) (guard (is_empty t.1))) (any_first n.1)) (if s then Some (x, r) else None)) ≤ size_all r
named_size x nil true = omega arith
named_size x (cons t nil) true = omega (arith, part_size t)
named_size x (cons t (cons u us)) true = omega arith
named_size x r false = omega arith

pub named_parts-size : (us : Sexps Tok) → second_size (named_parts us) ≤ size_all us
named_parts-size nil = omega arith
named_parts-size (cons (list b vs) us) = omega arith
named_parts-size (cons (atom x) r) = omega (arith, named_size x r (is_symbol x))

case_size : (p : Part) (r : Sexps Tok) (q : Bool)
    → second_size (option_and_then (λ _. option_and_then (λ (t : Part × Sexps Tok). option_and_then (λ _. Some (p, t.0)) (guard (is_empty t.1))) (any_first r)) (guard q)) ≤ size_all r
case_size p nil true = omega arith
case_size p (cons t nil) true = omega (arith, part_size t)
case_size p (cons t (cons u us)) true = omega arith
case_size p r false = omega arith

pub case_parts-size : (us : Sexps Tok) → second_size (case_parts us) ≤ size_all us
case_parts-size nil = omega arith
case_parts-size (cons (atom w) r) = omega (arith, case_size (part.Atom w) r (is_pattern (atom w)))
case_parts-size (cons (list c vs) r) = omega (arith, case_size (part.List c vs) r (is_pattern (list c vs)))

-- the terms of a pattern and the trees after an attribute
abbrev pub note_size : Option (NoteForm × Sexps Tok) → ℕ
note_size None = 0
note_size (Some (note.Named n, ts)) = size_all ts + 1
note_size (Some (note.Pattern us, ts)) = size_all us + size_all ts + 1
note_size (Some (note.Attribute k v, ts)) = size_all ts + 1

alone_size : (k : Tok) (n p w : Bool) → note_size (alone k n p w) ≤ 1
alone_size k true p w = omega arith
alone_size k false true w = omega arith
alone_size k false false true = omega arith
alone_size k false false false = omega arith

token_size : (k v : Tok) (ts : Sexps Tok) (n p w q s : Bool) → note_size (then_token k v ts n p w q s) ≤ size_all ts + 2
token_size k v ts true p w q true = omega arith
token_size k v ts true p w q false = omega arith
token_size k v ts false true w q s = omega arith
token_size k v ts false false true true s = omega arith
token_size k v ts false false true false s = omega arith
token_size k v ts false false false q s = omega arith

list_note_size : (k : Tok) (at : ℕ) (us ts : Sexps Tok) (n p w e : Bool) → note_size (then_list k at us ts n p w e) ≤ size_all us + size_all ts + 2
list_note_size k at us ts true p w e = omega arith
list_note_size k at us ts false true w true = omega arith
list_note_size k at us ts false true w false = omega arith
list_note_size k at us ts false false true e = omega arith
list_note_size k at us ts false false false e = omega arith

pub note_parts-size : (ts : Sexps Tok) → note_size (note_parts ts) ≤ size_all ts
note_parts-size nil = omega arith
note_parts-size (cons (list at us) ts) = omega arith
note_parts-size (cons (atom k) nil) = omega (arith, alone_size k (is_key NAMED k) (is_key PATTERN k) (is_keyword k))
note_parts-size (cons (atom k) (cons (atom v) ts)) =
    omega (arith, token_size k v ts (is_key NAMED k) (is_key PATTERN k) (is_keyword k) (is_value_token v) (is_symbol v))
note_parts-size (cons (atom k) (cons (list at us) ts)) =
    omega (arith, list_note_size k at us ts (is_key NAMED k) (is_key PATTERN k) (is_keyword k) (is_empty us))

pub ruleset sort_rules = (judged-read_sort, sort_form-size)

pub ruleset term_rules = (judged-read_term, term_form-size)
