-- A list has no more parts than trees.
use Rattle.std.proofs.Common.{◌≡◌, ℕ, suc, ◌+◌, ◌≤◌, Bool, true, false, not, if◌then◌else◌, List, [], length, Some, None, Result, Ok, Err, refl, arith}
use Rattle.std.specs.Result.{result_unwrap_or}
use Rattle.lex_core.specs.declared.token.Tok.{Tok}
use Rattle.sexp_core.specs.Sexp.{atom, list, Sexps, nil, cons, count_of}
use Rattle.term_grammar.specs.declared.words.TheConstants.{NAMED, PATTERN}
use Rattle.term_grammar.specs.Words.{is_symbol, is_key, is_value_token}
use Rattle.term_grammar.specs.FirstParts.{is_empty}
use Rattle.term_grammar.specs.Syntax.{no_sorts, with_sort, each_sort, no_terms, with_term, each_term, no_bindings, with_binding, no_cases, with_case, Notes, no_notes, each_note}
use Rattle.term_grammar.specs.TermForms.{is_pattern, is_other_key}
use Rattle.term_grammar.specs.Reads.{made_of, made_of_two, tokens_of, pattern_of, with_sorted, with_named, with_pattern, with_attribute, read_sort, read_sorts, read_sorted, read_term, read_terms, read_bindings, read_cases, read_notes}
use Rattle.term_grammar.specs.Readings.{sorts_of, sorted_of, terms_of, bindings_of, cases_of, notes_of}
use Rattle.term_grammar.specs.ListViews.{each_token, each_sexpr}
use Rattle.term_grammar.specs.TermViews.{each_binding, each_variable, each_case}

-- one more part than those after it
part_more : {A B : Type 0} (each : A → List B) (f : A → A) (d : A) (r : Result A ℕ) (n : ℕ) → length (each d) ≡ 0 → ((a : A) → length (each (f a)) ≡ suc (length (each a)))
    → length (each (result_unwrap_or r d)) ≤ n → length (each (result_unwrap_or (made_of f r) d)) ≤ n + 1
part_more each f d (Ok a) n z h k = omega (arith, h a)
part_more each f d (Err e) n z h k = omega arith

parts_more : {A B C : Type 0} (each : B → List C) (f : A → B → B) (d : B) (r : Result A ℕ) (s : Result B ℕ) (n : ℕ) → length (each d) ≡ 0
    → ((a : A) (b : B) → length (each (f a b)) ≡ suc (length (each b))) → length (each (result_unwrap_or s d)) ≤ n → length (each (result_unwrap_or (made_of_two f r s) d)) ≤ n + 1
parts_more each f d (Ok a) s n z h k = part_more each (f a) d s n z (h a) k
parts_more each f d (Err e) s n z h k = omega arith

tested : {A B : Type 0} (each : A → List B) (d : A) (b : Bool) (r : Result A ℕ) (n : ℕ) → length (each d) ≡ 0
    → length (each (result_unwrap_or r d)) ≤ n → length (each (result_unwrap_or (if b then r else Ok d) d)) ≤ n
tested each d true r n z h = h
tested each d false r n z h = omega arith

pub tokens_few : (ts : Sexps Tok) → length (each_token (tokens_of ts)) ≤ count_of ts
tokens_few nil = omega arith
tokens_few (cons (atom t) ts) = omega (arith, tokens_few ts)
tokens_few (cons (list at us) ts) = omega (arith, tokens_few ts)

pub sexprs_few : (ts : Sexps Tok) → length (each_sexpr ts) ≤ count_of ts
sexprs_few nil = omega arith
sexprs_few (cons t ts) = omega (arith, sexprs_few ts)

pub sorts_few : (ts : Sexps Tok) → length (each_sort (sorts_of ts)) ≤ count_of ts
unfolding read_sort
sorts_few nil = omega arith
sorts_few (cons t ts) = parts_more each_sort with_sort no_sorts (read_sort t) (read_sorts ts) (count_of ts) refl (λ s ss. refl) (sorts_few ts)

pub terms_few : (ts : Sexps Tok) → length (each_term (terms_of ts)) ≤ count_of ts
unfolding read_term
terms_few nil = omega arith
terms_few (cons t ts) = parts_more each_term with_term no_terms (read_term t) (read_terms ts) (count_of ts) refl (λ s ss. refl) (terms_few ts)

pub variables_few : (ts : Sexps Tok) → length (each_variable (sorted_of ts)) ≤ count_of ts
unfolding read_sorted
variables_few nil = omega arith
variables_few (cons (atom t) ts) = omega arith
variables_few (cons (list b nil) ts) = omega arith
variables_few (cons (list b (cons (list c us) vs)) ts) = omega arith
variables_few (cons (list b (cons (atom x) nil)) ts) = omega arith
variables_few (cons (list b (cons (atom x) (cons t (cons u us)))) ts) = omega arith
variables_few (cons (list b (cons (atom x) (cons t nil))) ts) =
    tested each_variable [] (is_symbol x) _ (count_of ts + 1) refl (parts_more each_variable (with_sorted b x) [] (read_sort t) (read_sorted ts) (count_of ts) refl (λ s ss. refl) (variables_few ts))

pub bindings_few : (ts : Sexps Tok) → length (each_binding (bindings_of ts)) ≤ count_of ts
unfolding read_term
bindings_few nil = omega arith
bindings_few (cons (atom t) ts) = omega arith
bindings_few (cons (list b nil) ts) = omega arith
bindings_few (cons (list b (cons (list c us) vs)) ts) = omega arith
bindings_few (cons (list b (cons (atom x) nil)) ts) = omega arith
bindings_few (cons (list b (cons (atom x) (cons t (cons u us)))) ts) = omega arith
bindings_few (cons (list b (cons (atom x) (cons t nil))) ts) =
    tested each_binding no_bindings (is_symbol x) _ (count_of ts + 1) refl (parts_more each_binding (with_binding b x) no_bindings (read_term t) (read_bindings ts) (count_of ts) refl (λ s ss. refl) (bindings_few ts))

pub cases_few : (ts : Sexps Tok) → length (each_case (cases_of ts)) ≤ count_of ts
unfolding read_term
cases_few nil = omega arith
cases_few (cons (atom t) ts) = omega arith
cases_few (cons (list b nil) ts) = omega arith
cases_few (cons (list b (cons p nil)) ts) = omega arith
cases_few (cons (list b (cons p (cons t (cons u us)))) ts) = omega arith
cases_few (cons (list b (cons p (cons t nil))) ts) =
    tested each_case no_cases (is_pattern p) _ (count_of ts + 1) refl (parts_more each_case (with_case b (pattern_of p)) no_cases (read_term t) (read_cases ts) (count_of ts) refl (λ s ss. refl) (cases_few ts))

abbrev note_count : Result Notes ℕ → ℕ
note_count r = length (each_note (result_unwrap_or r no_notes))

-- an attribute is counted with its first tree
note_token : (n o q s : Bool) (a b c : Result Notes ℕ) (k : ℕ) → note_count a ≤ k + 1 → note_count b ≤ k + 1 → note_count c ≤ k + 1 + 1
    → note_count (if n then (if s then a else Ok no_notes) else if o then (if q then b else c) else Ok no_notes) ≤ k + 1 + 1
note_token true o q true a b c k x y z = omega (arith, x)
note_token true o q false a b c k x y z = omega arith
note_token false true true s a b c k x y z = omega (arith, y)
note_token false true false s a b c k x y z = z
note_token false false q s a b c k x y z = omega arith

note_list : (p e o : Bool) (a b : Result Notes ℕ) (k : ℕ) → note_count a ≤ k + 1 → note_count b ≤ k + 1
    → note_count (if p then (if not e then a else Ok no_notes) else if o then b else Ok no_notes) ≤ k + 1 + 1
note_list true true o a b k x y = omega arith
note_list true false o a b k x y = omega (arith, x)
note_list false e true a b k x y = omega (arith, y)
note_list false e false a b k x y = omega arith

alone_few : (o : Bool) (r : Notes) → length (each_note r) ≡ 1 → note_count (if o then Ok r else Ok no_notes) ≤ 1
alone_few true r h = omega (arith, h)
alone_few false r h = omega arith

pub notes_few : (ts : Sexps Tok) → length (each_note (notes_of ts)) ≤ count_of ts
unfolding read_term
notes_few nil = omega arith
notes_few (cons (list b us) ts) = omega arith
notes_few (cons (atom k) nil) = alone_few (is_other_key k) (with_attribute k None no_notes) refl
notes_few (cons (atom k) (cons (atom v) ts)) =
    note_token (is_key NAMED k) (is_other_key k) (is_value_token v) (is_symbol v) _ _ _ (count_of ts)
    (part_more each_note (with_named v) no_notes (read_notes ts) (count_of ts) refl (λ a. refl) (notes_few ts))
    (part_more each_note (with_attribute k (Some (atom v))) no_notes (read_notes ts) (count_of ts) refl (λ a. refl) (notes_few ts))
    (part_more each_note (with_attribute k None) no_notes (read_notes (cons (atom v) ts)) (count_of ts + 1) refl (λ a. refl) (notes_few (cons (atom v) ts)))
notes_few (cons (atom k) (cons (list b us) ts)) =
    note_list (is_key PATTERN k) (is_empty us) (is_other_key k) _ _ (count_of ts)
    (parts_more each_note with_pattern no_notes (read_terms us) (read_notes ts) (count_of ts) refl (λ a c. refl) (notes_few ts))
    (part_more each_note (with_attribute k (Some (list b us))) no_notes (read_notes ts) (count_of ts) refl (λ a. refl) (notes_few ts))
