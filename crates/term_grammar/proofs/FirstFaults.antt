-- The fault of a tree that does not read is that of the first tree, in pre-order, without a shape.
use Rattle.std.proofs.Common.{◌≡◌, ℕ, suc, zero, ◌+◌, ◌<◌, ◌≤◌, Bool, true, false, not, ◌||◌, if◌then◌else◌, List, [], ◌∷◌, ◌++◌, Option, Some, None, Result, Ok, Err, is_ok, IfOk, ◌⊎◌, inl, inr, refl, ap, sym, subst, ◌∙◌, arith}
use Rattle.lex_core.specs.declared.token.Tok.{Tok}
use Rattle.sexp_core.specs.Sexp.{Sexp, atom, list, Sexps, nil, cons}
use Rattle.sexp_core.specs.Items.{size, size_all, size-pos}
use Rattle.sexp_core.specs.declared.parts.Part.{Part}
use Rattle.sexp_core.specs.declared.parts.Part.TheVariants as part
use Rattle.term_grammar.specs.declared.words.TheConstants.{NAMED, PATTERN}
use Rattle.term_grammar.specs.declared.form.SortForm.{SortForm}
use Rattle.term_grammar.specs.declared.term_form.TermForm.{TermForm}
use Rattle.term_grammar.specs.Words.{is_symbol, is_constant, is_key, is_value_token}
use Rattle.term_grammar.specs.FirstParts.{is_empty}
use Rattle.term_grammar.specs.Syntax.{applied_sort, qualified, qualified_term, application, let_in, for_all, there_exists, match_with, annotated, with_binding, with_case}
use Rattle.term_grammar.specs.Forms.{is_identifier, applied_parts, applied_form, sort_form}
use Rattle.term_grammar.specs.TermForms.{is_qualified, is_pattern, is_other_key, are_named, are_cases, are_notes, list_form, or_at, term_form}
use Rattle.term_grammar.specs.Reads.{byte_of, identifier_of, pattern_of, with_sorted, with_named, with_pattern, with_attribute, read_sort, read_sorts, read_sorted, read_qualified, read_term, read_terms, read_bindings, read_cases, read_notes}
use Rattle.term_grammar.specs.FormReading.{judged, both, sort_judged_by, term_judged_by}
use Rattle.term_grammar.specs.Grammar.{ReadsSort, ReadsTerm}
use Rattle.term_grammar.specs.Faults.{Position, a_sort, a_term, position_at, sorts, terms, seconds, pattern_terms, SortShape, named, applied, QualifiedShape, bare, as_sort, TermShape, constant_shape, qualified_shape, application_shape, let_shape, forall_shape, exists_shape, match_shape, annotation_shape, HasShape, ReadsAt, FirstFault, here, inside, after, FaultOfSort, FaultOfTerm}
use Rattle.term_grammar.proofs.TokenKinds.{no_test, both_true}
use Rattle.term_grammar.proofs.FormsRead.{judged-made_of, judged-made_of_two, judged-read_sort, judged-read_term}
use Rattle.term_grammar.proofs.JudgedLists.{judged-no_sorts, judged-sorts, judged-no_terms, judged-terms}
use Rattle.term_grammar.proofs.GrammarComplete.{named_test, case_test, token_test, list_test, sort_complete, term_complete}
use Rattle.term_grammar.proofs.GrammarSound.{chosen, other, identifier_sound, named_reads, applied_is, identifier_qualified, as_qualified, constant_reads, qualified_is, application_is, let_is, forall_is, exists_is, match_is, annotation_is, sort_sound, term_sound}
use Rattle.term_grammar.proofs.Shapes.{sort_shape, sort_formed, qualified_formed, no_head, term_shape, term_formed}

-- the judgement of the trees in some positions, one after the other

abbrev pub judge : Position → Result (Unit {0}) ℕ
judge (a_sort t) = judged (read_sort t)
judge (a_term t) = judged (read_term t)

abbrev pub judge_all : List Position → Result (Unit {0}) ℕ
judge_all [] = Ok tt
judge_all (p ∷ ps) = both (judge p) (judge_all ps)

pub both_more : (a b c : Result (Unit {0}) ℕ) → both (both a b) c ≡ both a (both b c)
both_more (Ok u) b c = refl
both_more (Err e) b c = refl

pub both_ok : (a : Result (Unit {0}) ℕ) → both a (Ok tt) ≡ a
both_ok (Ok u) = refl
both_ok (Err e) = refl

pub judge_append : (ps qs : List Position) → judge_all (ps ++ qs) ≡ both (judge_all ps) (judge_all qs)
judge_append [] qs = refl
judge_append (p ∷ ps) qs = ap (both (judge p)) (judge_append ps qs) ∙ sym (both_more (judge p) (judge_all ps) (judge_all qs))

-- a list and a term after it
with_last : (ps : List Position) (u : Sexp Tok) (r : Result (Unit {0}) ℕ) → r ≡ judge_all ps → both r (judged (read_term u)) ≡ judge_all (ps ++ a_term u ∷ [])
with_last ps u r e =
    ap (λ x. both x (judged (read_term u))) e ∙ ap (both (judge_all ps)) (sym (both_ok (judged (read_term u)))) ∙ sym (judge_append ps (a_term u ∷ []))

by_test : {P : Type 0} (b : Bool) → (b ≡ true → P) → (b ≡ false → P) → P
by_test true h k = h refl
by_test false h k = k refl

pub sorts_judged : (ts : Sexps Tok) → judged (read_sorts ts) ≡ judge_all (sorts ts)
sorts_judged nil = judged-no_sorts
sorts_judged (cons t ts) = judged-sorts t ts ∙ ap (both (judged (read_sort t))) (sorts_judged ts)

pub terms_judged : (ts : Sexps Tok) → judged (read_terms ts) ≡ judge_all (terms ts)
terms_judged nil = judged-no_terms
terms_judged (cons t ts) = judged-terms t ts ∙ ap (both (judged (read_term t))) (terms_judged ts)

pub variables_judged : (ts : Sexps Tok) → are_named ts ≡ true → judged (read_sorted ts) ≡ judge_all (seconds a_sort ts)
unfolding read_sorted
variables_judged nil e = refl
variables_judged (cons (atom t) ts) e = refl
variables_judged (cons (list b nil) ts) e = refl
variables_judged (cons (list b (cons (list c us) vs)) ts) e = absurd (no_test e)
variables_judged (cons (list b (cons (atom x) nil)) ts) e = refl
variables_judged (cons (list b (cons (atom x) (cons t (cons u us)))) ts) e = refl
variables_judged (cons (list b (cons (atom x) (cons t nil))) ts) e =
    let n = both_true _ _ e in
    ap judged (chosen (is_symbol x) _ _ (named_test x (cons t nil) (is_symbol x) n.0).0)
    ∙ judged-made_of_two (with_sorted b x) (read_sort t) (read_sorted ts) ∙ ap (both (judged (read_sort t))) (variables_judged ts n.1)

bindings_judged : (ts : Sexps Tok) → are_named ts ≡ true → judged (read_bindings ts) ≡ judge_all (seconds a_term ts)
unfolding read_term
bindings_judged nil e = refl
bindings_judged (cons (atom t) ts) e = refl
bindings_judged (cons (list b nil) ts) e = refl
bindings_judged (cons (list b (cons (list c us) vs)) ts) e = absurd (no_test e)
bindings_judged (cons (list b (cons (atom x) nil)) ts) e = refl
bindings_judged (cons (list b (cons (atom x) (cons t (cons u us)))) ts) e = refl
bindings_judged (cons (list b (cons (atom x) (cons t nil))) ts) e =
    let n = both_true _ _ e in
    ap judged (chosen (is_symbol x) _ _ (named_test x (cons t nil) (is_symbol x) n.0).0)
    ∙ judged-made_of_two (with_binding b x) (read_term t) (read_bindings ts) ∙ ap (both (judged (read_term t))) (bindings_judged ts n.1)

cases_judged : (ts : Sexps Tok) → are_cases ts ≡ true → judged (read_cases ts) ≡ judge_all (seconds a_term ts)
unfolding read_term
cases_judged nil e = refl
cases_judged (cons (atom t) ts) e = refl
cases_judged (cons (list b nil) ts) e = refl
cases_judged (cons (list b (cons p nil)) ts) e = refl
cases_judged (cons (list b (cons p (cons t (cons u us)))) ts) e = refl
cases_judged (cons (list b (cons (atom x) (cons t nil))) ts) e =
    let n = both_true _ _ e in
    ap judged (chosen (is_pattern (atom x)) _ _ (case_test (part.Atom x) (cons t nil) (is_pattern (atom x)) n.0).0)
    ∙ judged-made_of_two (with_case b (pattern_of (atom x))) (read_term t) (read_cases ts) ∙ ap (both (judged (read_term t))) (cases_judged ts n.1)
cases_judged (cons (list b (cons (list c ps) (cons t nil))) ts) e =
    let n = both_true _ _ e in
    ap judged (chosen (is_pattern (list c ps)) _ _ (case_test (part.List c ps) (cons t nil) (is_pattern (list c ps)) n.0).0)
    ∙ judged-made_of_two (with_case b (pattern_of (list c ps))) (read_term t) (read_cases ts) ∙ ap (both (judged (read_term t))) (cases_judged ts n.1)

symbol_is_value : (b c : Bool) → c ≡ true → (b || c) ≡ true
symbol_is_value true c e = refl
symbol_is_value false c e = e

notes_judged : (ts : Sexps Tok) → are_notes ts ≡ true → judged (read_notes ts) ≡ judge_all (pattern_terms ts)
unfolding read_term
notes_judged nil e = refl
notes_judged (cons (list b us) ts) e = refl
notes_judged (cons (atom k) nil) e = ap judged (chosen (is_other_key k) _ _ e)
notes_judged (cons (atom k) (cons (atom v) ts)) e =
    let h = token_test (is_key NAMED k) (is_symbol v) (is_other_key k) (is_value_token v) (are_notes ts) (are_notes (cons (atom v) ts)) e in
    by_test (is_key NAMED k) (λ n. let s = h.0 n in
    ap judged (chosen (is_key NAMED k) _ _ n ∙ chosen (is_symbol v) _ _ s.0) ∙ judged-made_of (with_named v) (read_notes ts) ∙ notes_judged ts s.1
    ∙ sym (ap judge_all (chosen (is_value_token v) _ _ (symbol_is_value (is_constant v) (is_symbol v) s.0))))
    (λ n. let s = h.1 n in
    by_test (is_value_token v) (λ q.
    ap judged (other (is_key NAMED k) _ _ n ∙ chosen (is_other_key k) _ _ s.0 ∙ chosen (is_value_token v) _ _ q) ∙ judged-made_of (with_attribute k (Some (atom v))) (read_notes ts)
    ∙ notes_judged ts (s.1 q) ∙ sym (ap judge_all (chosen (is_value_token v) _ _ q)))
    (λ q.
    ap judged (other (is_key NAMED k) _ _ n ∙ chosen (is_other_key k) _ _ s.0 ∙ other (is_value_token v) _ _ q) ∙ judged-made_of (with_attribute k None) (read_notes (cons (atom v) ts))
    ∙ notes_judged (cons (atom v) ts) (s.2 q) ∙ sym (ap judge_all (other (is_value_token v) _ _ q))))
notes_judged (cons (atom k) (cons (list b us) ts)) e =
    let h = list_test (is_key PATTERN k) (not (is_empty us)) (is_other_key k) (are_notes ts) e in
    by_test (is_key PATTERN k) (λ n. let s = h.0 n in
    ap judged (chosen (is_key PATTERN k) _ _ n ∙ chosen (not (is_empty us)) _ _ s.0) ∙ judged-made_of_two with_pattern (read_terms us) (read_notes ts)
    ∙ ap (λ x. both x (judged (read_notes ts))) (terms_judged us) ∙ ap (both (judge_all (terms us))) (notes_judged ts s.1)
    ∙ sym (judge_append (terms us) (pattern_terms ts)) ∙ sym (ap judge_all (chosen (is_key PATTERN k) _ _ n)))
    (λ n. let s = h.1 n in
    ap judged (other (is_key PATTERN k) _ _ n ∙ chosen (is_other_key k) _ _ s.0) ∙ judged-made_of (with_attribute k (Some (list b us))) (read_notes ts)
    ∙ notes_judged ts s.1 ∙ sym (ap judge_all (other (is_key PATTERN k) _ _ n)))

-- a tree of a shape is judged as the trees in it

sort_judged : (t : Sexp Tok) (qs : List Position) → SortShape t qs → judged (read_sort t) ≡ judge_all qs
sort_judged t qs (named i r d) = ap judged (named_reads t (identifier_sound t i r).0) ∙ sym (ap judge_all d)
sort_judged t qs (applied at h ts i e r n d) =
    ap (λ x. judged (read_sort x)) e ∙ ap judged (applied_is at h ts i r n) ∙ judged-made_of (applied_sort at (identifier_of h)) (read_sorts ts)
    ∙ sorts_judged ts ∙ sym (ap judge_all d)

qualified_judged : (t : Sexp Tok) (qs : List Position) → QualifiedShape t qs → judged (read_qualified t) ≡ judge_all qs
qualified_judged t qs (bare i r d) = ap judged (identifier_qualified t (identifier_sound t i r).0).0 ∙ sym (ap judge_all d)
qualified_judged t qs (as_sort at w h u i e r p d) =
    ap (λ x. judged (read_qualified x)) e ∙ ap judged (as_qualified at w h u r (identifier_sound h i p).0).0 ∙ judged-made_of (qualified at (identifier_of h)) (read_sort u)
    ∙ sym (both_ok (judged (read_sort u))) ∙ sym (ap judge_all d)

term_judged : (t : Sexp Tok) (qs : List Position) → TermShape t qs → judged (read_term t) ≡ judge_all qs
term_judged t qs (constant_shape c e k d) = ap (λ x. judged (read_term x)) e ∙ ap judged (constant_reads c k) ∙ sym (ap judge_all d)
term_judged t qs (qualified_shape s) = ap judged (qualified_is t (qualified_formed t qs s)) ∙ judged-made_of qualified_term (read_qualified t) ∙ qualified_judged t qs s
term_judged t qs (application_shape at h ts ps e s n d) =
    ap (λ x. judged (read_term x)) e ∙ ap judged (application_is at h ts (no_head at h ts ps s) (qualified_formed h ps s) n)
    ∙ judged-made_of_two (application at) (read_qualified h) (read_terms ts)
    ∙ ap (λ x. both x (judged (read_terms ts))) (qualified_judged h ps s) ∙ ap (both (judge_all ps)) (terms_judged ts) ∙ sym (judge_append ps (terms ts)) ∙ sym (ap judge_all d)
term_judged t qs (let_shape at w b bs u e r n m d) =
    ap (λ x. judged (read_term x)) e ∙ ap judged (let_is at w b bs u r n m) ∙ judged-made_of_two (let_in at) (read_bindings bs) (read_term u)
    ∙ with_last (seconds a_term bs) u (judged (read_bindings bs)) (bindings_judged bs m) ∙ sym (ap judge_all d)
term_judged t qs (forall_shape at w b vs u e r n m d) =
    ap (λ x. judged (read_term x)) e ∙ ap judged (forall_is at w b vs u r n m) ∙ judged-made_of_two (for_all at) (read_sorted vs) (read_term u)
    ∙ with_last (seconds a_sort vs) u (judged (read_sorted vs)) (variables_judged vs m) ∙ sym (ap judge_all d)
term_judged t qs (exists_shape at w b vs u e r n m d) =
    ap (λ x. judged (read_term x)) e ∙ ap judged (exists_is at w b vs u r n m) ∙ judged-made_of_two (there_exists at) (read_sorted vs) (read_term u)
    ∙ with_last (seconds a_sort vs) u (judged (read_sorted vs)) (variables_judged vs m) ∙ sym (ap judge_all d)
term_judged t qs (match_shape at w u b cs e r n m d) =
    ap (λ x. judged (read_term x)) e ∙ ap judged (match_is at w b cs u r n m) ∙ judged-made_of_two (match_with at) (read_term u) (read_cases cs)
    ∙ ap (both (judged (read_term u))) (cases_judged cs m) ∙ sym (ap judge_all d)
term_judged t qs (annotation_shape at w u ns e r n m d) =
    ap (λ x. judged (read_term x)) e ∙ ap judged (annotation_is at w ns u r n m) ∙ judged-made_of_two (annotated at) (read_term u) (read_notes ns)
    ∙ ap (both (judged (read_term u))) (notes_judged ns m) ∙ sym (ap judge_all d)

shape_judged : (p : Position) (qs : List Position) → HasShape p qs → judge p ≡ judge_all qs
shape_judged (a_sort t) qs s = sort_judged t qs s
shape_judged (a_term t) qs s = term_judged t qs s

-- a tree without a shape is judged by its first byte

abbrev FailsAt : {A : Type 0} → Result A ℕ → ℕ → Type 0
FailsAt (Ok a) n = Unit {0}
FailsAt (Err e) n = e ≡ n

fails_choice : {A : Type 0} (b : Bool) (r s : Result A ℕ) (n : ℕ) → FailsAt r n → FailsAt s n → FailsAt (if b then r else s) n
fails_choice true r s n h k = h
fails_choice false r s n h k = k

applied_fails : (at : ℕ) (o : Option (Part × Sexps Tok)) → FailsAt (applied_form at o) at
applied_fails at (Some p) = tt
applied_fails at None = refl

sort_fails : (t : Sexp Tok) → FailsAt (sort_form t) (byte_of t)
sort_fails (atom t) = fails_choice (is_identifier (atom t)) _ _ t.at tt refl
sort_fails (list at ts) = fails_choice (is_identifier (list at ts)) _ _ at tt (applied_fails at (applied_parts ts))

or_fails : (at : ℕ) (o : Option TermForm) → FailsAt (or_at at o) at
or_fails at (Some f) = tt
or_fails at None = refl

term_fails : (t : Sexp Tok) → FailsAt (term_form t) (byte_of t)
term_fails (atom t) = fails_choice (is_qualified (atom t)) _ _ t.at tt (fails_choice (is_constant t) _ _ t.at tt refl)
term_fails (list at ts) = fails_choice (is_qualified (list at ts)) _ _ at tt (or_fails at (list_form ts))

abbrev Decided : Position → Type 0
Decided p = ((qs : List Position) × HasShape p qs) ⊎ (((qs : List Position) → HasShape p qs → ⊥) × (judge p ≡ Err (position_at p)))

decide_sort : (t : Sexp Tok) (r : Result SortForm ℕ) → sort_form t ≡ r → IfOk r (λ f. (qs : List Position) × SortShape t qs) → FailsAt r (byte_of t)
    → ((qs : List Position) → SortShape t qs → is_ok r ≡ true) → judged (read_sort t) ≡ sort_judged_by r → Decided (a_sort t)
decide_sort t (Ok f) d s b h j = inl s
decide_sort t (Err e) d s b h j = inr (λ qs k. no_test (h qs k), j ∙ ap Err b)

decide_term : (t : Sexp Tok) (r : Result TermForm ℕ) → term_form t ≡ r → IfOk r (λ f. (qs : List Position) × TermShape t qs) → FailsAt r (byte_of t)
    → ((qs : List Position) → TermShape t qs → is_ok r ≡ true) → judged (read_term t) ≡ term_judged_by t r → Decided (a_term t)
decide_term t (Ok f) d s b h j = inl s
decide_term t (Err e) d s b h j = inr (λ qs k. no_test (h qs k), j ∙ ap Err b)

decide : (p : Position) → Decided p
decide (a_sort t) = decide_sort t (sort_form t) refl (sort_shape t) (sort_fails t) (sort_formed t) (judged-read_sort t)
decide (a_term t) = decide_term t (term_form t) refl (term_shape t) (term_fails t) (term_formed t) (judged-read_term t)

-- the trees in a tree are smaller

abbrev weight : Position → ℕ
weight (a_sort t) = size t
weight (a_term t) = size t

abbrev total : List Position → ℕ
total [] = 0
total (p ∷ ps) = weight p + total ps

total_append : (ps qs : List Position) → total (ps ++ qs) ≡ total ps + total qs
total_append [] qs = omega arith
total_append (p ∷ ps) qs = omega (arith, total_append ps qs)

total_sorts : (ts : Sexps Tok) → total (sorts ts) ≡ size_all ts
total_sorts nil = refl
total_sorts (cons t ts) = omega (arith, total_sorts ts)

total_terms : (ts : Sexps Tok) → total (terms ts) ≡ size_all ts
total_terms nil = refl
total_terms (cons t ts) = omega (arith, total_terms ts)

total_seconds : (f : Sexp Tok → Position) → ((t : Sexp Tok) → weight (f t) ≡ size t) → (ts : Sexps Tok) → total (seconds f ts) ≤ size_all ts
total_seconds f h nil = omega arith
total_seconds f h (cons (atom t) ts) = omega arith
total_seconds f h (cons (list b nil) ts) = omega arith
total_seconds f h (cons (list b (cons u nil)) ts) = omega arith
total_seconds f h (cons (list b (cons u (cons t nil))) ts) = omega (arith, h t, total_seconds f h ts)
total_seconds f h (cons (list b (cons u (cons t (cons v vs)))) ts) = omega arith

total_choice : (b : Bool) (ps qs : List Position) (n : ℕ) → total ps ≤ n → total qs ≤ n → total (if b then ps else qs) ≤ n
total_choice true ps qs n h k = h
total_choice false ps qs n h k = k

total_patterns : (ts : Sexps Tok) → total (pattern_terms ts) ≤ size_all ts
total_patterns nil = omega arith
total_patterns (cons (list b us) ts) = omega arith
total_patterns (cons (atom k) nil) = omega arith
total_patterns (cons (atom k) (cons (atom v) ts)) =
    total_choice (is_value_token v) _ _ _ (omega (arith, total_patterns ts)) (let h = total_patterns (cons (atom v) ts) in omega (arith, h))
total_patterns (cons (atom k) (cons (list b us) ts)) =
    total_choice (is_key PATTERN k) _ _ _ (omega (arith, total_append (terms us) (pattern_terms ts), total_terms us, total_patterns ts)) (omega (arith, total_patterns ts))

sort_smaller : (t : Sexp Tok) (qs : List Position) → SortShape t qs → total qs < size t
sort_smaller t qs (named i r d) = let h = size-pos t in omega (arith, h, ap total d)
sort_smaller t qs (applied at h ts i e r n d) = omega (arith, ap size e, ap total d, total_sorts ts)

qualified_smaller : (t : Sexp Tok) (qs : List Position) → QualifiedShape t qs → total qs < size t
qualified_smaller t qs (bare i r d) = let h = size-pos t in omega (arith, h, ap total d)
qualified_smaller t qs (as_sort at w h u i e r p d) = omega (arith, ap size e, ap total d)

term_smaller : (t : Sexp Tok) (qs : List Position) → TermShape t qs → total qs < size t
term_smaller t qs (constant_shape c e k d) = let h = size-pos t in omega (arith, h, ap total d)
term_smaller t qs (qualified_shape s) = qualified_smaller t qs s
term_smaller t qs (application_shape at h ts ps e s n d) = omega (arith, ap size e, ap total d, total_append ps (terms ts), total_terms ts, qualified_smaller h ps s)
term_smaller t qs (let_shape at w b bs u e r n m d) =
    omega (arith, ap size e, ap total d, total_append (seconds a_term bs) (a_term u ∷ []), total_seconds a_term (λ x. refl) bs)
term_smaller t qs (forall_shape at w b vs u e r n m d) =
    omega (arith, ap size e, ap total d, total_append (seconds a_sort vs) (a_term u ∷ []), total_seconds a_sort (λ x. refl) vs)
term_smaller t qs (exists_shape at w b vs u e r n m d) =
    omega (arith, ap size e, ap total d, total_append (seconds a_sort vs) (a_term u ∷ []), total_seconds a_sort (λ x. refl) vs)
term_smaller t qs (match_shape at w u b cs e r n m d) = omega (arith, ap size e, ap total d, total_seconds a_term (λ x. refl) cs)
term_smaller t qs (annotation_shape at w u ns e r n m d) = omega (arith, ap size e, ap total d, total_patterns ns)

shape_smaller : (p : Position) (qs : List Position) → HasShape p qs → total qs < weight p
shape_smaller (a_sort t) qs s = sort_smaller t qs s
shape_smaller (a_term t) qs s = term_smaller t qs s

weight_pos : (p : Position) → 0 < weight p
weight_pos (a_sort t) = size-pos t
weight_pos (a_term t) = size-pos t

-- the judgement finds the first fault

value_of : {A : Type 0} (r : Result A ℕ) (P : A → Type 0) → judged r ≡ Ok tt → IfOk r P → (a : A) × P a
value_of (Ok a) P e h = (a, h)
value_of (Err x) P e h = absurd (cc)

reads_at : (p : Position) → judge p ≡ Ok tt → ReadsAt p
reads_at (a_sort t) e = value_of (read_sort t) (ReadsSort t) e (sort_complete t)
reads_at (a_term t) e = value_of (read_term t) (ReadsTerm t) e (term_complete t)

same_fault : (m n : ℕ) → ◌≡◌ {A = Result (Unit {0}) ℕ} (Err m) (Err n) → m ≡ n
same_fault m n e = ap (λ r. fault_in r) e
  where
    fault_in : Result (Unit {0}) ℕ → ℕ
    fault_in (Ok u) = 0
    fault_in (Err x) = x

no_fault : (n : ℕ) → ◌≡◌ {A = Result (Unit {0}) ℕ} (Ok tt) (Err n) → ⊥
no_fault n e = cc

found_by : (p : Position) (qs ps : List Position) (n : ℕ) (r : Result (Unit {0}) ℕ) → HasShape p qs → judge p ≡ r → judge_all qs ≡ r
    → (judge_all qs ≡ Err n → FirstFault qs n) → (judge_all ps ≡ Err n → FirstFault ps n) → both (judge p) (judge_all ps) ≡ Err n → FirstFault (p ∷ ps) n
found_by p qs ps n (Err m) s d f h k e =
    let g : ◌≡◌ {A = Result (Unit {0}) ℕ} (Err m) (Err n) = sym (ap (λ x. both x (judge_all ps)) d) ∙ e in
    inside p qs ps n s (h (f ∙ ap Err (same_fault m n g)))
found_by p qs ps n (Ok u) s d f h k e = after p ps n (reads_at p d) (k (sym (ap (λ x. both x (judge_all ps)) d) ∙ e))

found_in : (p : Position) (ps : List Position) (n : ℕ) → Decided p → ((qs : List Position) → total qs < weight p → judge_all qs ≡ Err n → FirstFault qs n)
    → (judge_all ps ≡ Err n → FirstFault ps n) → both (judge p) (judge_all ps) ≡ Err n → FirstFault (p ∷ ps) n
found_in p ps n (inl (qs, s)) h k e = found_by p qs ps n (judge p) s refl (sym (shape_judged p qs s)) (h qs (shape_smaller p qs s)) k e
found_in p ps n (inr (shapeless, d)) h k e =
    let g : position_at p ≡ n = same_fault (position_at p) n (sym (ap (λ x. both x (judge_all ps)) d) ∙ e) in
    let P : ℕ → Type 0 = λ m. FirstFault (p ∷ ps) m in
    subst P g (here p ps shapeless)

faults_found : (k : ℕ) (ps : List Position) (n : ℕ) → total ps ≤ k → judge_all ps ≡ Err n → FirstFault ps n
faults_found k [] n h e = absurd (no_fault n e)
faults_found zero (p ∷ ps) n h e = absurd (let w = weight_pos p in omega (arith, w, h))
faults_found (suc k) (p ∷ ps) n h e =
    let w = weight_pos p in
    found_in p ps n (decide p) (λ qs l. faults_found k qs n (omega (arith, l, h))) (faults_found k ps n (omega (arith, w, h))) e

pub first_fault : (ps : List Position) (n : ℕ) → judge_all ps ≡ Err n → FirstFault ps n
first_fault ps n e = faults_found (total ps) ps n (omega arith) e

pub faults_sound : (ps : List Position) (n : ℕ) → FirstFault ps n → judge_all ps ≡ Err n
faults_sound _ _ (here p ps shapeless) = no_shape p ps shapeless (decide p)
  where
    no_shape : (p : Position) (ps : List Position) → ((qs : List Position) → HasShape p qs → ⊥) → Decided p → both (judge p) (judge_all ps) ≡ Err (position_at p)
    no_shape p ps h (inl (qs, s)) = absurd (h qs s)
    no_shape p ps h (inr (k, d)) = ap (λ x. both x (judge_all ps)) d
faults_sound _ _ (inside p qs ps n s f) = ap (λ x. both x (judge_all ps)) (shape_judged p qs s ∙ faults_sound qs n f)
faults_sound _ _ (after p ps n r f) = ap (λ x. both x (judge_all ps)) (judged_ok p r) ∙ faults_sound ps n f
  where
    judged_ok : (p : Position) → ReadsAt p → judge p ≡ Ok tt
    judged_ok (a_sort t) (s, r) = ap judged (sort_sound s t r)
    judged_ok (a_term t) (u, r) = ap judged (term_sound u t r)

pub judged_err : {A : Type 0} (r : Result A ℕ) (n : ℕ) → judged r ≡ Err n → r ≡ Err n
judged_err (Ok a) n e = absurd (no_fault n e)
judged_err (Err m) n e = ap Err (same_fault m n e)

pub sort_fault_sound : (t : Sexp Tok) (n : ℕ) → FaultOfSort t n → read_sort t ≡ Err n
sort_fault_sound t n f = judged_err (read_sort t) n (sym (both_ok (judged (read_sort t))) ∙ faults_sound _ n f)

pub sort_fault_found : (t : Sexp Tok) (n : ℕ) → read_sort t ≡ Err n → FaultOfSort t n
sort_fault_found t n e = first_fault (a_sort t ∷ []) n (both_ok (judged (read_sort t)) ∙ ap judged e)

pub term_fault_sound : (t : Sexp Tok) (n : ℕ) → FaultOfTerm t n → read_term t ≡ Err n
term_fault_sound t n f = judged_err (read_term t) n (sym (both_ok (judged (read_term t))) ∙ faults_sound _ n f)

pub term_fault_found : (t : Sexp Tok) (n : ℕ) → read_term t ≡ Err n → FaultOfTerm t n
term_fault_found t n e = first_fault (a_term t ∷ []) n (both_ok (judged (read_term t)) ∙ ap judged e)
