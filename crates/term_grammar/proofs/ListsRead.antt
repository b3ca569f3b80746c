-- A list of bindings, variables, cases or attributes reads as its first tree and the others do.
use Rattle.std.proofs.Common.{◌≡◌, ℕ, Bool, true, false, not, ◌&&◌, if◌then◌else◌, List, [], Option, Some, None, option_and_then, Result, Ok, refl, ap, sym}
use Rattle.lex_core.specs.declared.token.Tok.{Tok}
use Rattle.sexp_core.specs.Sexp.{Sexp, atom, list, Sexps, nil, cons}
use Rattle.sexp_core.specs.Parts.{whole}
use Rattle.sexp_core.specs.declared.parts.Part.{Part}
use Rattle.sexp_core.specs.declared.parts.Part.TheVariants as part
use Rattle.term_grammar.specs.declared.words.TheConstants.{NAMED, PATTERN}
use Rattle.term_grammar.specs.declared.term_form.NoteForm.{NoteForm}
use Rattle.term_grammar.specs.declared.term_form.NoteForm.TheVariants as note
use Rattle.term_grammar.specs.Words.{is_symbol, is_keyword, is_key, is_value_token}
use Rattle.term_grammar.specs.FirstParts.{any_first, is_empty, guard}
use Rattle.term_grammar.specs.Syntax.{SortedSymbol, Bindings, no_bindings, with_binding, Cases, no_cases, with_case, Notes, no_notes}
use Rattle.term_grammar.specs.TermForms.{named_parts, is_pattern, case_parts, note_parts}
use Rattle.term_grammar.specs.Reads.{made_of, made_of_two, pattern_of, read_sort, read_sorted, with_sorted, read_term, read_terms, read_bindings, read_cases, read_notes, with_named, with_pattern, with_attribute}
use Rattle.term_grammar.proofs.AttributeLists.{alone, then_token, then_list, one_key}
use Rattle.term_grammar.proofs.FormsRead.{whole-part_of}

-- a symbol and what comes after it, by the test of the symbol
abbrev named_after : Tok → Sexps Tok → Bool → Option (Tok × Part)
named_after x r s =
    option_and_then (λ (n : Tok × Sexps Tok). option_and_then (λ (t : Part × Sexps Tok). option_and_then (λ _. Some (n.0, t.0)) (guard (is_empty t.1))) (any_first n.1))
    (if s then Some (x, r) else None)

abbrev pub sorted_by : ℕ → Option (Tok × Part) → Sexps Tok → Result (List SortedSymbol) ℕ
sorted_by b None ts = Ok []
sorted_by b (Some p) ts = made_of_two (with_sorted b p.0) (read_sort (whole p.1)) (read_sorted ts)

sorted_alone : (b : ℕ) (x : Tok) (ts : Sexps Tok) (s : Bool) → Ok [] ≡ sorted_by b (named_after x nil s) ts
sorted_alone b x ts true = refl
sorted_alone b x ts false = refl

sorted_more : (b : ℕ) (x : Tok) (t u : Sexp Tok) (us ts : Sexps Tok) (s : Bool) → Ok [] ≡ sorted_by b (named_after x (cons t (cons u us)) s) ts
sorted_more b x t u us ts true = refl
sorted_more b x t u us ts false = refl

sorted_pair : (b : ℕ) (x : Tok) (t : Sexp Tok) (ts : Sexps Tok) (s : Bool)
    → (if s then made_of_two (with_sorted b x) (read_sort t) (read_sorted ts) else Ok []) ≡ sorted_by b (named_after x (cons t nil) s) ts
sorted_pair b x t ts true = ap (λ (y : Sexp Tok). made_of_two (with_sorted b x) (read_sort y) (read_sorted ts)) (sym (whole-part_of t))
sorted_pair b x t ts false = refl

pub read_sorted-first : (b : ℕ) (us ts : Sexps Tok) → read_sorted (cons (list b us) ts) ≡ sorted_by b (named_parts us) ts
unfolding read_sorted
read_sorted-first b nil ts = refl
read_sorted-first b (cons (list c vs) us) ts = refl
read_sorted-first b (cons (atom x) nil) ts = sorted_alone b x ts (is_symbol x)
read_sorted-first b (cons (atom x) (cons t (cons u us))) ts = sorted_more b x t u us ts (is_symbol x)
read_sorted-first b (cons (atom x) (cons t nil)) ts = sorted_pair b x t ts (is_symbol x)

abbrev pub bindings_by : ℕ → Option (Tok × Part) → Sexps Tok → Result Bindings ℕ
bindings_by b None ts = Ok no_bindings
bindings_by b (Some p) ts = made_of_two (with_binding b p.0) (read_term (whole p.1)) (read_bindings ts)

binding_alone : (b : ℕ) (x : Tok) (ts : Sexps Tok) (s : Bool) → Ok no_bindings ≡ bindings_by b (named_after x nil s) ts
binding_alone b x ts true = refl
binding_alone b x ts false = refl

binding_more : (b : ℕ) (x : Tok) (t u : Sexp Tok) (us ts : Sexps Tok) (s : Bool) → Ok no_bindings ≡ bindings_by b (named_after x (cons t (cons u us)) s) ts
binding_more b x t u us ts true = refl
binding_more b x t u us ts false = refl

binding_pair : (b : ℕ) (x : Tok) (t : Sexp Tok) (ts : Sexps Tok) (s : Bool)
    → (if s then made_of_two (with_binding b x) (read_term t) (read_bindings ts) else Ok no_bindings) ≡ bindings_by b (named_after x (cons t nil) s) ts
binding_pair b x t ts true = ap (λ (y : Sexp Tok). made_of_two (with_binding b x) (read_term y) (read_bindings ts)) (sym (whole-part_of t))
binding_pair b x t ts false = refl

pub read_bindings-first : (b : ℕ) (us ts : Sexps Tok) → read_bindings (cons (list b us) ts) ≡ bindings_by b (named_parts us) ts
unfolding read_term
read_bindings-first b nil ts = refl
read_bindings-first b (cons (list c vs) us) ts = refl
read_bindings-first b (cons (atom x) nil) ts = binding_alone b x ts (is_symbol x)
read_bindings-first b (cons (atom x) (cons t (cons u us))) ts = binding_more b x t u us ts (is_symbol x)
read_bindings-first b (cons (atom x) (cons t nil)) ts = binding_pair b x t ts (is_symbol x)

-- a pattern and what comes after it, by the test of the pattern
abbrev case_after : Part → Sexps Tok → Bool → Option (Part × Part)
case_after p r q =
    option_and_then (λ _. option_and_then (λ (t : Part × Sexps Tok). option_and_then (λ _. Some (p, t.0)) (guard (is_empty t.1))) (any_first r)) (guard q)

abbrev pub cases_by : ℕ → Option (Part × Part) → Sexps Tok → Result Cases ℕ
cases_by b None ts = Ok no_cases
cases_by b (Some p) ts = made_of_two (with_case b (pattern_of (whole p.0))) (read_term (whole p.1)) (read_cases ts)

case_alone : (b : ℕ) (p : Part) (ts : Sexps Tok) (q : Bool) → Ok no_cases ≡ cases_by b (case_after p nil q) ts
case_alone b p ts true = refl
case_alone b p ts false = refl

case_more : (b : ℕ) (p : Part) (t u : Sexp Tok) (us ts : Sexps Tok) (q : Bool) → Ok no_cases ≡ cases_by b (case_after p (cons t (cons u us)) q) ts
case_more b p t u us ts true = refl
case_more b p t u us ts false = refl

case_pair : (b : ℕ) (p : Part) (t : Sexp Tok) (ts : Sexps Tok) (q : Bool)
    → (if q then made_of_two (with_case b (pattern_of (whole p))) (read_term t) (read_cases ts) else Ok no_cases) ≡ cases_by b (case_after p (cons t nil) q) ts
case_pair b p t ts true = ap (λ (y : Sexp Tok). made_of_two (with_case b (pattern_of (whole p))) (read_term y) (read_cases ts)) (sym (whole-part_of t))
case_pair b p t ts false = refl

pub read_cases-first : (b : ℕ) (us ts : Sexps Tok) → read_cases (cons (list b us) ts) ≡ cases_by b (case_parts us) ts
unfolding read_term
read_cases-first b nil ts = refl
read_cases-first b (cons (atom w) nil) ts = case_alone b (part.Atom w) ts (is_pattern (atom w))
read_cases-first b (cons (list c vs) nil) ts = case_alone b (part.List c vs) ts (is_pattern (list c vs))
read_cases-first b (cons (atom w) (cons t (cons u us))) ts = case_more b (part.Atom w) t u us ts (is_pattern (atom w))
read_cases-first b (cons (list c vs) (cons t (cons u us))) ts = case_more b (part.List c vs) t u us ts (is_pattern (list c vs))
read_cases-first b (cons (atom w) (cons t nil)) ts = case_pair b (part.Atom w) t ts (is_pattern (atom w))
read_cases-first b (cons (list c vs) (cons t nil)) ts = case_pair b (part.List c vs) t ts (is_pattern (list c vs))

abbrev pub notes_by : Option (NoteForm × Sexps Tok) → Result Notes ℕ
notes_by None = Ok no_notes
notes_by (Some (note.Named n, ts)) = made_of (with_named n) (read_notes ts)
notes_by (Some (note.Pattern us, ts)) = made_of_two with_pattern (read_terms us) (read_notes ts)
notes_by (Some (note.Attribute k v, ts)) = made_of (with_attribute k v) (read_notes ts)

notes_alone : (k : Tok) (n p w : Bool)
    → (if w && (not n && not p) then Ok (with_attribute k None no_notes) else Ok no_notes) ≡ notes_by (alone k n p w)
unfolding read_term
notes_alone k true p true = refl
notes_alone k true p false = refl
notes_alone k false true true = refl
notes_alone k false true false = refl
notes_alone k false false true = refl
notes_alone k false false false = refl

notes_token : (k v : Tok) (ts : Sexps Tok) (n p w q s : Bool)
    → (if n then (if s then made_of (with_named v) (read_notes ts) else Ok no_notes)
    else if w && (not n && not p) then
    (if q then made_of (with_attribute k (Some (atom v))) (read_notes ts) else made_of (with_attribute k None) (read_notes (cons (atom v) ts)))
    else Ok no_notes)
    ≡ notes_by (then_token k v ts n p w q s)
notes_token k v ts true p w q true = refl
notes_token k v ts true p w q false = refl
notes_token k v ts false true true q s = refl
notes_token k v ts false true false q s = refl
notes_token k v ts false false true true s = refl
notes_token k v ts false false true false s = refl
notes_token k v ts false false false q s = refl

notes_list : (k : Tok) (at : ℕ) (us ts : Sexps Tok) (n p w e : Bool) → (n ≡ true → p ≡ false)
    → (if p then (if not e then made_of_two with_pattern (read_terms us) (read_notes ts) else Ok no_notes)
    else if w && (not n && not p) then made_of (with_attribute k (Some (list at us))) (read_notes ts)
    else Ok no_notes)
    ≡ notes_by (then_list k at us ts n p w e)
notes_list k at us ts true true w e h = absurd (no (h refl))
  where
    no : true ≡ false → ⊥
    no x = cc
notes_list k at us ts true false true e h = refl
notes_list k at us ts true false false e h = refl
notes_list k at us ts false true w true h = refl
notes_list k at us ts false true w false h = refl
notes_list k at us ts false false true e h = refl
notes_list k at us ts false false false e h = refl

pub read_notes-first : (ts : Sexps Tok) → read_notes ts ≡ notes_by (note_parts ts)
unfolding read_term
read_notes-first nil = refl
read_notes-first (cons (list b us) ts) = refl
read_notes-first (cons (atom k) nil) = notes_alone k (is_key NAMED k) (is_key PATTERN k) (is_keyword k)
read_notes-first (cons (atom k) (cons (atom v) ts)) =
    notes_token k v ts (is_key NAMED k) (is_key PATTERN k) (is_keyword k) (is_value_token v) (is_symbol v)
read_notes-first (cons (atom k) (cons (list b us) ts)) =
    notes_list k b us ts (is_key NAMED k) (is_key PATTERN k) (is_keyword k) (is_empty us) (one_key k)
