-- The attributes of a term, one after the other.
use Rattle.std.proofs.Common.{◌≡◌, ℕ, ◌+◌, ◌≤◌, Bool, true, false, not, ◌&&◌, ◌==◌, if◌then◌else◌, Option, Some, None, option_and_then, refl, arith}
use Rattle.std.proofs.lemmas.Bool.{eqb-true}
use Rattle.lex_core.specs.declared.token.Tok.{Tok}
use Rattle.sexp_core.specs.Sexp.{Sexp, atom, list, Sexps, nil, cons, count_of}
use Rattle.term_grammar.specs.declared.words.TheConstants.{NAMED, PATTERN}
use Rattle.term_grammar.specs.declared.term_form.NoteForm.{NoteForm}
use Rattle.term_grammar.specs.declared.term_form.NoteForm.TheVariants as note
use Rattle.term_grammar.specs.Words.{is_symbol, is_keyword, is_key, is_value_token, keyword_kind}
use Rattle.term_grammar.specs.FirstParts.{is_empty, guard}
use Rattle.term_grammar.specs.TermForms.{note_parts, are_notes}

-- whether what follows an attribute belongs to attributes
abbrev pub notes_after : Option (NoteForm × Sexps Tok) → Bool
notes_after None = false
notes_after (Some p) = are_notes p.1

abbrev pub trees_after : Option (NoteForm × Sexps Tok) → ℕ
trees_after None = 0
trees_after (Some p) = count_of p.1 + 1

-- what a keyword alone makes, by the tests of it
abbrev pub alone : Tok → Bool → Bool → Bool → Option (NoteForm × Sexps Tok)
alone k n p w = if n then None else if p then None else option_and_then (λ _. Some (note.Attribute k None, nil)) (guard w)

-- a token that is a value or not
abbrev pub token_value : Tok → Sexps Tok → Bool → Option (Sexp Tok) × Sexps Tok
token_value v ts q = if q then (Some (atom v), ts) else (None, cons (atom v) ts)

-- what a keyword and a token after it make, by the tests of them
abbrev pub then_token : Tok → Tok → Sexps Tok → Bool → Bool → Bool → Bool → Bool → Option (NoteForm × Sexps Tok)
then_token k v ts n p w q s =
    if n then option_and_then (λ (x : Tok × Sexps Tok). Some (note.Named x.0, x.1)) (if s then Some (v, ts) else None)
    else if p then None
    else option_and_then (λ _. Some (note.Attribute k (token_value v ts q).0, (token_value v ts q).1)) (guard w)

-- what a keyword and a list after it make, by the tests of them
abbrev pub then_list : Tok → ℕ → Sexps Tok → Sexps Tok → Bool → Bool → Bool → Bool → Option (NoteForm × Sexps Tok)
then_list k at us ts n p w e =
    if n then None
    else if p then option_and_then (λ _. Some (note.Pattern us, ts)) (guard (not e))
    else option_and_then (λ _. Some (note.Attribute k (Some (list at us)), ts)) (guard w)

alone_is : (k : Tok) (n p w : Bool) → (w && (not n && not p)) ≡ notes_after (alone k n p w)
alone_is k true p true = refl
alone_is k true p false = refl
alone_is k false true true = refl
alone_is k false true false = refl
alone_is k false false true = refl
alone_is k false false false = refl

alone_fewer : (k : Tok) (n p w : Bool) → trees_after (alone k n p w) ≤ 1
alone_fewer k true p w = omega arith
alone_fewer k false true w = omega arith
alone_fewer k false false true = omega arith
alone_fewer k false false false = omega arith

then_token_is : (k v : Tok) (ts : Sexps Tok) (n p w q s : Bool)
    → (if n then s && are_notes ts else ((w && (not n && not p)) && (if q then are_notes ts else are_notes (cons (atom v) ts)))) ≡ notes_after (then_token k v ts n p w q s)
then_token_is k v ts true p w q true = refl
then_token_is k v ts true p w q false = refl
then_token_is k v ts false true true q s = refl
then_token_is k v ts false true false q s = refl
then_token_is k v ts false false true true s = refl
then_token_is k v ts false false true false s = refl
then_token_is k v ts false false false q s = refl

then_token_fewer : (k v : Tok) (ts : Sexps Tok) (n p w q s : Bool) → trees_after (then_token k v ts n p w q s) ≤ count_of ts + 1 + 1
then_token_fewer k v ts true p w q true = omega arith
then_token_fewer k v ts true p w q false = omega arith
then_token_fewer k v ts false true w q s = omega arith
then_token_fewer k v ts false false true true s = omega arith
then_token_fewer k v ts false false true false s = omega arith
then_token_fewer k v ts false false false q s = omega arith

then_list_is : (k : Tok) (at : ℕ) (us ts : Sexps Tok) (n p w e : Bool) → (n ≡ true → p ≡ false)
    → (if p then not e && are_notes ts else ((w && (not n && not p)) && are_notes ts)) ≡ notes_after (then_list k at us ts n p w e)
then_list_is k at us ts true true w e h = absurd (no (h refl))
  where
    no : true ≡ false → ⊥
    no x = cc
then_list_is k at us ts true false true e h = refl
then_list_is k at us ts true false false e h = refl
then_list_is k at us ts false true w true h = refl
then_list_is k at us ts false true w false h = refl
then_list_is k at us ts false false true e h = refl
then_list_is k at us ts false false false e h = refl

then_list_fewer : (k : Tok) (at : ℕ) (us ts : Sexps Tok) (n p w e : Bool) → trees_after (then_list k at us ts n p w e) ≤ count_of ts + 1 + 1
then_list_fewer k at us ts true p w e = omega arith
then_list_fewer k at us ts false true w true = omega arith
then_list_fewer k at us ts false true w false = omega arith
then_list_fewer k at us ts false false true e = omega arith
then_list_fewer k at us ts false false false e = omega arith

-- a keyword is not two fixed ones
pub one_key : (k : Tok) → is_key NAMED k ≡ true → is_key PATTERN k ≡ false
one_key k e = two_numbers (keyword_kind k.kind) k.name e
  where
    two_numbers : (b : Bool) (n : ℕ) → (b && (n == 44)) ≡ true → (b && (n == 45)) ≡ false
    two_numbers true n e = let h : n ≡ 44 = eqb-true n 44 e in rw h refl
    two_numbers false n e = refl

pub are_notes-first : (ts : Sexps Tok) → is_empty ts ≡ false → are_notes ts ≡ notes_after (note_parts ts)
are_notes-first nil e = absurd (no e)
  where
    no : true ≡ false → ⊥
    no x = cc
are_notes-first (cons (list at us) ts) e = refl
are_notes-first (cons (atom k) nil) e = alone_is k (is_key NAMED k) (is_key PATTERN k) (is_keyword k)
are_notes-first (cons (atom k) (cons (atom v) ts)) e =
    then_token_is k v ts (is_key NAMED k) (is_key PATTERN k) (is_keyword k) (is_value_token v) (is_symbol v)
are_notes-first (cons (atom k) (cons (list at us) ts)) e =
    then_list_is k at us ts (is_key NAMED k) (is_key PATTERN k) (is_keyword k) (is_empty us) (one_key k)

-- an attribute takes at least one tree
pub fewer_after : (ts : Sexps Tok) → trees_after (note_parts ts) ≤ count_of ts
fewer_after nil = omega arith
fewer_after (cons (list at us) ts) = omega arith
fewer_after (cons (atom k) nil) = alone_fewer k (is_key NAMED k) (is_key PATTERN k) (is_keyword k)
fewer_after (cons (atom k) (cons (atom v) ts)) =
    then_token_fewer k v ts (is_key NAMED k) (is_key PATTERN k) (is_keyword k) (is_value_token v) (is_symbol v)
fewer_after (cons (atom k) (cons (list at us) ts)) =
    then_list_fewer k at us ts (is_key NAMED k) (is_key PATTERN k) (is_keyword k) (is_empty us)
