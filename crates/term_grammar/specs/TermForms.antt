-- The form of a term: the parts of its production, whose own forms are not judged yet.
use Rattle.std.specs.Prelude.{ℕ, Bool, true, false, not, ◌&&◌, ◌||◌, Option, Some, None, is_some, Result, Ok, Err, if◌then◌else◌}
use Rattle.lex_core.specs.declared.token.Tok.{Tok}
use Rattle.sexp_core.specs.Sexp.{Sexp, atom, list, Sexps, nil, cons}
use Rattle.sexp_core.specs.Parts.{whole}
use Rattle.sexp_core.specs.declared.parts.Part.{Part}
use Rattle.term_grammar.specs.declared.words.TheConstants.{AS, NAMED, PATTERN}
use Rattle.term_grammar.specs.declared.words.TermWord.{TermWord}
use Rattle.term_grammar.specs.declared.words.TermWord.TheVariants as word
use Rattle.term_grammar.specs.declared.term_form.TermForm.{TermForm}
use Rattle.term_grammar.specs.declared.term_form.TermForm.TheVariants as term
use Rattle.term_grammar.specs.declared.term_form.NoteForm.{NoteForm}
use Rattle.term_grammar.specs.declared.term_form.NoteForm.TheVariants as note
use Rattle.term_grammar.specs.Words.{is_symbol, is_reserved, is_constant, is_keyword, is_key, is_value_token, begins_with}
use Rattle.term_grammar.specs.FirstParts.{◌>>=◌, any_first, token_first, symbol_first, list_first, is_empty, guard}
use Rattle.term_grammar.specs.Values.{is_value}
use Rattle.term_grammar.specs.Forms.{is_identifier}

-- after the word `as`: identifier sort
abbrev pub as_parts : Sexps Tok → Option (Part × Part)
as_parts ts = do
  w ← token_first ts
  _ ← guard (is_reserved AS w.0)
  i ← any_first w.1
  _ ← guard (is_identifier (whole i.0))
  s ← any_first i.1
  _ ← guard (is_empty s.1)
  Some (i.0, s.0)

abbrev pub is_as : Sexp Tok → Bool
is_as (atom t) = false
is_as (list at ts) = is_some (as_parts ts)

-- identifier | ( as identifier sort )
abbrev pub is_qualified : Sexp Tok → Bool
is_qualified t = is_identifier t || is_as t

-- each of some trees is a symbol
abbrev pub are_symbols : Sexps Tok → Bool
are_symbols nil = true
are_symbols (cons (atom t) ts) = is_symbol t && are_symbols ts
are_symbols (cons (list at us) ts) = false

-- symbol symbol+
abbrev pub constructor_parts : Sexps Tok → Option (Tok × Sexps Tok)
constructor_parts ts = do
  c ← symbol_first ts
  _ ← guard (not (is_empty c.1))
  _ ← guard (are_symbols c.1)
  Some (c.0, c.1)

-- symbol | ( symbol symbol+ )
abbrev pub is_pattern : Sexp Tok → Bool
is_pattern (atom t) = is_symbol t
is_pattern (list at ts) = is_some (constructor_parts ts)

-- symbol tree: a binding, a variable or a selector
abbrev pub named_parts : Sexps Tok → Option (Tok × Part)
named_parts ts = do
  n ← symbol_first ts
  t ← any_first n.1
  _ ← guard (is_empty t.1)
  Some (n.0, t.0)

-- each of some trees is ( symbol tree )
abbrev pub are_named : Sexps Tok → Bool
are_named nil = true
are_named (cons (atom t) ts) = false
are_named (cons (list at us) ts) = is_some (named_parts us) && are_named ts

-- pattern term
abbrev pub case_parts : Sexps Tok → Option (Part × Part)
case_parts ts = do
  p ← any_first ts
  _ ← guard (is_pattern (whole p.0))
  t ← any_first p.1
  _ ← guard (is_empty t.1)
  Some (p.0, t.0)

-- each of some trees is ( pattern term )
abbrev pub are_cases : Sexps Tok → Bool
are_cases nil = true
are_cases (cons (atom t) ts) = false
are_cases (cons (list at us) ts) = is_some (case_parts us) && are_cases ts

-- the value that comes next, if one does, and the others
abbrev pub value_first : Sexps Tok → Option (Sexp Tok) × Sexps Tok
value_first nil = (None, nil)
value_first (cons t ts) = if is_value t then (Some t, ts) else (None, cons t ts)

abbrev pub named_note : Sexps Tok → Option (NoteForm × Sexps Tok)
named_note ts = do
  n ← symbol_first ts
  Some (note.Named n.0, n.1)

abbrev pub pattern_note : Sexps Tok → Option (NoteForm × Sexps Tok)
pattern_note ts = do
  p ← list_first ts
  _ ← guard (not (is_empty p.0))
  Some (note.Pattern p.0, p.1)

abbrev pub attribute_note : Tok → Sexps Tok → Option (NoteForm × Sexps Tok)
attribute_note k ts = do
  _ ← guard (is_keyword k)
  Some (note.Attribute k (value_first ts).0, (value_first ts).1)

abbrev pub note_after : Tok → Sexps Tok → Option (NoteForm × Sexps Tok)
note_after k ts = if is_key NAMED k then named_note ts else if is_key PATTERN k then pattern_note ts else attribute_note k ts

-- the first of the attributes of a term, and the others
abbrev pub note_parts : Sexps Tok → Option (NoteForm × Sexps Tok)
note_parts ts = do
  k ← token_first ts
  note_after k.0 k.1

-- the keyword of an attribute of the third production
abbrev pub is_other_key : Tok → Bool
is_other_key k = is_keyword k && (not (is_key NAMED k) && not (is_key PATTERN k))

-- Each of some trees belongs to an attribute of a term. A keyword takes the value that comes next.
abbrev pub are_notes : Sexps Tok → Bool
are_notes nil = true
are_notes (cons (list at us) ts) = false
are_notes (cons (atom k) nil) = is_other_key k
are_notes (cons (atom k) (cons (atom v) ts)) =
    if is_key NAMED k then is_symbol v && are_notes ts
    else is_other_key k && (if is_value_token v then are_notes ts else are_notes (cons (atom v) ts))
are_notes (cons (atom k) (cons (list at us) ts)) =
    if is_key PATTERN k then not (is_empty us) && are_notes ts
    else is_other_key k && are_notes ts

-- ( binding+ ) term, or ( variable+ ) term
abbrev pub binder_parts : Sexps Tok → Option (Sexps Tok × Part)
binder_parts ts = do
  b ← list_first ts
  t ← any_first b.1
  _ ← guard (is_empty t.1)
  _ ← guard (not (is_empty b.0))
  _ ← guard (are_named b.0)
  Some (b.0, t.0)

-- term ( case+ )
abbrev pub match_parts : Sexps Tok → Option (Part × Sexps Tok)
match_parts ts = do
  t ← any_first ts
  c ← list_first t.1
  _ ← guard (is_empty c.1)
  _ ← guard (not (is_empty c.0))
  _ ← guard (are_cases c.0)
  Some (t.0, c.0)

-- term note+
abbrev pub annotation_parts : Sexps Tok → Option (Part × Sexps Tok)
annotation_parts ts = do
  t ← any_first ts
  _ ← guard (not (is_empty t.1))
  _ ← guard (are_notes t.1)
  Some (t.0, t.1)

abbrev pub word_form : TermWord → Sexps Tok → Option TermForm
word_form word.Let ts = do
  b ← binder_parts ts
  Some (term.Let b.0 b.1)
word_form word.Forall ts = do
  b ← binder_parts ts
  Some (term.Forall b.0 b.1)
word_form word.Exists ts = do
  b ← binder_parts ts
  Some (term.Exists b.0 b.1)
word_form word.Match ts = do
  m ← match_parts ts
  Some (term.Match m.0 m.1)
word_form word.Annotation ts = do
  n ← annotation_parts ts
  Some (term.Annotated n.0 n.1)
word_form word.Other ts = None

abbrev pub application_form : Part → Sexps Tok → Option TermForm
application_form h ts = if is_empty ts then None else Some (term.Application h ts)

-- the word that begins a list; a list begins no production but an application
abbrev pub word_of : Sexp Tok → TermWord
word_of (atom w) = begins_with w
word_of (list at ts) = word.Other

abbrev pub head_form : Part → Sexps Tok → Option TermForm
head_form h ts = if is_qualified (whole h) then application_form h ts else word_form (word_of (whole h)) ts

abbrev pub list_form : Sexps Tok → Option TermForm
list_form ts = do
  h ← any_first ts
  head_form h.0 h.1

abbrev pub or_at : ℕ → Option TermForm → Result TermForm ℕ
or_at at (Some f) = Ok f
or_at at None = Err at

abbrev pub unqualified_form : Sexp Tok → Result TermForm ℕ
unqualified_form (atom t) = if is_constant t then Ok (term.Constant t) else Err t.at
unqualified_form (list at ts) = or_at at (list_form ts)

-- the form of a term, or the first byte of a tree that has none
abbrev pub term_form : Sexp Tok → Result TermForm ℕ
term_form t = if is_qualified t then Ok term.Qualified else unqualified_form t
