-- The grammar of sorts and terms: what a tree reads as, or the byte of the first tree in the position of a sort or a term
-- that has the shape of no production. A tree's own shape is judged before its parts. The reading of a list of bindings,
-- variables, cases or attributes ends at a tree that is none; where the whole has a shape, there is no such tree.
use Rattle.std.specs.Prelude.{ℕ, not, ◌&&◌, List, [], ◌∷◌, Option, Some, None, Result, Ok, Err, if◌then◌else◌}
use Rattle.lex_core.specs.declared.token.TokKind.TheVariants as kind
use Rattle.lex_core.specs.declared.token.Tok.{Tok}
use Rattle.sexp_core.specs.Sexp.{Sexp, atom, list, Sexps, nil, cons}
use Rattle.sexp_core.specs.Parts.{whole}
use Rattle.sexp_core.specs.declared.parts.Part.{Part}
use Rattle.term_grammar.specs.declared.words.TheConstants.{NAMED, PATTERN}
use Rattle.term_grammar.specs.declared.words.TermWord.{TermWord}
use Rattle.term_grammar.specs.declared.words.TermWord.TheVariants as word
use Rattle.term_grammar.specs.Words.{is_symbol, is_constant, is_key, is_value_token}
use Rattle.term_grammar.specs.FirstParts.{is_empty}
use Rattle.term_grammar.specs.Syntax.{Identifier, symbol, indexed, Sort, named_sort, applied_sort, Sorts, no_sorts, with_sort, Qualified, unqualified, qualified, SortedSymbol, Pattern, symbol_pattern, constructor_pattern, Term, constant, qualified_term, application, let_in, for_all, there_exists, match_with, annotated, Terms, no_terms, with_term, Bindings, no_bindings, with_binding, Cases, no_cases, with_case, Attribute, keyword_attribute, valued_attribute, Notes, no_notes, with_note, named_note, pattern_note, attribute_note}
use Rattle.term_grammar.specs.Forms.{indexed_parts, is_identifier}
use Rattle.term_grammar.specs.TermForms.{as_parts, is_qualified, is_pattern, is_other_key, constructor_parts, are_named, are_cases, are_notes, word_of}

-- a value made of parts; the first fault of the parts counts
abbrev pub made_of : {A B : Type 0} → (A → B) → Result A ℕ → Result B ℕ
made_of f (Ok a) = Ok (f a)
made_of f (Err e) = Err e

abbrev pub made_of_two : {A B C : Type 0} → (A → B → C) → Result A ℕ → Result B ℕ → Result C ℕ
made_of_two f (Ok a) r = made_of (f a) r
made_of_two f (Err e) r = Err e

abbrev pub made_of_three : {A B C D : Type 0} → (A → B → C → D) → Result A ℕ → Result B ℕ → Result C ℕ → Result D ℕ
made_of_three f (Ok a) r s = made_of_two (f a) r s
made_of_three f (Err e) r s = Err e

-- the byte where a tree begins
abbrev pub byte_of : Sexp Tok → ℕ
byte_of (atom t) = t.at
byte_of (list at ts) = at

-- the tokens among some trees
abbrev pub tokens_of : Sexps Tok → List Tok
tokens_of nil = []
tokens_of (cons (atom t) ts) = t ∷ tokens_of ts
tokens_of (cons (list at us) ts) = tokens_of ts

abbrev pub no_token : Tok
no_token = record { kind = kind.Symbol; name = 0; at = 0 }

abbrev pub indexed_by : ℕ → Option (Tok × Sexps Tok) → Identifier
indexed_by at (Some p) = indexed at p.0 (tokens_of p.1)
indexed_by at None = symbol no_token

-- the identifier that a tree reads as, if it is one
abbrev pub identifier_of : Sexp Tok → Identifier
identifier_of (atom t) = symbol t
identifier_of (list at ts) = indexed_by at (indexed_parts ts)

-- the pattern that a tree reads as, if it is one
abbrev pub pattern_by : ℕ → Option (Tok × Sexps Tok) → Pattern
pattern_by at (Some p) = constructor_pattern at p.0 (tokens_of p.1)
pattern_by at None = symbol_pattern no_token

abbrev pub pattern_of : Sexp Tok → Pattern
pattern_of (atom t) = symbol_pattern t
pattern_of (list at ts) = pattern_by at (constructor_parts ts)

-- an attribute, by its value if there is one
abbrev pub attribute_of : Tok → Option (Sexp Tok) → Attribute
attribute_of k None = keyword_attribute k
attribute_of k (Some v) = valued_attribute k v

abbrev pub with_named : Tok → Notes → Notes
with_named n ns = with_note (named_note n) ns

abbrev pub with_pattern : Terms → Notes → Notes
with_pattern ts ns = with_note (pattern_note ts) ns

abbrev pub with_attribute : Tok → Option (Sexp Tok) → Notes → Notes
with_attribute k v ns = with_note (attribute_note (attribute_of k v)) ns

-- identifier | ( identifier sort+ )
unfoldable mutual
  pub read_sort : Sexp Tok → Result Sort ℕ
  read_sort (atom t) = if is_identifier (atom t) then Ok (named_sort (identifier_of (atom t))) else Err t.at
  read_sort (list at nil) = Err at
  read_sort (list at (cons h ts)) =
      if is_identifier (list at (cons h ts)) then Ok (named_sort (identifier_of (list at (cons h ts))))
      else if is_identifier h && not (is_empty ts) then made_of (applied_sort at (identifier_of h)) (read_sorts ts)
      else Err at

  pub read_sorts : Sexps Tok → Result Sorts ℕ
  read_sorts nil = Ok no_sorts
  read_sorts (cons t ts) = made_of_two with_sort (read_sort t) (read_sorts ts)

abbrev pub with_sorted : ℕ → Tok → Sort → List SortedSymbol → List SortedSymbol
with_sorted at x s ss = record { at = at; name = x; sort = s } ∷ ss

-- ( symbol sort ), again and again
unfoldable pub read_sorted : Sexps Tok → Result (List SortedSymbol) ℕ
read_sorted (cons (list b (cons (atom x) (cons t nil))) ts) =
    if is_symbol x then made_of_two (with_sorted b x) (read_sort t) (read_sorted ts) else Ok []
read_sorted _ = Ok []

abbrev pub qualified_by : ℕ → Option (Part × Part) → Result Qualified ℕ
qualified_by at (Some p) = made_of (qualified at (identifier_of (whole p.0))) (read_sort (whole p.1))
qualified_by at None = Err at

-- identifier | ( as identifier sort )
unfoldable pub read_qualified : Sexp Tok → Result Qualified ℕ
read_qualified (atom t) = if is_symbol t then Ok (unqualified (symbol t)) else Err t.at
read_qualified (list at ts) = if is_identifier (list at ts) then Ok (unqualified (identifier_of (list at ts))) else qualified_by at (as_parts ts)

-- the reading of the production that a word begins
abbrev pub by_word : {R : Type 0} → TermWord → R → R → R → R → R → R → R
by_word word.Let of_let of_forall of_exists of_match of_annotation other = of_let
by_word word.Forall of_let of_forall of_exists of_match of_annotation other = of_forall
by_word word.Exists of_let of_forall of_exists of_match of_annotation other = of_exists
by_word word.Match of_let of_forall of_exists of_match of_annotation other = of_match
by_word word.Annotation of_let of_forall of_exists of_match of_annotation other = of_annotation
by_word word.Other of_let of_forall of_exists of_match of_annotation other = other

unfoldable mutual
  pub read_term : Sexp Tok → Result Term ℕ
  read_term (atom t) =
      if is_qualified (atom t) then made_of qualified_term (read_qualified (atom t))
      else if is_constant t then Ok (constant t)
      else Err t.at
  read_term (list at nil) = Err at
  read_term (list at (cons h ts)) =
      if is_qualified (list at (cons h ts)) then made_of qualified_term (read_qualified (list at (cons h ts)))
      else if is_qualified h then read_application at h ts
      else by_word (word_of h) (read_let at ts) (read_binder for_all at ts) (read_binder there_exists at ts) (read_match at ts) (read_annotation at ts) (Err at)

  -- ( qualified term+ )
  pub read_application : ℕ → Sexp Tok → Sexps Tok → Result Term ℕ
  read_application at h nil = Err at
  read_application at h (cons t ts) = made_of_two (application at) (read_qualified h) (made_of_two with_term (read_term t) (read_terms ts))

  -- ( let ( binding+ ) term )
  pub read_let : ℕ → Sexps Tok → Result Term ℕ
  read_let at (cons (list b bs) (cons u nil)) =
      if not (is_empty bs) && are_named bs then made_of_two (let_in at) (read_bindings bs) (read_term u) else Err at
  read_let at _ = Err at

  -- ( forall ( variable+ ) term ) | ( exists ( variable+ ) term )
  pub read_binder : (ℕ → List SortedSymbol → Term → Term) → ℕ → Sexps Tok → Result Term ℕ
  read_binder f at (cons (list b vs) (cons u nil)) =
      if not (is_empty vs) && are_named vs then made_of_two (f at) (read_sorted vs) (read_term u) else Err at
  read_binder f at _ = Err at

  -- ( match term ( case+ ) )
  pub read_match : ℕ → Sexps Tok → Result Term ℕ
  read_match at (cons u (cons (list b cs) nil)) =
      if not (is_empty cs) && are_cases cs then made_of_two (match_with at) (read_term u) (read_cases cs) else Err at
  read_match at _ = Err at

  -- ( ! term note+ )
  pub read_annotation : ℕ → Sexps Tok → Result Term ℕ
  read_annotation at (cons u ns) =
      if not (is_empty ns) && are_notes ns then made_of_two (annotated at) (read_term u) (read_notes ns) else Err at
  read_annotation at nil = Err at

  pub read_terms : Sexps Tok → Result Terms ℕ
  read_terms nil = Ok no_terms
  read_terms (cons t ts) = made_of_two with_term (read_term t) (read_terms ts)

  -- ( symbol term ), again and again
  pub read_bindings : Sexps Tok → Result Bindings ℕ
  read_bindings (cons (list b (cons (atom x) (cons t nil))) bs) =
      if is_symbol x then made_of_two (with_binding b x) (read_term t) (read_bindings bs) else Ok no_bindings
  read_bindings _ = Ok no_bindings

  -- ( pattern term ), again and again
  pub read_cases : Sexps Tok → Result Cases ℕ
  read_cases (cons (list b (cons p (cons t nil))) cs) =
      if is_pattern p then made_of_two (with_case b (pattern_of p)) (read_term t) (read_cases cs) else Ok no_cases
  read_cases _ = Ok no_cases

  -- :named symbol | :pattern ( term+ ) | keyword | keyword value, again and again
  pub read_notes : Sexps Tok → Result Notes ℕ
  read_notes (cons (atom k) nil) = if is_other_key k then Ok (with_attribute k None no_notes) else Ok no_notes
  read_notes (cons (atom k) (cons (atom v) ns)) =
      if is_key NAMED k then (if is_symbol v then made_of (with_named v) (read_notes ns) else Ok no_notes)
      else if is_other_key k then
      (if is_value_token v then made_of (with_attribute k (Some (atom v))) (read_notes ns)
      else made_of (with_attribute k None) (read_notes (cons (atom v) ns)))
      else Ok no_notes
  read_notes (cons (atom k) (cons (list b us) ns)) =
      if is_key PATTERN k then (if not (is_empty us) then made_of_two with_pattern (read_terms us) (read_notes ns) else Ok no_notes)
      else if is_other_key k then made_of (with_attribute k (Some (list b us))) (read_notes ns)
      else Ok no_notes
  read_notes _ = Ok no_notes
