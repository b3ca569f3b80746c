-- Codes of the abstract syntax: each constructor as one s-expression, so that sorts and terms may be the values of views.
use Rattle.std.specs.Prelude.{◌≡◌, List, [], ◌∷◌, refl}
use Rattle.std.specs.Coded.{Coded, code_by}
use Rattle.std.proofs.Common.{zero, suc}
use Rattle.lex_core.specs.declared.token.Tok.{Tok}
use Rattle.sexp_core.specs.Sexp.{Sexp, atom, list, Sexps, nil, cons}
use Rattle.sexp_core.specs.Items.{sexp_code, sexps_code}
use Rattle.term_grammar.specs.Syntax.{Identifier, symbol, indexed, Sort, named_sort, applied_sort, Sorts, no_sorts, with_sort, Qualified, unqualified, qualified, SortedSymbol, Pattern, symbol_pattern, constructor_pattern, Attribute, keyword_attribute, valued_attribute, Term, constant, qualified_term, application, let_in, for_all, there_exists, match_with, annotated, Terms, no_terms, with_term, Bindings, no_bindings, with_binding, Cases, no_cases, with_case, Notes, no_notes, with_note, Note, named_note, pattern_note, attribute_note}
use Rattle.term_grammar.specs.FirstParts.{atoms}
use Rattle.term_grammar.specs.Reads.{no_token, tokens_of}

-- tokens

pub tokens_of-atoms : (ts : List Tok) → tokens_of (atoms ts) ≡ ts
tokens_of-atoms [] = refl
tokens_of-atoms (t ∷ ts) = rw (tokens_of-atoms ts) refl

abbrev pub tokens_code : Coded (List Tok)
tokens_code = code_by (Sexps Tok) sexps_code atoms tokens_of tokens_of-atoms

-- identifiers

abbrev pub encode_identifier : Identifier → Sexp Tok
encode_identifier (symbol t) = atom t
encode_identifier (indexed at n is) = list at (cons (atom n) (atoms is))

abbrev pub decode_identifier : Sexp Tok → Identifier
decode_identifier (atom t) = symbol t
decode_identifier (list at (cons (atom n) is)) = indexed at n (tokens_of is)
decode_identifier _ = symbol no_token

pub decode-encode_identifier : (i : Identifier) → decode_identifier (encode_identifier i) ≡ i
decode-encode_identifier (symbol t) = refl
decode-encode_identifier (indexed at n is) = rw (tokens_of-atoms is) refl

abbrev pub identifier_code : Coded Identifier
identifier_code = code_by (Sexp Tok) sexp_code encode_identifier decode_identifier decode-encode_identifier

-- sorts

abbrev mutual
  pub encode_sort : Sort → Sexp Tok
  encode_sort (named_sort i) = list 0 (cons (encode_identifier i) nil)
  encode_sort (applied_sort at i ss) = list 1 (cons (list at (encode_sorts ss)) (cons (encode_identifier i) nil))

  pub encode_sorts : Sorts → Sexps Tok
  encode_sorts no_sorts = nil
  encode_sorts (with_sort s ss) = cons (encode_sort s) (encode_sorts ss)

abbrev mutual
  pub decode_sort : Sexp Tok → Sort
  decode_sort (list zero (cons i us)) = named_sort (decode_identifier i)
  decode_sort (list (suc n) (cons (list at ss) (cons i us))) = applied_sort at (decode_identifier i) (decode_sorts ss)
  decode_sort _ = named_sort (symbol no_token)

  pub decode_sorts : Sexps Tok → Sorts
  decode_sorts nil = no_sorts
  decode_sorts (cons s ss) = with_sort (decode_sort s) (decode_sorts ss)

mutual
  pub decode-encode_sort : (s : Sort) → decode_sort (encode_sort s) ≡ s
  decode-encode_sort (named_sort i) = rw (decode-encode_identifier i) refl
  decode-encode_sort (applied_sort at i ss) = rw (decode-encode_identifier i, decode-encode_sorts ss) refl

  pub decode-encode_sorts : (ss : Sorts) → decode_sorts (encode_sorts ss) ≡ ss
  decode-encode_sorts no_sorts = refl
  decode-encode_sorts (with_sort s ss) = rw (decode-encode_sort s, decode-encode_sorts ss) refl

abbrev pub sort_code : Coded Sort
sort_code = code_by (Sexp Tok) sexp_code encode_sort decode_sort decode-encode_sort

abbrev pub sorts_code : Coded Sorts
sorts_code = code_by (Sexps Tok) sexps_code encode_sorts decode_sorts decode-encode_sorts

-- qualified identifiers

abbrev pub encode_qualified : Qualified → Sexp Tok
encode_qualified (unqualified i) = list 0 (cons (encode_identifier i) nil)
encode_qualified (qualified at i s) = list 1 (cons (list at (cons (encode_sort s) nil)) (cons (encode_identifier i) nil))

abbrev pub decode_qualified : Sexp Tok → Qualified
decode_qualified (list zero (cons i us)) = unqualified (decode_identifier i)
decode_qualified (list (suc n) (cons (list at (cons s us)) (cons i vs))) = qualified at (decode_identifier i) (decode_sort s)
decode_qualified _ = unqualified (symbol no_token)

pub decode-encode_qualified : (q : Qualified) → decode_qualified (encode_qualified q) ≡ q
decode-encode_qualified (unqualified i) = rw (decode-encode_identifier i) refl
decode-encode_qualified (qualified at i s) = rw (decode-encode_identifier i, decode-encode_sort s) refl

abbrev pub qualified_code : Coded Qualified
qualified_code = code_by (Sexp Tok) sexp_code encode_qualified decode_qualified decode-encode_qualified

-- variables and selectors

abbrev pub encode_sorted_symbol : SortedSymbol → Sexp Tok
encode_sorted_symbol v = list v.at (cons (atom v.name) (cons (encode_sort v.sort) nil))

abbrev pub decode_sorted_symbol : Sexp Tok → SortedSymbol
decode_sorted_symbol (list at (cons (atom x) (cons s us))) = record { at = at; name = x; sort = decode_sort s }
decode_sorted_symbol _ = record { at = 0; name = no_token; sort = named_sort (symbol no_token) }

pub decode-encode_sorted_symbol : (v : SortedSymbol) → decode_sorted_symbol (encode_sorted_symbol v) ≡ v
decode-encode_sorted_symbol v = rw (decode-encode_sort v.sort) refl

abbrev pub sorted_symbol_code : Coded SortedSymbol
sorted_symbol_code = code_by (Sexp Tok) sexp_code encode_sorted_symbol decode_sorted_symbol decode-encode_sorted_symbol

abbrev pub encode_sorted_symbols : List SortedSymbol → Sexps Tok
encode_sorted_symbols [] = nil
encode_sorted_symbols (v ∷ vs) = cons (encode_sorted_symbol v) (encode_sorted_symbols vs)

abbrev pub decode_sorted_symbols : Sexps Tok → List SortedSymbol
decode_sorted_symbols nil = []
decode_sorted_symbols (cons t ts) = decode_sorted_symbol t ∷ decode_sorted_symbols ts

pub decode-encode_sorted_symbols : (vs : List SortedSymbol) → decode_sorted_symbols (encode_sorted_symbols vs) ≡ vs
decode-encode_sorted_symbols [] = refl
decode-encode_sorted_symbols (v ∷ vs) = rw (decode-encode_sorted_symbol v, decode-encode_sorted_symbols vs) refl

abbrev pub sorted_symbols_code : Coded (List SortedSymbol)
sorted_symbols_code = code_by (Sexps Tok) sexps_code encode_sorted_symbols decode_sorted_symbols decode-encode_sorted_symbols

-- patterns

abbrev pub encode_pattern : Pattern → Sexp Tok
encode_pattern (symbol_pattern t) = atom t
encode_pattern (constructor_pattern at c vs) = list at (cons (atom c) (atoms vs))

abbrev pub decode_pattern : Sexp Tok → Pattern
decode_pattern (atom t) = symbol_pattern t
decode_pattern (list at (cons (atom c) vs)) = constructor_pattern at c (tokens_of vs)
decode_pattern _ = symbol_pattern no_token

pub decode-encode_pattern : (p : Pattern) → decode_pattern (encode_pattern p) ≡ p
decode-encode_pattern (symbol_pattern t) = refl
decode-encode_pattern (constructor_pattern at c vs) = rw (tokens_of-atoms vs) refl

abbrev pub pattern_code : Coded Pattern
pattern_code = code_by (Sexp Tok) sexp_code encode_pattern decode_pattern decode-encode_pattern

-- attributes

abbrev pub encode_attribute : Attribute → Sexp Tok
encode_attribute (keyword_attribute k) = atom k
encode_attribute (valued_attribute k v) = list 0 (cons (atom k) (cons v nil))

abbrev pub decode_attribute : Sexp Tok → Attribute
decode_attribute (atom k) = keyword_attribute k
decode_attribute (list n (cons (atom k) (cons v us))) = valued_attribute k v
decode_attribute _ = keyword_attribute no_token

pub decode-encode_attribute : (a : Attribute) → decode_attribute (encode_attribute a) ≡ a
decode-encode_attribute (keyword_attribute k) = refl
decode-encode_attribute (valued_attribute k v) = refl

abbrev pub attribute_code : Coded Attribute
attribute_code = code_by (Sexp Tok) sexp_code encode_attribute decode_attribute decode-encode_attribute

-- terms

abbrev mutual
  pub encode_term : Term → Sexp Tok
  encode_term (constant t) = list 0 (cons (atom t) nil)
  encode_term (qualified_term q) = list 1 (cons (encode_qualified q) nil)
  encode_term (application at q ts) = list 2 (cons (list at (encode_terms ts)) (cons (encode_qualified q) nil))
  encode_term (let_in at bs u) = list 3 (cons (list at (encode_bindings bs)) (cons (encode_term u) nil))
  encode_term (for_all at vs u) = list 4 (cons (list at (encode_sorted_symbols vs)) (cons (encode_term u) nil))
  encode_term (there_exists at vs u) = list 5 (cons (list at (encode_sorted_symbols vs)) (cons (encode_term u) nil))
  encode_term (match_with at u cs) = list 6 (cons (list at (encode_cases cs)) (cons (encode_term u) nil))
  encode_term (annotated at u ns) = list 7 (cons (list at (encode_notes ns)) (cons (encode_term u) nil))

  pub encode_terms : Terms → Sexps Tok
  encode_terms no_terms = nil
  encode_terms (with_term t ts) = cons (encode_term t) (encode_terms ts)

  pub encode_bindings : Bindings → Sexps Tok
  encode_bindings no_bindings = nil
  encode_bindings (with_binding at x t bs) = cons (list at (cons (atom x) (cons (encode_term t) nil))) (encode_bindings bs)

  pub encode_cases : Cases → Sexps Tok
  encode_cases no_cases = nil
  encode_cases (with_case at p t cs) = cons (list at (cons (encode_pattern p) (cons (encode_term t) nil))) (encode_cases cs)

  pub encode_notes : Notes → Sexps Tok
  encode_notes no_notes = nil
  encode_notes (with_note n ns) = cons (encode_note n) (encode_notes ns)

  pub encode_note : Note → Sexp Tok
  encode_note (named_note n) = atom n
  encode_note (pattern_note ts) = list 0 (encode_terms ts)
  encode_note (attribute_note a) = list 1 (cons (encode_attribute a) nil)

abbrev mutual
  pub decode_term : Sexp Tok → Term
  decode_term (list zero (cons (atom t) us)) = constant t
  decode_term (list (suc zero) (cons q us)) = qualified_term (decode_qualified q)
  decode_term (list (suc (suc zero)) (cons (list at ts) (cons q us))) = application at (decode_qualified q) (decode_terms ts)
  decode_term (list (suc (suc (suc zero))) (cons (list at bs) (cons u us))) = let_in at (decode_bindings bs) (decode_term u)
  decode_term (list (suc (suc (suc (suc zero)))) (cons (list at vs) (cons u us))) = for_all at (decode_sorted_symbols vs) (decode_term u)
  decode_term (list (suc (suc (suc (suc (suc zero))))) (cons (list at vs) (cons u us))) = there_exists at (decode_sorted_symbols vs) (decode_term u)
  decode_term (list (suc (suc (suc (suc (suc (suc zero)))))) (cons (list at cs) (cons u us))) = match_with at (decode_term u) (decode_cases cs)
  decode_term (list (suc (suc (suc (suc (suc (suc (suc n))))))) (cons (list at ns) (cons u us))) = annotated at (decode_term u) (decode_notes ns)
  decode_term _ = constant no_token

  pub decode_terms : Sexps Tok → Terms
  decode_terms nil = no_terms
  decode_terms (cons t ts) = with_term (decode_term t) (decode_terms ts)

  pub decode_bindings : Sexps Tok → Bindings
  decode_bindings (cons (list at (cons (atom x) (cons t us))) bs) = with_binding at x (decode_term t) (decode_bindings bs)
  decode_bindings _ = no_bindings

  pub decode_cases : Sexps Tok → Cases
  decode_cases (cons (list at (cons p (cons t us))) cs) = with_case at (decode_pattern p) (decode_term t) (decode_cases cs)
  decode_cases _ = no_cases

  pub decode_notes : Sexps Tok → Notes
  decode_notes nil = no_notes
  decode_notes (cons n ns) = with_note (decode_note n) (decode_notes ns)

  pub decode_note : Sexp Tok → Note
  decode_note (atom n) = named_note n
  decode_note (list zero ts) = pattern_note (decode_terms ts)
  decode_note (list (suc n) (cons a us)) = attribute_note (decode_attribute a)
  decode_note _ = named_note no_token

mutual
  pub decode-encode_term : (t : Term) → decode_term (encode_term t) ≡ t
  decode-encode_term (constant t) = refl
  decode-encode_term (qualified_term q) = rw (decode-encode_qualified q) refl
  decode-encode_term (application at q ts) = rw (decode-encode_qualified q, decode-encode_terms ts) refl
  decode-encode_term (let_in at bs u) = rw (decode-encode_bindings bs, decode-encode_term u) refl
  decode-encode_term (for_all at vs u) = rw (decode-encode_sorted_symbols vs, decode-encode_term u) refl
  decode-encode_term (there_exists at vs u) = rw (decode-encode_sorted_symbols vs, decode-encode_term u) refl
  decode-encode_term (match_with at u cs) = rw (decode-encode_cases cs, decode-encode_term u) refl
  decode-encode_term (annotated at u ns) = rw (decode-encode_notes ns, decode-encode_term u) refl

  pub decode-encode_terms : (ts : Terms) → decode_terms (encode_terms ts) ≡ ts
  decode-encode_terms no_terms = refl
  decode-encode_terms (with_term t ts) = rw (decode-encode_term t, decode-encode_terms ts) refl

  pub decode-encode_bindings : (bs : Bindings) → decode_bindings (encode_bindings bs) ≡ bs
  decode-encode_bindings no_bindings = refl
  decode-encode_bindings (with_binding at x t bs) = rw (decode-encode_term t, decode-encode_bindings bs) refl

  pub decode-encode_cases : (cs : Cases) → decode_cases (encode_cases cs) ≡ cs
  decode-encode_cases no_cases = refl
  decode-encode_cases (with_case at p t cs) = rw (decode-encode_pattern p, decode-encode_term t, decode-encode_cases cs) refl

  pub decode-encode_notes : (ns : Notes) → decode_notes (encode_notes ns) ≡ ns
  decode-encode_notes no_notes = refl
  decode-encode_notes (with_note n ns) = rw (decode-encode_note n, decode-encode_notes ns) refl

  pub decode-encode_note : (n : Note) → decode_note (encode_note n) ≡ n
  decode-encode_note (named_note n) = refl
  decode-encode_note (pattern_note ts) = rw (decode-encode_terms ts) refl
  decode-encode_note (attribute_note a) = rw (decode-encode_attribute a) refl

abbrev pub term_code : Coded Term
term_code = code_by (Sexp Tok) sexp_code encode_term decode_term decode-encode_term

abbrev pub terms_code : Coded Terms
terms_code = code_by (Sexps Tok) sexps_code encode_terms decode_terms decode-encode_terms

abbrev pub bindings_code : Coded Bindings
bindings_code = code_by (Sexps Tok) sexps_code encode_bindings decode_bindings decode-encode_bindings

abbrev pub cases_code : Coded Cases
cases_code = code_by (Sexps Tok) sexps_code encode_cases decode_cases decode-encode_cases

abbrev pub notes_code : Coded Notes
notes_code = code_by (Sexps Tok) sexps_code encode_notes decode_notes decode-encode_notes

abbrev pub note_code : Coded Note
note_code = code_by (Sexp Tok) sexp_code encode_note decode_note decode-encode_note
