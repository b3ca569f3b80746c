-- The grammar of sorts and terms (SMT-LIB 2.6, sections 3.3 to 3.6): which trees read as which abstract syntax, one case for
-- each production.
use Rattle.std.specs.Prelude.{◌≡◌, ℕ, not, List, [], ◌∷◌, IsTrue}
use Rattle.lex_core.specs.declared.token.Tok.{Tok}
use Rattle.sexp_core.specs.Sexp.{Sexp, atom, list, Sexps, nil, cons, append}
use Rattle.term_grammar.specs.declared.words.TheConstants.{UNDERSCORE, AS, LET, FORALL, EXISTS, MATCH, ANNOTATION, NAMED, PATTERN}
use Rattle.term_grammar.specs.Words.{is_symbol, is_index, is_constant, is_keyword, is_reserved, is_key}
use Rattle.term_grammar.specs.FirstParts.{atoms, is_empty}
use Rattle.term_grammar.specs.Values.{is_value}
use Rattle.term_grammar.specs.Syntax.{Identifier, symbol, indexed, Sort, named_sort, applied_sort, Sorts, no_sorts, with_sort, Qualified, unqualified, qualified, SortedSymbol, Pattern, symbol_pattern, constructor_pattern, Attribute, keyword_attribute, valued_attribute, Term, constant, qualified_term, application, let_in, for_all, there_exists, match_with, annotated, Terms, no_terms, with_term, Bindings, no_bindings, with_binding, Cases, no_cases, with_case, Notes, no_notes, with_note, Note, named_note, pattern_note, attribute_note}

-- one tree or more
abbrev pub NotEmpty : Sexps Tok → Type 0
NotEmpty ts = IsTrue (not (is_empty ts))

-- the trees that are tokens with a property
abbrev pub AreIndices : List Tok → Type 0
AreIndices [] = Unit {0}
AreIndices (t ∷ ts) = IsTrue (is_index t) × AreIndices ts

abbrev pub AreSymbols : List Tok → Type 0
AreSymbols [] = Unit {0}
AreSymbols (t ∷ ts) = IsTrue (is_symbol t) × AreSymbols ts

-- symbol | ( _ symbol index+ )
abbrev pub ReadsIdentifier : Sexp Tok → Identifier → Type 0
ReadsIdentifier t (symbol x) = (t ≡ atom x) × IsTrue (is_symbol x)
ReadsIdentifier t (indexed at x is) =
    (w : Tok) × (t ≡ list at (cons (atom w) (cons (atom x) (atoms is)))) × IsTrue (is_reserved UNDERSCORE w) × IsTrue (is_symbol x)
    × NotEmpty (atoms is) × AreIndices is

-- identifier | ( identifier sort+ )
abbrev mutual
  pub ReadsSort : Sexp Tok → Sort → Type 0
  ReadsSort t (named_sort i) = ReadsIdentifier t i
  ReadsSort t (applied_sort at i ss) =
      (h : Sexp Tok) × (ts : Sexps Tok) × (t ≡ list at (cons h ts)) × ReadsIdentifier h i × NotEmpty ts × ReadsSorts ts ss

  pub ReadsSorts : Sexps Tok → Sorts → Type 0
  ReadsSorts ts no_sorts = ts ≡ nil
  ReadsSorts ts (with_sort s ss) = (u : Sexp Tok) × (us : Sexps Tok) × (ts ≡ cons u us) × ReadsSort u s × ReadsSorts us ss

-- identifier | ( as identifier sort )
abbrev pub ReadsQualified : Sexp Tok → Qualified → Type 0
ReadsQualified t (unqualified i) = ReadsIdentifier t i
ReadsQualified t (qualified at i s) =
    (w : Tok) × (h : Sexp Tok) × (u : Sexp Tok) × (t ≡ list at (cons (atom w) (cons h (cons u nil)))) × IsTrue (is_reserved AS w)
    × ReadsIdentifier h i × ReadsSort u s

-- ( symbol sort ), again and again
abbrev pub ReadsVariables : Sexps Tok → List SortedSymbol → Type 0
ReadsVariables ts [] = ts ≡ nil
ReadsVariables ts (v ∷ vs) =
    (u : Sexp Tok) × (us : Sexps Tok) × (ts ≡ cons (list v.at (cons (atom v.name) (cons u nil))) us) × IsTrue (is_symbol v.name)
    × ReadsSort u v.sort × ReadsVariables us vs

-- symbol | ( symbol symbol+ )
abbrev pub ReadsPattern : Sexp Tok → Pattern → Type 0
ReadsPattern t (symbol_pattern x) = (t ≡ atom x) × IsTrue (is_symbol x)
ReadsPattern t (constructor_pattern at c vs) =
    (t ≡ list at (cons (atom c) (atoms vs))) × IsTrue (is_symbol c) × NotEmpty (atoms vs) × AreSymbols vs

-- keyword | keyword value
abbrev pub ReadsAttribute : Sexps Tok → Attribute → Type 0
ReadsAttribute ts (keyword_attribute k) = (ts ≡ cons (atom k) nil) × IsTrue (is_keyword k)
ReadsAttribute ts (valued_attribute k v) = (ts ≡ cons (atom k) (cons v nil)) × IsTrue (is_keyword k) × IsTrue (is_value v)

abbrev pub keyword_of : Attribute → Tok
keyword_of (keyword_attribute k) = k
keyword_of (valued_attribute k v) = k

abbrev mutual
  pub ReadsTerm : Sexp Tok → Term → Type 0
  ReadsTerm t (constant c) = (t ≡ atom c) × IsTrue (is_constant c)
  ReadsTerm t (qualified_term q) = ReadsQualified t q
  -- ( qualified term+ )
  ReadsTerm t (application at q us) =
      (h : Sexp Tok) × (ts : Sexps Tok) × (t ≡ list at (cons h ts)) × ReadsQualified h q × NotEmpty ts × ReadsTerms ts us
  -- ( let ( binding+ ) term )
  ReadsTerm t (let_in at bs u) =
      (w : Tok) × (b : ℕ) × (ts : Sexps Tok) × (v : Sexp Tok) × (t ≡ list at (cons (atom w) (cons (list b ts) (cons v nil))))
      × IsTrue (is_reserved LET w) × NotEmpty ts × ReadsBindings ts bs × ReadsTerm v u
  -- ( forall ( variable+ ) term )
  ReadsTerm t (for_all at vs u) =
      (w : Tok) × (b : ℕ) × (ts : Sexps Tok) × (v : Sexp Tok) × (t ≡ list at (cons (atom w) (cons (list b ts) (cons v nil))))
      × IsTrue (is_reserved FORALL w) × NotEmpty ts × ReadsVariables ts vs × ReadsTerm v u
  -- ( exists ( variable+ ) term )
  ReadsTerm t (there_exists at vs u) =
      (w : Tok) × (b : ℕ) × (ts : Sexps Tok) × (v : Sexp Tok) × (t ≡ list at (cons (atom w) (cons (list b ts) (cons v nil))))
      × IsTrue (is_reserved EXISTS w) × NotEmpty ts × ReadsVariables ts vs × ReadsTerm v u
  -- ( match term ( case+ ) )
  ReadsTerm t (match_with at u cs) =
      (w : Tok) × (b : ℕ) × (ts : Sexps Tok) × (v : Sexp Tok) × (t ≡ list at (cons (atom w) (cons v (cons (list b ts) nil))))
      × IsTrue (is_reserved MATCH w) × NotEmpty ts × ReadsTerm v u × ReadsCases ts cs
  -- ( ! term note+ )
  ReadsTerm t (annotated at u ns) =
      (w : Tok) × (ts : Sexps Tok) × (v : Sexp Tok) × (t ≡ list at (cons (atom w) (cons v ts)))
      × IsTrue (is_reserved ANNOTATION w) × NotEmpty ts × ReadsTerm v u × ReadsNotes ts ns

  pub ReadsTerms : Sexps Tok → Terms → Type 0
  ReadsTerms ts no_terms = ts ≡ nil
  ReadsTerms ts (with_term t us) = (v : Sexp Tok) × (vs : Sexps Tok) × (ts ≡ cons v vs) × ReadsTerm v t × ReadsTerms vs us

  -- ( symbol term ), again and again
  pub ReadsBindings : Sexps Tok → Bindings → Type 0
  ReadsBindings ts no_bindings = ts ≡ nil
  ReadsBindings ts (with_binding at x t bs) =
      (u : Sexp Tok) × (us : Sexps Tok) × (ts ≡ cons (list at (cons (atom x) (cons u nil))) us) × IsTrue (is_symbol x)
      × ReadsTerm u t × ReadsBindings us bs

  -- ( pattern term ), again and again
  pub ReadsCases : Sexps Tok → Cases → Type 0
  ReadsCases ts no_cases = ts ≡ nil
  ReadsCases ts (with_case at p t cs) =
      (q : Sexp Tok) × (u : Sexp Tok) × (us : Sexps Tok) × (ts ≡ cons (list at (cons q (cons u nil))) us) × ReadsPattern q p
      × ReadsTerm u t × ReadsCases us cs

  -- the trees of one attribute, and then those of the others
  pub ReadsNotes : Sexps Tok → Notes → Type 0
  ReadsNotes ts no_notes = ts ≡ nil
  ReadsNotes ts (with_note n ns) = (us : Sexps Tok) × (vs : Sexps Tok) × (ts ≡ append us vs) × ReadsNote us n × ReadsNotes vs ns

  -- :named symbol | :pattern ( term+ ) | attribute, where the keyword is another one
  pub ReadsNote : Sexps Tok → Note → Type 0
  ReadsNote ts (named_note n) = (k : Tok) × (ts ≡ cons (atom k) (cons (atom n) nil)) × IsTrue (is_key NAMED k) × IsTrue (is_symbol n)
  ReadsNote ts (pattern_note us) =
      (k : Tok) × (b : ℕ) × (vs : Sexps Tok) × (ts ≡ cons (atom k) (cons (list b vs) nil)) × IsTrue (is_key PATTERN k)
      × NotEmpty vs × ReadsTerms vs us
  ReadsNote ts (attribute_note a) =
      ReadsAttribute ts a × IsTrue (not (is_key NAMED (keyword_of a))) × IsTrue (not (is_key PATTERN (keyword_of a)))
