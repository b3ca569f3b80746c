-- The abstract syntax of sorts and terms (SMT-LIB 2.6, sections 3.3 to 3.6). A number beside a part is the byte of the
-- parenthesis that begins it.
use Rattle.std.specs.Prelude.{ℕ, List, [], ◌∷◌}
use Rattle.lex_core.specs.declared.token.Tok.{Tok}
use Rattle.sexp_core.specs.Sexp.{Sexp}

-- symbol | ( _ symbol index+ )
pub data Identifier : Type 0 where
  symbol : Tok → Identifier
  indexed : ℕ → Tok → List Tok → Identifier

-- identifier | ( identifier sort+ )
mutual
  pub data Sort : Type 0 where
    named_sort : Identifier → Sort
    applied_sort : ℕ → Identifier → Sorts → Sort

  pub data Sorts : Type 0 where
    no_sorts : Sorts
    with_sort : Sort → Sorts → Sorts

-- identifier | ( as identifier sort )
pub data Qualified : Type 0 where
  unqualified : Identifier → Qualified
  qualified : ℕ → Identifier → Sort → Qualified

-- ( symbol sort ): a variable or a selector
pub record SortedSymbol : Type 0 where
  pub at : ℕ
  pub name : Tok
  pub sort : Sort

-- symbol | ( symbol symbol+ )
pub data Pattern : Type 0 where
  symbol_pattern : Tok → Pattern
  constructor_pattern : ℕ → Tok → List Tok → Pattern

-- keyword | keyword value
pub data Attribute : Type 0 where
  keyword_attribute : Tok → Attribute
  valued_attribute : Tok → Sexp Tok → Attribute

-- One case for each production of a term. A binding is ( symbol term ), a case ( pattern term ), and a note an attribute
-- of a term.
mutual
  pub data Term : Type 0 where
    constant : Tok → Term
    qualified_term : Qualified → Term
    application : ℕ → Qualified → Terms → Term
    let_in : ℕ → Bindings → Term → Term
    for_all : ℕ → List SortedSymbol → Term → Term
    there_exists : ℕ → List SortedSymbol → Term → Term
    match_with : ℕ → Term → Cases → Term
    annotated : ℕ → Term → Notes → Term

  pub data Terms : Type 0 where
    no_terms : Terms
    with_term : Term → Terms → Terms

  pub data Bindings : Type 0 where
    no_bindings : Bindings
    with_binding : ℕ → Tok → Term → Bindings → Bindings

  pub data Cases : Type 0 where
    no_cases : Cases
    with_case : ℕ → Pattern → Term → Cases → Cases

  pub data Notes : Type 0 where
    no_notes : Notes
    with_note : Note → Notes → Notes

  -- :named symbol | :pattern ( term+ ) | attribute
  pub data Note : Type 0 where
    named_note : Tok → Note
    pattern_note : Terms → Note
    attribute_note : Attribute → Note

-- the byte where each begins

abbrev pub identifier_at : Identifier → ℕ
identifier_at (symbol t) = t.at
identifier_at (indexed at n is) = at

abbrev pub sort_at : Sort → ℕ
sort_at (named_sort i) = identifier_at i
sort_at (applied_sort at i ss) = at

abbrev pub qualified_at : Qualified → ℕ
qualified_at (unqualified i) = identifier_at i
qualified_at (qualified at i s) = at

abbrev pub pattern_at : Pattern → ℕ
pattern_at (symbol_pattern t) = t.at
pattern_at (constructor_pattern at c vs) = at

abbrev pub term_at : Term → ℕ
term_at (constant t) = t.at
term_at (qualified_term q) = qualified_at q
term_at (application at q ts) = at
term_at (let_in at bs u) = at
term_at (for_all at vs u) = at
term_at (there_exists at vs u) = at
term_at (match_with at u cs) = at
term_at (annotated at u ns) = at

-- the sorts as a list
abbrev pub each_sort : Sorts → List Sort
each_sort no_sorts = []
each_sort (with_sort s ss) = s ∷ each_sort ss

-- the terms as a list
abbrev pub each_term : Terms → List Term
each_term no_terms = []
each_term (with_term t ts) = t ∷ each_term ts

-- the attributes as a list
abbrev pub each_note : Notes → List Note
each_note no_notes = []
each_note (with_note n ns) = n ∷ each_note ns
