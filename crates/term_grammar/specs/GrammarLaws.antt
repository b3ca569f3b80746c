-- Laws of the grammar of sorts and terms.
use Rattle.std.specs.Prelude.{◌≡◌, ℕ, Ok, Err, ◌↔◌, ◌⊎◌}
use Rattle.lex_core.specs.declared.token.Tok.{Tok}
use Rattle.sexp_core.specs.Sexp.{Sexp}
use Rattle.term_grammar.specs.Syntax.{Sort, sort_at, Term, term_at}
use Rattle.term_grammar.specs.Reads.{byte_of, read_sort, read_term}
use Rattle.term_grammar.specs.Grammar.{ReadsSort, ReadsTerm}
use Rattle.term_grammar.specs.Faults.{FaultOfSort, FaultOfTerm}

-- what is read of a tree is what the grammar says
abbrev pub SortsAreRead : Type 0
SortsAreRead = (t : Sexp Tok) (s : Sort) → ReadsSort t s ↔ (read_sort t ≡ Ok s)

abbrev pub TermsAreRead : Type 0
TermsAreRead = (t : Sexp Tok) (u : Term) → ReadsTerm t u ↔ (read_term t ≡ Ok u)

-- the fault that is found is that of the first tree without a shape
abbrev pub SortFaultsAreFound : Type 0
SortFaultsAreFound = (t : Sexp Tok) (n : ℕ) → FaultOfSort t n ↔ (read_sort t ≡ Err n)

abbrev pub TermFaultsAreFound : Type 0
TermFaultsAreFound = (t : Sexp Tok) (n : ℕ) → FaultOfTerm t n ↔ (read_term t ≡ Err n)

-- a tree is at most one sort, and at most one term
abbrev pub AtMostOneSort : Type 0
AtMostOneSort = (t : Sexp Tok) (r s : Sort) → ReadsSort t r → ReadsSort t s → r ≡ s

abbrev pub AtMostOneTerm : Type 0
AtMostOneTerm = (t : Sexp Tok) (u v : Term) → ReadsTerm t u → ReadsTerm t v → u ≡ v

-- a tree reads or has a fault
abbrev pub SortOrFault : Type 0
SortOrFault = (t : Sexp Tok) → ((s : Sort) × ReadsSort t s) ⊎ ((n : ℕ) × FaultOfSort t n)

abbrev pub TermOrFault : Type 0
TermOrFault = (t : Sexp Tok) → ((u : Term) × ReadsTerm t u) ⊎ ((n : ℕ) × FaultOfTerm t n)

-- a sort and a term begin where their tree does
abbrev pub SortsBegin : Type 0
SortsBegin = (t : Sexp Tok) (s : Sort) → ReadsSort t s → sort_at s ≡ byte_of t

abbrev pub TermsBegin : Type 0
TermsBegin = (t : Sexp Tok) (u : Term) → ReadsTerm t u → term_at u ≡ byte_of t
