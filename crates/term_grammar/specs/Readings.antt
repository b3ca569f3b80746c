-- What a tree or some trees read as, if they read.
use Rattle.std.specs.Prelude.{List, []}
use Rattle.std.specs.Result.{result_unwrap_or}
use Rattle.lex_core.specs.declared.token.Tok.{Tok}
use Rattle.sexp_core.specs.Sexp.{Sexp, Sexps}
use Rattle.term_grammar.specs.Syntax.{symbol, Sort, named_sort, Sorts, no_sorts, Qualified, unqualified, SortedSymbol, Term, constant, Terms, no_terms, Bindings, no_bindings, Cases, no_cases, Notes, no_notes}
use Rattle.term_grammar.specs.Reads.{no_token, read_sort, read_sorts, read_sorted, read_qualified, read_term, read_terms, read_bindings, read_cases, read_notes}

abbrev pub sort_of : Sexp Tok → Sort
sort_of t = result_unwrap_or (read_sort t) (named_sort (symbol no_token))

abbrev pub sorts_of : Sexps Tok → Sorts
sorts_of ts = result_unwrap_or (read_sorts ts) no_sorts

abbrev pub sorted_of : Sexps Tok → List SortedSymbol
sorted_of ts = result_unwrap_or (read_sorted ts) []

abbrev pub qualified_of : Sexp Tok → Qualified
qualified_of t = result_unwrap_or (read_qualified t) (unqualified (symbol no_token))

abbrev pub term_of : Sexp Tok → Term
term_of t = result_unwrap_or (read_term t) (constant no_token)

abbrev pub terms_of : Sexps Tok → Terms
terms_of ts = result_unwrap_or (read_terms ts) no_terms

abbrev pub bindings_of : Sexps Tok → Bindings
bindings_of ts = result_unwrap_or (read_bindings ts) no_bindings

abbrev pub cases_of : Sexps Tok → Cases
cases_of ts = result_unwrap_or (read_cases ts) no_cases

abbrev pub notes_of : Sexps Tok → Notes
notes_of ts = result_unwrap_or (read_notes ts) no_notes
