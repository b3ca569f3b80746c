-- The grammar of the declarations and literals in commands: what a tree reads as, or the byte of the first tree, a tree
-- before its parts, that has the shape of no production.
use Rattle.std.specs.Prelude.{ℕ, List, [], Option, Some, None, Result, Err}
use Rattle.std.specs.Result.{result_unwrap_or}
use Rattle.lex_core.specs.declared.token.Tok.{Tok}
use Rattle.sexp_core.specs.Sexp.{Sexp, atom, list, Sexps}
use Rattle.sexp_core.specs.Parts.{whole}
use Rattle.sexp_core.specs.declared.parts.Part.{Part}
use Rattle.term_grammar.specs.Syntax.{symbol, SortedSymbol, Sort, named_sort, Term}
use Rattle.term_grammar.specs.Reads.{made_of, made_of_two, made_of_three, tokens_of, no_token, read_sort, read_sorted, read_term}
use Rattle.cmd_grammar.specs.declared.declaration_form.FunDefParts.{FunDefParts}
use Rattle.cmd_grammar.specs.Commands.{SortDec, ConstructorDec, DataDec, plain_data, parametric_data, FunDec, FunDef, Literal, positive, negative}
use Rattle.cmd_grammar.specs.DeclarationForms.{sort_dec_parts, constructor_dec_parts, parametric_parts, fun_dec_parts, negated_parts}
use Rattle.cmd_grammar.specs.TreeLists.{read_all}

abbrev pub negative_by : ℕ → Option (Tok × Tok) → Literal
negative_by at (Some p) = negative at p.0 p.1
negative_by at None = positive no_token

-- symbol | ( not symbol ), where the tree is one
abbrev pub literal_of : Sexp Tok → Literal
literal_of (atom t) = positive t
literal_of (list at ts) = negative_by at (negated_parts ts)

abbrev pub sort_dec_by : ℕ → Option (Tok × Tok) → SortDec
sort_dec_by at (Some p) = record { at = at; name = p.0; arity = p.1 }
sort_dec_by at None = record { at = at; name = no_token; arity = no_token }

-- ( symbol numeral ), where the tree is one
abbrev pub sort_dec_of : Sexp Tok → SortDec
sort_dec_of (atom t) = sort_dec_by t.at None
sort_dec_of (list at ts) = sort_dec_by at (sort_dec_parts ts)

abbrev pub constructor_dec : ℕ → Tok → List SortedSymbol → ConstructorDec
constructor_dec at n ss = record { at = at; name = n; selectors = ss }

abbrev pub constructor_dec_by : ℕ → Option (Tok × Sexps Tok) → Result ConstructorDec ℕ
constructor_dec_by at (Some p) = made_of (constructor_dec at p.0) (read_sorted p.1)
constructor_dec_by at None = Err at

-- ( symbol selector* )
abbrev pub read_constructor_dec : Sexp Tok → Result ConstructorDec ℕ
read_constructor_dec (atom t) = Err t.at
read_constructor_dec (list at ts) = constructor_dec_by at (constructor_dec_parts ts)

abbrev pub data_dec_by : ℕ → Sexps Tok → Option (Sexps Tok × Sexps Tok) → Result DataDec ℕ
data_dec_by at ts (Some p) = made_of (parametric_data at (tokens_of p.0)) (read_all read_constructor_dec p.1)
data_dec_by at ts None = made_of (plain_data at) (read_all read_constructor_dec ts)

-- ( con_dec+ ) | ( par ( symbol+ ) ( con_dec+ ) )
abbrev pub read_data_dec : Sexp Tok → Result DataDec ℕ
read_data_dec (atom t) = Err t.at
read_data_dec (list at ts) = data_dec_by at ts (parametric_parts ts)

abbrev pub fun_dec : ℕ → Tok → List SortedSymbol → Sort → FunDec
fun_dec at n ps r = record { at = at; name = n; params = ps; result = r }

abbrev pub fun_dec_by : ℕ → Option (Tok × Sexps Tok × Part) → Result FunDec ℕ
fun_dec_by at (Some p) = made_of_two (fun_dec at p.0) (read_sorted p.1) (read_sort (whole p.2))
fun_dec_by at None = Err at

-- ( symbol ( variable* ) sort )
abbrev pub read_fun_dec : Sexp Tok → Result FunDec ℕ
read_fun_dec (atom t) = Err t.at
read_fun_dec (list at ts) = fun_dec_by at (fun_dec_parts ts)

abbrev pub fun_def : Tok → List SortedSymbol → Sort → Term → FunDef
fun_def n ps r b = record { name = n; params = ps; result = r; body = b }

-- symbol ( variable* ) sort term
abbrev pub read_fun_def : FunDefParts → Result FunDef ℕ
read_fun_def f = made_of_three (fun_def f.name) (read_sorted f.params) (read_sort (whole f.result)) (read_term (whole f.body))

-- What trees read as, where they read.

abbrev pub constructor_dec_of : Sexp Tok → ConstructorDec
constructor_dec_of t = result_unwrap_or (read_constructor_dec t) (constructor_dec 0 no_token [])

abbrev pub data_dec_of : Sexp Tok → DataDec
data_dec_of t = result_unwrap_or (read_data_dec t) (plain_data 0 [])

abbrev pub fun_dec_of : Sexp Tok → FunDec
fun_dec_of t = result_unwrap_or (read_fun_dec t) (fun_dec 0 no_token [] (named_sort (symbol no_token)))
