-- What the views of declarations and literals show.
use Rattle.std.specs.Prelude.{ℕ}
use Rattle.lex_core.specs.declared.token.Tok.{Tok}
use Rattle.term_grammar.specs.Syntax.{SortedSymbol, symbol, unqualified, Term, qualified_term, application, no_terms, with_term}
use Rattle.term_grammar.specs.declared.binder.RawVariable.{RawVariable}
use Rattle.cmd_grammar.specs.declared.literal.RawLiteralKind.{RawLiteralKind}
use Rattle.cmd_grammar.specs.declared.literal.RawLiteralKind.TheVariants as literal
use Rattle.cmd_grammar.specs.declared.sort_dec.RawSortDec.{RawSortDec}
use Rattle.cmd_grammar.specs.declared.datatype_dec.RawSelector.{RawSelector}
use Rattle.cmd_grammar.specs.declared.datatype_dec.RawConDec.{RawConDec}
use Rattle.cmd_grammar.specs.declared.datatype_dec.RawDataDecKind.{RawDataDecKind}
use Rattle.cmd_grammar.specs.declared.datatype_dec.RawDataDecKind.TheVariants as datatype
use Rattle.cmd_grammar.specs.declared.fun_dec.RawFunDec.{RawFunDec}
use Rattle.cmd_grammar.specs.declared.fun_dec.RawFunDef.{RawFunDef}
use Rattle.cmd_grammar.specs.Commands.{SortDec, ConstructorDec, DataDec, plain_data, parametric_data, FunDec, FunDef, Literal, positive, negative}

-- the first byte of a literal
abbrev pub literal_at : Literal → ℕ
literal_at (positive t) = t.at
literal_at (negative at w t) = at

-- the production of a literal
abbrev pub literal_kind : Literal → RawLiteralKind
literal_kind (positive t) = literal.Symbol t
literal_kind (negative at w t) = literal.Not t

abbrev pub symbol_term : Tok → Term
symbol_term t = qualified_term (unqualified (symbol t))

-- a literal read as a term: the symbol, or the application of `not` to it
abbrev pub literal_term : Literal → Term
literal_term (positive t) = symbol_term t
literal_term (negative at w t) = application at (unqualified (symbol w)) (with_term (symbol_term t) no_terms)

-- the first byte of the declaration of a datatype
abbrev pub data_dec_at : DataDec → ℕ
data_dec_at (plain_data at cs) = at
data_dec_at (parametric_data at ps cs) = at

-- the production of the declaration of a datatype
abbrev pub data_dec_kind : DataDec → RawDataDecKind
data_dec_kind (plain_data at cs) = datatype.Plain cs
data_dec_kind (parametric_data at ps cs) = datatype.Parametric ps cs

-- what a view shows, part by part

abbrev pub sort_dec_seen : RawSortDec → SortDec
sort_dec_seen d = record { at = d.at; name = d.name; arity = d.arity }

abbrev pub variable_seen : RawVariable → SortedSymbol
variable_seen v = record { at = v.at; name = v.name; sort = v.sort }

abbrev pub selector_seen : RawSelector → SortedSymbol
selector_seen s = record { at = s.at; name = s.name; sort = s.sort }

abbrev pub constructor_dec_seen : RawConDec → ConstructorDec
constructor_dec_seen c = record { at = c.at; name = c.name; selectors = c.selectors }

abbrev pub fun_dec_seen : RawFunDec → FunDec
fun_dec_seen f = record { at = f.at; name = f.name; params = f.params; result = f.result }

abbrev pub fun_def_seen : RawFunDef → FunDef
fun_def_seen f = record { name = f.name; params = f.params; result = f.result; body = f.body }
