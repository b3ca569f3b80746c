-- The values of attributes (SMT-LIB 2.6, section 3.4).
use Rattle.std.specs.Prelude.{Bool, true}
use Rattle.lex_core.specs.declared.token.Tok.{Tok}
use Rattle.sexp_core.specs.Sexp.{Sexp, atom, list}
use Rattle.term_grammar.specs.Words.{is_value_token}

-- constant | symbol | ( sexpr* )
abbrev pub is_value : Sexp Tok → Bool
is_value (atom t) = is_value_token t
is_value (list at ts) = true
