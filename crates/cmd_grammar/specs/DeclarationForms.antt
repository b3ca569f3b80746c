-- The form of the declarations and literals in commands: their parts, where any tree is a sort or a term.
use Rattle.std.specs.List.{list_all}
use Rattle.std.specs.Prelude.{Bool, false, not, ◌&&◌, ◌||◌, ◌==◌, Option, Some, None, is_some}
use Rattle.lex_core.specs.declared.token.Tok.{Tok}
use Rattle.sexp_core.specs.Sexp.{Sexp, atom, list, Sexps}
use Rattle.sexp_core.specs.declared.parts.Part.{Part}
use Rattle.term_grammar.specs.declared.words.TheConstants.{PAR, NOT, TRUE, FALSE, GLOBAL_DECLARATIONS}
use Rattle.term_grammar.specs.Words.{is_symbol, is_numeral, is_reserved, is_keyword, is_key}
use Rattle.term_grammar.specs.FirstParts.{◌>>=◌, any_first, token_first, symbol_first, list_first, is_empty, guard}
use Rattle.term_grammar.specs.TermForms.{are_symbols, are_named, value_first}
use Rattle.cmd_grammar.specs.declared.declaration_form.FunDefParts.{FunDefParts}
use Rattle.cmd_grammar.specs.TreeLists.{each_tree}

-- symbol numeral
abbrev pub sort_dec_parts : Sexps Tok → Option (Tok × Tok)
sort_dec_parts ts = do
  n ← symbol_first ts
  a ← token_first n.1
  _ ← guard (is_numeral a.0)
  _ ← guard (is_empty a.1)
  Some (n.0, a.0)

-- ( symbol numeral )
abbrev pub is_sort_dec : Sexp Tok → Bool
is_sort_dec (atom t) = false
is_sort_dec (list at ts) = is_some (sort_dec_parts ts)

abbrev pub are_sort_decs : Sexps Tok → Bool
are_sort_decs ts = list_all is_sort_dec (each_tree ts)

-- symbol selector*
abbrev pub constructor_dec_parts : Sexps Tok → Option (Tok × Sexps Tok)
constructor_dec_parts ts = do
  n ← symbol_first ts
  _ ← guard (are_named n.1)
  Some (n.0, n.1)

-- ( symbol selector* )
abbrev pub is_constructor_dec : Sexp Tok → Bool
is_constructor_dec (atom t) = false
is_constructor_dec (list at ts) = is_some (constructor_dec_parts ts)

abbrev pub are_constructor_decs : Sexps Tok → Bool
are_constructor_decs ts = list_all is_constructor_dec (each_tree ts)

-- par ( symbol+ ) ( con_dec+ )
abbrev pub parametric_parts : Sexps Tok → Option (Sexps Tok × Sexps Tok)
parametric_parts ts = do
  w ← token_first ts
  _ ← guard (is_reserved PAR w.0)
  p ← list_first w.1
  _ ← guard (not (is_empty p.0))
  _ ← guard (are_symbols p.0)
  c ← list_first p.1
  _ ← guard (is_empty c.1)
  _ ← guard (not (is_empty c.0))
  _ ← guard (are_constructor_decs c.0)
  Some (p.0, c.0)

-- ( con_dec+ ) | ( par ( symbol+ ) ( con_dec+ ) )
abbrev pub is_data_dec : Sexp Tok → Bool
is_data_dec (atom t) = false
is_data_dec (list at ts) = is_some (parametric_parts ts) || (not (is_empty ts) && are_constructor_decs ts)

abbrev pub are_data_decs : Sexps Tok → Bool
are_data_decs ts = list_all is_data_dec (each_tree ts)

-- symbol ( variable* ) sort
abbrev pub fun_dec_parts : Sexps Tok → Option (Tok × Sexps Tok × Part)
fun_dec_parts ts = do
  n ← symbol_first ts
  v ← list_first n.1
  _ ← guard (are_named v.0)
  s ← any_first v.1
  _ ← guard (is_empty s.1)
  Some (n.0, v.0, s.0)

-- ( symbol ( variable* ) sort )
abbrev pub is_fun_dec : Sexp Tok → Bool
is_fun_dec (atom t) = false
is_fun_dec (list at ts) = is_some (fun_dec_parts ts)

abbrev pub are_fun_decs : Sexps Tok → Bool
are_fun_decs ts = list_all is_fun_dec (each_tree ts)

-- symbol ( variable* ) sort term
abbrev pub fun_def_parts : Sexps Tok → Option FunDefParts
fun_def_parts ts = do
  a ← symbol_first ts
  b ← list_first a.1
  c ← any_first b.1
  d ← any_first c.1
  _ ← guard (are_named b.0)
  _ ← guard (is_empty d.1)
  Some (record { name = a.0; params = b.0; result = c.0; body = d.0 })

-- not symbol
abbrev pub negated_parts : Sexps Tok → Option (Tok × Tok)
negated_parts ts = do
  w ← symbol_first ts
  _ ← guard (w.0.name == NOT)
  s ← symbol_first w.1
  _ ← guard (is_empty s.1)
  Some (w.0, s.0)

-- symbol | ( not symbol )
abbrev pub is_literal : Sexp Tok → Bool
is_literal (atom t) = is_symbol t
is_literal (list at ts) = is_some (negated_parts ts)

abbrev pub are_literals : Sexps Tok → Bool
are_literals ts = list_all is_literal (each_tree ts)

-- keyword | keyword value
abbrev pub attribute_parts : Sexps Tok → Option (Tok × Option (Sexp Tok))
attribute_parts ts = do
  k ← token_first ts
  _ ← guard (is_keyword k.0)
  _ ← guard (is_empty (value_first k.1).1)
  Some (k.0, (value_first k.1).0)

-- the symbol `true` or the symbol `false`
abbrev pub is_truth : Option (Sexp Tok) → Bool
is_truth None = false
is_truth (Some (atom t)) = is_symbol t && (t.name == TRUE || t.name == FALSE)
is_truth (Some (list at ts)) = false

-- what a command sets `:global-declarations` to is a truth value
abbrev pub option_fits : Tok → Option (Sexp Tok) → Bool
option_fits k v = not (is_key GLOBAL_DECLARATIONS k) || is_truth v
