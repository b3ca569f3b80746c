-- What the views of attributes, their values and s-expressions show.
use Rattle.std.specs.Prelude.{◌≡◌, Option, Some, None, if◌then◌else◌}
use Rattle.lex_core.specs.declared.token.Tok.{Tok}
use Rattle.sexp_core.specs.Sexp.{Sexp, atom, list, Sexps, nil, cons}
use Rattle.term_grammar.specs.declared.attribute.RawAttributeKind.{RawAttributeKind}
use Rattle.term_grammar.specs.declared.attribute.RawAttributeKind.TheVariants as kind
use Rattle.term_grammar.specs.declared.attribute.RawValueKind.{RawValueKind}
use Rattle.term_grammar.specs.declared.attribute.RawValueKind.TheVariants as value
use Rattle.term_grammar.specs.declared.sexpr.RawSexprKind.{RawSexprKind}
use Rattle.term_grammar.specs.declared.sexpr.RawSexprKind.TheVariants as sexpr
use Rattle.term_grammar.specs.Words.{is_constant, is_symbol, is_keyword}
use Rattle.term_grammar.specs.Syntax.{Attribute, keyword_attribute, valued_attribute}

abbrev pub attribute_kind : Attribute → RawAttributeKind
attribute_kind (keyword_attribute k) = kind.Keyword k
attribute_kind (valued_attribute k v) = kind.Valued k v

abbrev pub value_kind : Sexp Tok → RawValueKind
value_kind (atom t) = if is_constant t then value.Constant t else value.Symbol t
value_kind (list at ts) = value.List ts

abbrev pub sexpr_atom_kind : Tok → RawSexprKind
sexpr_atom_kind t =
    if is_constant t then sexpr.Constant t
    else if is_symbol t then sexpr.Symbol t
    else if is_keyword t then sexpr.Keyword t
    else sexpr.Reserved t

abbrev pub sexpr_kind : Sexp Tok → RawSexprKind
sexpr_kind (atom t) = sexpr_atom_kind t
sexpr_kind (list at ts) = sexpr.List ts

-- the first s-expression and the others
abbrev pub SplitsSexprs : Sexps Tok → Option (Sexp Tok × Sexps Tok) → Type 0
SplitsSexprs ts None = ts ≡ nil
SplitsSexprs ts (Some p) = ts ≡ cons p.0 p.1
