-- What the views of identifiers show.
use Rattle.std.specs.Prelude.{◌≡◌, List, [], ◌∷◌, Option, Some, None}
use Rattle.lex_core.specs.declared.token.Tok.{Tok}
use Rattle.term_grammar.specs.declared.identifier.RawIdentifierKind.{RawIdentifierKind}
use Rattle.term_grammar.specs.declared.identifier.RawIdentifierKind.TheVariants as kind
use Rattle.term_grammar.specs.Syntax.{Identifier, symbol, indexed}

abbrev pub identifier_kind : Identifier → RawIdentifierKind
identifier_kind (symbol t) = kind.Symbol t
identifier_kind (indexed at n is) = kind.Indexed n is

-- the first token and the others
abbrev pub SplitsTokens : List Tok → Option (Tok × List Tok) → Type 0
SplitsTokens ts None = ts ≡ []
SplitsTokens ts (Some p) = ts ≡ p.0 ∷ p.1
