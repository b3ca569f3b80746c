-- The identifier of its parts.
use Rattle.term_grammar.specs.declared.identifier.IdentifierParts.{IdentifierParts}
use Rattle.term_grammar.specs.declared.identifier.IdentifierParts.TheVariants as parts
use Rattle.term_grammar.specs.Syntax.{Identifier, symbol, indexed}

abbrev pub identifier_in : IdentifierParts → Identifier
identifier_in (parts.Symbol t) = symbol t
identifier_in (parts.Indexed at n is) = indexed at n is
