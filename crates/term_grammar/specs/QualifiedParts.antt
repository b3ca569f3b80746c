-- The qualified identifier of its parts.
use Rattle.term_grammar.specs.declared.qualified.QualifiedParts.{QualifiedParts}
use Rattle.term_grammar.specs.declared.qualified.QualifiedParts.TheVariants as parts
use Rattle.term_grammar.specs.Syntax.{Qualified, unqualified, qualified}

abbrev pub qualified_in : QualifiedParts → Qualified
qualified_in (parts.Identifier i) = unqualified i
qualified_in (parts.As at i s) = qualified at i s
