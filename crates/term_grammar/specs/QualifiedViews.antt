-- What the view of a qualified identifier shows.
use Rattle.term_grammar.specs.declared.qualified.RawQualifiedKind.{RawQualifiedKind}
use Rattle.term_grammar.specs.declared.qualified.RawQualifiedKind.TheVariants as kind
use Rattle.term_grammar.specs.Syntax.{Qualified, unqualified, qualified}

abbrev pub qualified_kind : Qualified → RawQualifiedKind
qualified_kind (unqualified i) = kind.Identifier i
qualified_kind (qualified at i s) = kind.As i s
