-- The attribute of a term by its parts.
use Rattle.term_grammar.specs.declared.note.RawNoteKind.{RawNoteKind}
use Rattle.term_grammar.specs.declared.note.RawNoteKind.TheVariants as kind
use Rattle.term_grammar.specs.Syntax.{Note, named_note, pattern_note, attribute_note}

abbrev pub note_in : RawNoteKind → Note
note_in (kind.Named n) = named_note n
note_in (kind.Pattern ts) = pattern_note ts
note_in (kind.Attribute a) = attribute_note a
