-- What the form of an attribute of a term reads as.
use Rattle.std.specs.Prelude.{IsOk}
use Rattle.term_grammar.specs.declared.term_form.NoteForm.{NoteForm}
use Rattle.term_grammar.specs.declared.term_form.NoteForm.TheVariants as form
use Rattle.term_grammar.specs.Syntax.{Note, named_note, pattern_note, attribute_note}
use Rattle.term_grammar.specs.Reads.{attribute_of, read_terms}
use Rattle.term_grammar.specs.Readings.{terms_of}

abbrev pub note_of : NoteForm → Note
note_of (form.Named n) = named_note n
note_of (form.Pattern ts) = pattern_note (terms_of ts)
note_of (form.Attribute k v) = attribute_note (attribute_of k v)

-- the terms of a pattern read
abbrev pub NoteReads : NoteForm → Type 0
NoteReads (form.Named n) = Unit {0}
NoteReads (form.Pattern ts) = IsOk (read_terms ts)
NoteReads (form.Attribute k v) = Unit {0}
