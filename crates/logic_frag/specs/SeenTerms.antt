-- A term of the program with its scope, as an occurrence.
use Rattle.term_store.specs.Term.{tree}
use Rattle.logic_frag.specs.declared.seen.Seen.{Seen}
use Rattle.logic_frag.specs.Occurrences.{Occurrence, seen_in}
use Rattle.logic_frag.specs.ScopeFrames.{scope_of}

abbrev pub occurrence : Seen → Occurrence
occurrence s = seen_in (scope_of s.scope) (tree s.term)
