-- What the views of terms show.
use Rattle.std.specs.Prelude.{◌≡◌, List, [], ◌∷◌, Option, Some, None}
use Rattle.term_grammar.specs.declared.term.RawTermKind.{RawTermKind}
use Rattle.term_grammar.specs.declared.term.RawTermKind.TheVariants as kind
use Rattle.term_grammar.specs.declared.binder.RawBinding.{RawBinding}
use Rattle.term_grammar.specs.declared.binder.RawVariable.{RawVariable}
use Rattle.term_grammar.specs.declared.pattern.RawCase.{RawCase}
use Rattle.term_grammar.specs.declared.pattern.RawPatternKind.{RawPatternKind}
use Rattle.term_grammar.specs.declared.pattern.RawPatternKind.TheVariants as pattern
use Rattle.term_grammar.specs.declared.note.RawNoteKind.{RawNoteKind}
use Rattle.term_grammar.specs.declared.note.RawNoteKind.TheVariants as note
use Rattle.term_grammar.specs.Syntax.{SortedSymbol, Pattern, symbol_pattern, constructor_pattern, Term, constant, qualified_term, application, let_in, for_all, there_exists, match_with, annotated, Terms, no_terms, with_term, Bindings, no_bindings, with_binding, Cases, no_cases, with_case, Notes, no_notes, with_note, Note, named_note, pattern_note, attribute_note}

-- one line for each production

abbrev pub term_kind : Term → RawTermKind
term_kind (constant t) = kind.Constant t
term_kind (qualified_term q) = kind.Qualified q
term_kind (application at q ts) = kind.Application q ts
term_kind (let_in at bs u) = kind.Let bs u
term_kind (for_all at vs u) = kind.Forall vs u
term_kind (there_exists at vs u) = kind.Exists vs u
term_kind (match_with at u cs) = kind.Match u cs
term_kind (annotated at u ns) = kind.Annotated u ns

abbrev pub pattern_kind : Pattern → RawPatternKind
pattern_kind (symbol_pattern t) = pattern.Symbol t
pattern_kind (constructor_pattern at c vs) = pattern.Constructor c vs

abbrev pub note_kind : Note → RawNoteKind
note_kind (named_note n) = note.Named n
note_kind (pattern_note ts) = note.Pattern ts
note_kind (attribute_note a) = note.Attribute a

-- the first and the others

abbrev pub SplitsTerms : Terms → Option (Term × Terms) → Type 0
SplitsTerms ts None = ts ≡ no_terms
SplitsTerms ts (Some p) = ts ≡ with_term p.0 p.1

abbrev pub SplitsBindings : Bindings → Option (RawBinding × Bindings) → Type 0
SplitsBindings bs None = bs ≡ no_bindings
SplitsBindings bs (Some p) = bs ≡ with_binding p.0.at p.0.name p.0.term p.1

abbrev pub SplitsVariables : List SortedSymbol → Option (RawVariable × List SortedSymbol) → Type 0
SplitsVariables vs None = vs ≡ []
SplitsVariables vs (Some p) = vs ≡ record { at = p.0.at; name = p.0.name; sort = p.0.sort } ∷ p.1

abbrev pub SplitsCases : Cases → Option (RawCase × Cases) → Type 0
SplitsCases cs None = cs ≡ no_cases
SplitsCases cs (Some p) = cs ≡ with_case p.0.at p.0.pattern p.0.term p.1

abbrev pub SplitsNotes : Notes → Option (Note × Notes) → Type 0
SplitsNotes ns None = ns ≡ no_notes
SplitsNotes ns (Some p) = ns ≡ with_note p.0 p.1

-- the parts as a list

abbrev pub each_binding : Bindings → List RawBinding
each_binding no_bindings = []
each_binding (with_binding at x t bs) = record { at = at; name = x; term = t } ∷ each_binding bs

abbrev pub each_variable : List SortedSymbol → List RawVariable
each_variable [] = []
each_variable (v ∷ vs) = record { at = v.at; name = v.name; sort = v.sort } ∷ each_variable vs

abbrev pub each_case : Cases → List RawCase
each_case no_cases = []
each_case (with_case at p t cs) = record { at = at; pattern = p; term = t } ∷ each_case cs
