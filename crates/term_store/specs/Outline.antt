-- The outline of a node: the node with the number of each term in its place. The terms of one store are
-- told apart by their outlines and sorts.
use Rattle.std.specs.Prelude.{◌≡◌, ℕ, Bool, List, [], ◌∷◌, map, Option}
use Rattle.lex_core.specs.declared.token.TokKind.{TokKind}
use Rattle.lex_core.specs.declared.token.Tok.{Tok}
use Rattle.sexp_core.specs.Sexp.{Sexp}
use Rattle.sort_store.specs.declared.head.DeclNo.{DeclNo}
use Rattle.sort_store.specs.Tree.{Sort, NumberedSort}
use Rattle.sort_store.specs.Tree as sorts
use Rattle.term_store.specs.declared.parts.Applied.{Applied}
use Rattle.term_store.specs.declared.parts.Pattern.{Pattern}
use Rattle.term_store.specs.Value.{unplaced_value}
use Rattle.term_store.specs.NumberedNodes.{numbered_node}
use Rattle.term_store.specs.declared.term.TermNode.{TermNode}
use Rattle.term_store.specs.Term.{Node, Terms, Cases, Note, Notes, NumberedTerm, NumberedNode, term, lit, var, app, let_in, quant, match_on, ann, no_terms, more_terms, no_cases, more_cases, named, pattern, other, no_notes, more_notes, plain_var, number, node_of, sort_of}

pub data NoteOutline : Type 0 where
  naming : DeclNo → ℕ → NoteOutline
  patterns : List ℕ → NoteOutline
  attribute : ℕ → Option (Sexp Tok) → NoteOutline

pub data Outline : Type 0 where
  literal : TokKind → ℕ → Outline
  variable : ℕ → Outline
  applied : Applied → List ℕ → Outline
  bound : List ℕ → List ℕ → ℕ → Outline
  quantified : Bool → List (ℕ × Sort) → ℕ → Outline
  matched : ℕ → List (Pattern × ℕ) → Outline
  annotated : ℕ → List NoteOutline → Outline

abbrev pub numbers : Terms ℕ NumberedSort → List ℕ
numbers no_terms = []
numbers (more_terms t ts) = number t ∷ numbers ts

abbrev pub case_outline : Pattern × NumberedTerm → Pattern × ℕ
case_outline c = (c.0, number c.1)

abbrev pub case_outlines : Cases ℕ NumberedSort → List (Pattern × ℕ)
case_outlines no_cases = []
case_outlines (more_cases p t cs) = (p, number t) ∷ case_outlines cs

abbrev pub note_outline : Note ℕ NumberedSort → NoteOutline
note_outline (named d n) = naming d n
note_outline (pattern ts) = patterns (numbers ts)
note_outline (other k v) = attribute k (unplaced_value v)

abbrev pub note_outlines : Notes ℕ NumberedSort → List NoteOutline
note_outlines no_notes = []
note_outlines (more_notes n ns) = note_outline n ∷ note_outlines ns

abbrev pub outline : NumberedNode → Outline
outline (lit k n) = literal k n
outline (var n) = variable n
outline (app f ts) = applied f (numbers ts)
outline (let_in vs ts b) = bound vs (numbers ts) (number b)
outline (quant all vs b) = quantified all (map plain_var vs) (number b)
outline (match_on t cs) = matched (number t) (case_outlines cs)
outline (ann b ns) = annotated (number b) (note_outlines ns)

-- the term has the outline of the node and the tree of the sort
abbrev pub IsMadeOf : NumberedTerm → TermNode → NumberedSort → Type 0
IsMadeOf t x s = (sorts.tree (sort_of t) ≡ sorts.tree s) × (outline (node_of t) ≡ outline (numbered_node x))
