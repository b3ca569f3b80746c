-- A node of the program, whose lists are vectors, as the node of a tree.
use Rattle.std.specs.Prelude.{ℕ, List, [], ◌∷◌}
use Rattle.sort_store.specs.Tree.{NumberedSort}
use Rattle.sort_store.specs.Tree as sorts
use Rattle.term_store.specs.declared.parts.Pattern.{Pattern}
use Rattle.term_store.specs.declared.term.Note.{Note as ProgramNote}
use Rattle.term_store.specs.declared.term.Note.TheVariants as note
use Rattle.term_store.specs.declared.term.TermNode.{TermNode}
use Rattle.term_store.specs.declared.term.TermNode.TheVariants as node
use Rattle.term_store.specs.Term.{Term, Terms, Cases, Note, Notes, NumberedTerm, NumberedNode, PlainTerm, term, lit, var, app, let_in, quant, match_on, ann, no_terms, more_terms, no_cases, more_cases, named, pattern, other, no_notes, more_notes, node_tree}

abbrev pub terms : List NumberedTerm → Terms ℕ NumberedSort
terms [] = no_terms
terms (t ∷ ts) = more_terms t (terms ts)

abbrev pub cases : List (Pattern × NumberedTerm) → Cases ℕ NumberedSort
cases [] = no_cases
cases (c ∷ cs) = more_cases c.0 c.1 (cases cs)

abbrev pub numbered_note : ProgramNote → Note ℕ NumberedSort
numbered_note (note.Named d n) = named d n
numbered_note (note.Pattern ts) = pattern (terms ts.items)
numbered_note (note.Other k v) = other k v

abbrev pub numbered_notes : List ProgramNote → Notes ℕ NumberedSort
numbered_notes [] = no_notes
numbered_notes (n ∷ ns) = more_notes (numbered_note n) (numbered_notes ns)

abbrev pub numbered_node : TermNode → NumberedNode
numbered_node (node.Lit k n) = lit k n
numbered_node (node.Var n) = var n
numbered_node (node.App f ts) = app f (terms ts.items)
numbered_node (node.Let vs ts b) = let_in vs.items (terms ts.items) b
numbered_node (node.Quant all vs b) = quant all vs.items b
numbered_node (node.Match t cs) = match_on t (cases cs.items)
numbered_node (node.Ann b ns) = ann b (numbered_notes ns.items)

-- the tree of a node with a sort
abbrev pub term_of : NumberedSort → TermNode → PlainTerm
term_of s x = term tt (sorts.tree s) (node_tree (numbered_node x))
