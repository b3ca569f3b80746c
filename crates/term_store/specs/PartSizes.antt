-- A term has more nodes than each term in it.
use Rattle.std.specs.Prelude.{ℕ, suc, ◌+◌, ◌≤◌, List, [], ◌∷◌}
use Rattle.std.proofs.Common.{arith}
use denote.Param.Weighed.{most}
use Rattle.sort_store.specs.Tree.{NumberedSort}
use Rattle.term_store.specs.declared.parts.Pattern.{Pattern}
use Rattle.term_store.specs.declared.term.Note.{Note as ProgramNote}
use Rattle.term_store.specs.declared.term.Note.TheVariants as note
use Rattle.term_store.specs.declared.term.TermNode.{TermNode}
use Rattle.term_store.specs.declared.term.TermNode.TheVariants as node
use Rattle.term_store.specs.declared.term.TermRef.TheDeep.{deep-TermNode, deep-Note}
use Rattle.term_store.specs.declared.term.TermRef.TheShapes.{weighed-TermNode-Match-1-at-2 as case_weight}
use Rattle.term_store.specs.Term.{Term}
use Rattle.term_store.specs.NumberedNodes.{terms, cases, numbered_node, numbered_note, numbered_notes}
use Rattle.term_store.specs.Size.{node_count, count_of_node, count_of_terms, count_of_cases, count_of_note, count_of_notes}

most_terms : (ts : List (Term ℕ NumberedSort)) → most (λ t. node_count t + 1) ts ≤ count_of_terms (terms ts) + 1
most_terms [] = omega arith
most_terms (t ∷ ts) = omega (arith, most_terms ts)

most_cases : (cs : List (Pattern × Term ℕ NumberedSort)) → most (case_weight.weight (Term ℕ NumberedSort) (λ t. node_count t + 1)) cs ≤ count_of_cases (cases cs) + 1
most_cases [] = omega arith
most_cases (c ∷ cs) = omega (arith, most_cases cs)

note_parts_smaller : (n : ProgramNote) → deep-Note n ≤ count_of_note (numbered_note n) + 1
note_parts_smaller (note.Named d n) = omega arith
note_parts_smaller (note.Pattern ts) = omega (arith, most_terms ts.items)
note_parts_smaller (note.Other k v) = omega arith

most_notes : (ns : List ProgramNote) → most deep-Note ns ≤ count_of_notes (numbered_notes ns) + 1
most_notes [] = omega arith
most_notes (n ∷ ns) = omega (arith, note_parts_smaller n, most_notes ns)

pub parts_smaller : (x : TermNode) → deep-TermNode x ≤ suc (count_of_node (numbered_node x))
parts_smaller (node.Lit k n) = omega arith
parts_smaller (node.Var n) = omega arith
parts_smaller (node.App f ts) = omega (arith, most_terms ts.items)
parts_smaller (node.Let vs ts b) = omega (arith, most_terms ts.items)
parts_smaller (node.Quant all vs b) = omega arith
parts_smaller (node.Match t cs) = omega (arith, most_cases cs.items)
parts_smaller (node.Ann b ns) = omega (arith, most_notes ns.items)
