-- How many nodes a term has, each part counted at each place where it stands.
use Rattle.std.specs.Prelude.{ℕ, suc, ◌+◌}
use Rattle.sort_store.specs.Tree.{NumberedSort}
use Rattle.term_store.specs.Term.{Term, Node, Terms, Cases, Note, Notes, term, lit, var, app, let_in, quant, match_on, ann, no_terms, more_terms, no_cases, more_cases, named, pattern, other, no_notes, more_notes}

abbrev mutual
  pub node_count : Term ℕ NumberedSort → ℕ
  node_count (term n s x) = suc (count_of_node x)

  pub count_of_node : Node ℕ NumberedSort → ℕ
  count_of_node (lit k n) = 0
  count_of_node (var n) = 0
  count_of_node (app f ts) = count_of_terms ts
  count_of_node (let_in vs ts b) = count_of_terms ts + node_count b
  count_of_node (quant all vs b) = node_count b
  count_of_node (match_on t cs) = node_count t + count_of_cases cs
  count_of_node (ann b ns) = node_count b + count_of_notes ns

  pub count_of_terms : Terms ℕ NumberedSort → ℕ
  count_of_terms no_terms = 0
  count_of_terms (more_terms t ts) = node_count t + count_of_terms ts

  pub count_of_cases : Cases ℕ NumberedSort → ℕ
  count_of_cases no_cases = 0
  count_of_cases (more_cases p t cs) = node_count t + count_of_cases cs

  pub count_of_note : Note ℕ NumberedSort → ℕ
  count_of_note (named d n) = 0
  count_of_note (pattern ts) = count_of_terms ts
  count_of_note (other k v) = 0

  pub count_of_notes : Notes ℕ NumberedSort → ℕ
  count_of_notes no_notes = 0
  count_of_notes (more_notes n ns) = count_of_note n + count_of_notes ns
