-- A typed term is a tree (SMT-LIB 2.6, section 3.6) with a sort at each node. A reference to a term is
-- that tree with the number of a store's entry at each node, and with the bytes at which the values of
-- its attributes stood.
use Rattle.std.specs.Prelude.{ℕ, Bool, List, [], ◌∷◌, map, Option}
use Rattle.lex_core.specs.declared.token.TokKind.{TokKind}
use Rattle.lex_core.specs.declared.token.Tok.{Tok}
use Rattle.sexp_core.specs.Sexp.{Sexp}
use Rattle.sort_store.specs.declared.head.DeclNo.{DeclNo}
use Rattle.sort_store.specs.Tree.{Sort, NumberedSort}
use Rattle.sort_store.specs.Tree as sorts
use Rattle.term_store.specs.declared.parts.Applied.{Applied}
use Rattle.term_store.specs.declared.parts.Pattern.{Pattern}
use Rattle.term_store.specs.Value.{unplaced_value}

mutual
  pub data Term (N S : Type 0) : Type 0 where
    term : N → S → Node N S → Term N S

  pub data Node (N S : Type 0) : Type 0 where
    lit : TokKind → ℕ → Node N S
    var : ℕ → Node N S
    app : Applied → Terms N S → Node N S
    let_in : List ℕ → Terms N S → Term N S → Node N S
    quant : Bool → List (ℕ × S) → Term N S → Node N S
    match_on : Term N S → Cases N S → Node N S
    ann : Term N S → Notes N S → Node N S

  pub data Terms (N S : Type 0) : Type 0 where
    no_terms : Terms N S
    more_terms : Term N S → Terms N S → Terms N S

  pub data Cases (N S : Type 0) : Type 0 where
    no_cases : Cases N S
    more_cases : Pattern → Term N S → Cases N S → Cases N S

  pub data Note (N S : Type 0) : Type 0 where
    named : DeclNo → ℕ → Note N S
    pattern : Terms N S → Note N S
    other : ℕ → Option (Sexp Tok) → Note N S

  pub data Notes (N S : Type 0) : Type 0 where
    no_notes : Notes N S
    more_notes : Note N S → Notes N S → Notes N S

-- what a reference to a term is seen as
abbrev pub NumberedTerm : Type 0
NumberedTerm = Term ℕ NumberedSort

abbrev pub NumberedNode : Type 0
NumberedNode = Node ℕ NumberedSort

-- the term itself
abbrev pub PlainTerm : Type 0
PlainTerm = Term (Unit {0}) Sort

abbrev pub PlainNode : Type 0
PlainNode = Node (Unit {0}) Sort

-- a bound variable with the tree of its sort
abbrev pub plain_var : ℕ × NumberedSort → ℕ × Sort
plain_var p = (p.0, sorts.tree p.1)

-- the tree, without numbers and bytes
abbrev mutual
  pub tree : Term ℕ NumberedSort → Term (Unit {0}) Sort
  tree (term n s x) = term tt (sorts.tree s) (node_tree x)

  pub node_tree : Node ℕ NumberedSort → Node (Unit {0}) Sort
  node_tree (lit k n) = lit k n
  node_tree (var n) = var n
  node_tree (app f ts) = app f (trees ts)
  node_tree (let_in vs ts b) = let_in vs (trees ts) (tree b)
  node_tree (quant all vs b) = quant all (map plain_var vs) (tree b)
  node_tree (match_on t cs) = match_on (tree t) (case_trees cs)
  node_tree (ann b ns) = ann (tree b) (note_trees ns)

  pub trees : Terms ℕ NumberedSort → Terms (Unit {0}) Sort
  trees no_terms = no_terms
  trees (more_terms t ts) = more_terms (tree t) (trees ts)

  pub case_trees : Cases ℕ NumberedSort → Cases (Unit {0}) Sort
  case_trees no_cases = no_cases
  case_trees (more_cases p t cs) = more_cases p (tree t) (case_trees cs)

  pub note_tree : Note ℕ NumberedSort → Note (Unit {0}) Sort
  note_tree (named d n) = named d n
  note_tree (pattern ts) = pattern (trees ts)
  note_tree (other k v) = other k (unplaced_value v)

  pub note_trees : Notes ℕ NumberedSort → Notes (Unit {0}) Sort
  note_trees no_notes = no_notes
  note_trees (more_notes n ns) = more_notes (note_tree n) (note_trees ns)

abbrev pub node_of : NumberedTerm → NumberedNode
node_of (term n s x) = x

abbrev pub sort_of : NumberedTerm → NumberedSort
sort_of (term n s x) = s

-- the number of the whole term's entry
abbrev pub number : NumberedTerm → ℕ
number (term n s x) = n

-- the sort of a plain term
abbrev pub plain_sort : PlainTerm → Sort
plain_sort (term n s x) = s

-- a list of plain terms, as terms hold it
abbrev pub plain_terms : List PlainTerm → Terms (Unit {0}) Sort
plain_terms [] = no_terms
plain_terms (t ∷ ts) = more_terms t (plain_terms ts)
