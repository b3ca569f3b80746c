-- A store is the list of its trees. A term is interned in it where the tree at the term's number is the
-- term's tree, and so for its parts.
use Rattle.std.specs.Prelude.{◌≡◌, ℕ, ◌⊎◌, List, [], ◌∷◌, ◌++◌, Some, slice_get, map}
use Rattle.std.specs.List.{All, Contains}
use Rattle.sort_store.specs.Tree.{NumberedSort}
use Rattle.sort_store.specs.Tree as sorts
use Rattle.term_store.specs.Term.{Node, Terms, Cases, Note, Notes, NumberedTerm, PlainTerm, term, lit, var, app, let_in, quant, match_on, ann, no_terms, more_terms, no_cases, more_cases, named, pattern, other, no_notes, more_notes, tree, node_tree}
use Rattle.term_store.specs.NumberedNodes.{terms}

abbrev mutual
  pub IsInterned : List PlainTerm → NumberedTerm → Type 0
  IsInterned store (term n s x) = (slice_get store n ≡ Some (term tt (sorts.tree s) (node_tree x))) × ArePartsInterned store x

  -- the terms of a node
  pub ArePartsInterned : List PlainTerm → Node ℕ NumberedSort → Type 0
  ArePartsInterned store (lit k n) = Unit {0}
  ArePartsInterned store (var n) = Unit {0}
  ArePartsInterned store (app f ts) = AreInterned store ts
  ArePartsInterned store (let_in vs ts b) = AreInterned store ts × IsInterned store b
  ArePartsInterned store (quant all vs b) = IsInterned store b
  ArePartsInterned store (match_on t cs) = IsInterned store t × AreCasesInterned store cs
  ArePartsInterned store (ann b ns) = IsInterned store b × AreNotesInterned store ns

  pub AreInterned : List PlainTerm → Terms ℕ NumberedSort → Type 0
  AreInterned store no_terms = Unit {0}
  AreInterned store (more_terms t ts) = IsInterned store t × AreInterned store ts

  pub AreCasesInterned : List PlainTerm → Cases ℕ NumberedSort → Type 0
  AreCasesInterned store no_cases = Unit {0}
  AreCasesInterned store (more_cases p t cs) = IsInterned store t × AreCasesInterned store cs

  pub IsNoteInterned : List PlainTerm → Note ℕ NumberedSort → Type 0
  IsNoteInterned store (named d n) = Unit {0}
  IsNoteInterned store (pattern ts) = AreInterned store ts
  IsNoteInterned store (other k v) = Unit {0}

  pub AreNotesInterned : List PlainTerm → Notes ℕ NumberedSort → Type 0
  AreNotesInterned store no_notes = Unit {0}
  AreNotesInterned store (more_notes n ns) = IsNoteInterned store n × AreNotesInterned store ns

abbrev pub AllInterned : List PlainTerm → List NumberedTerm → Type 0
AllInterned store ts = AreInterned store (terms ts)

-- no tree stands at two places
pub record HasNoRepeats (store : List PlainTerm) : Type 0 where
  pub distinct : (i j : ℕ) (t : PlainTerm) → slice_get store i ≡ Some t → slice_get store j ≡ Some t → i ≡ j

-- both are interned in one store without repeats
pub record InternedTogether (a b : NumberedTerm) : Type 0 where
  pub store : List PlainTerm
  pub distinct : HasNoRepeats store
  pub first : IsInterned store a
  pub second : IsInterned store b

-- the store has the tree, which came last if it was new
abbrev pub Interns : List PlainTerm → List PlainTerm → PlainTerm → Type 0
Interns old new t = (Contains old t × (new ≡ old)) ⊎ ((Contains old t → ⊥) × (new ≡ old ++ t ∷ []))

-- the store gained trees at its end, or none
abbrev pub Grows : List PlainTerm → List PlainTerm → Type 0
Grows old new = (more : List PlainTerm) × (new ≡ old ++ more)

-- what is true of the list of the terms that a store made
pub record IsStore (made : List NumberedTerm) : Type 0 where
  pub interned : All (IsInterned (map tree made)) made
  pub distinct : HasNoRepeats (map tree made)
