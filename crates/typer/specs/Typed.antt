-- Typed terms with their sorts, and what a world keeps as it makes them.
use Rattle.std.specs.Prelude.{◌≡◌, ℕ, List, [], ◌∷◌, IfSome, map, option_map}
use Rattle.sort_store.specs.Tree.{NumberedSort}
use Rattle.sort_store.specs.Tree as sort_tree
use Rattle.sort_store.specs.Interned as sorts
use Rattle.term_store.specs.declared.term.Note.{Note}
use Rattle.term_store.specs.NumberedNodes.{cases, numbered_note}
use Rattle.term_store.specs.Term.{tree, note_tree, plain_sort}
use Rattle.term_store.specs.Interned as terms
use Rattle.typer.specs.declared.world.World.{World}
use Rattle.typer.specs.declared.typed.TypedTerm.{TypedTerm}
use Rattle.typer.specs.declared.typed.TypedTerms.{TypedTerms}
use Rattle.typer.specs.declared.typed.TypedBinding.{TypedBinding}
use Rattle.typer.specs.declared.typed.TypedCase.{TypedCase}
use Rattle.typer.specs.declared.typed.TypedCases.{TypedCases}
use Rattle.typer.specs.FunctionSymbols.{first_number}
use Rattle.typer.specs.TermRules.{Binding, Case, PlainNote, first_sort}

-- the world's stores made the term and the sort, which is the term's
pub record IsTyped (world : World) (typed : TypedTerm) : Type 0 where
  pub term : terms.IsInterned world.terms typed.term
  pub sort : sorts.IsInterned world.sorts typed.sort
  pub same : sort_tree.tree typed.sort ≡ plain_sort (tree typed.term)

pub record AreTyped (world : World) (typed : TypedTerms) : Type 0 where
  pub terms : terms.AllInterned world.terms typed.terms.items
  pub sorts : sorts.AllInterned world.sorts typed.sorts.items
  pub same : map sort_tree.tree typed.sorts.items ≡ map plain_sort (map tree typed.terms.items)

-- the store made the sorts of the variables
abbrev pub AreBound : World → List (ℕ × NumberedSort) → Type 0
AreBound world vars = sorts.AllInterned world.sorts (map (λ v. v.1) vars)

-- the stores of sorts and terms have grown, or not, and nothing else has changed
pub record HasGrown (old new : World) : Type 0 where
  pub sorts : sorts.Grows old.sorts new.sorts
  pub terms : terms.Grows old.terms new.terms
  pub others : new ≡ record old { sorts = new.sorts; terms = new.terms }

-- .. but for the names that the command has declared, with the number of the next one; that of the first stays
pub record HasElaborated (old new : World) : Type 0 where
  pub sorts : sorts.Grows old.sorts new.sorts
  pub terms : terms.Grows old.terms new.terms
  pub first : first_number new ≡ first_number old
  pub others : new ≡ record old { sorts = new.sorts; terms = new.terms; seen = new.seen; next = new.next }

-- a variable of a let: with the tree of its term, and with the sort that it has in the body
abbrev pub binding_tree : TypedBinding → Binding
binding_tree b = (b.name, tree b.value.term)

abbrev pub bound_variable : TypedBinding → ℕ × NumberedSort
bound_variable b = (b.name, b.value.sort)

abbrev pub AreTypedBindings : World → List TypedBinding → Type 0
AreTypedBindings world [] = Unit {0}
AreTypedBindings world (b ∷ bs) = IsTyped world b.value × AreTypedBindings world bs

-- cases of a match by their trees, and with the sort of the first branch
abbrev pub case_tree : TypedCase → Case
case_tree c = (c.pattern, tree c.branch.term)

abbrev pub case_trees : TypedCases → List Case
case_trees typed = map (λ c. (c.0, tree c.1)) typed.cases.items

pub record AreTypedCases (world : World) (typed : TypedCases) : Type 0 where
  pub branches : terms.AreCasesInterned world.terms (cases typed.cases.items)
  pub sort : IfSome typed.sort (sorts.IsInterned world.sorts)
  pub first : option_map sort_tree.tree typed.sort ≡ first_sort (case_trees typed)

-- an attribute by its trees
abbrev pub plain_note : Note → PlainNote
plain_note n = note_tree (numbered_note n)
