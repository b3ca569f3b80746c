-- What a world keeps: its table has the names of the live sort symbols and of the sorts that they stand for, its store has the
-- sorts of all live declarations, each once, and they have no parameter past the number that the declaration gives, nor have the
-- fields of datatypes; and the names that the command has declared have numbers below the next one.
use Rattle.std.specs.Prelude.{◌≡◌, ℕ, ◌<◌, ◌≤◌, Bool, true, false, List, length, ⊤}
use Rattle.std.specs.List.{All}
use Rattle.sig_table.specs.declared.theories.Theories.{Theories}
use Rattle.sort_store.specs.declared.head.Head.{Head}
use Rattle.sort_store.specs.declared.head.Head.TheVariants as head
use Rattle.sort_store.specs.Tree.{Sort, sort, SortList, no_sorts, more_sorts, NumberedSort, tree}
use Rattle.sort_store.specs.Instance.{ParamsBelow}
use Rattle.sort_store.specs.Interned.{IsInterned, HasNoRepeats}
use Rattle.term_store.specs.Command.{PlainConstructor, PlainDatatype, PlainField}
use Rattle.scope_stack.specs.declared.entry.FunEntry.{FunEntry}
use Rattle.scope_stack.specs.declared.entry.FunKind.{FunKind}
use Rattle.scope_stack.specs.declared.entry.FunKind.TheVariants as kind
use Rattle.scope_stack.specs.declared.entry.SortEntry.{SortEntry}
use Rattle.scope_stack.specs.declared.entry.SortEntry.TheVariants as entry
use Rattle.scope_stack.specs.Levels.{live}
use Rattle.typer.specs.declared.world.World.{World}
use Rattle.typer.specs.FunctionSymbols.{datatypes_of}
use Rattle.typer.specs.LiveRanks.{IsReadyEntry}
use Rattle.typer.specs.SortSymbols.{is_theory_sort}

-- the name of the sort symbol is in the table, and a parameter is below the number
abbrev pub IsReadyHead : List (List ℕ) → ℕ → Head → Type 0
IsReadyHead texts params (head.Free number name) = name < length texts
IsReadyHead texts params (head.Data number name) = name < length texts
IsReadyHead texts params (head.Param i) = i < params
IsReadyHead texts params _ = ⊤

-- .. so for each sort symbol of the sort
abbrev mutual
  pub IsReadyTree : List (List ℕ) → ℕ → Sort → Type 0
  IsReadyTree texts params (sort h ts) = IsReadyHead texts params h × AreReadyTrees texts params ts

  pub AreReadyTrees : List (List ℕ) → ℕ → SortList → Type 0
  AreReadyTrees texts params no_sorts = ⊤
  AreReadyTrees texts params (more_sorts t ts) = IsReadyTree texts params t × AreReadyTrees texts params ts

-- a sort of a declaration with this number of parameters: the store has it, and the table its names
pub record IsReadySchema (texts : List (List ℕ)) (store : List Sort) (params : ℕ) (r : NumberedSort) : Type 0 where
  pub interned : IsInterned store r
  pub ready : IsReadyTree texts params (tree r)

abbrev pub IsReadySortEntry : List (List ℕ) → List Sort → SortEntry → Type 0
IsReadySortEntry texts store (entry.Free number arity) = ⊤
IsReadySortEntry texts store (entry.Data number arity) = ⊤
IsReadySortEntry texts store (entry.Defined params body) = IsReadySchema texts store params body

-- constructors and selectors may have parameters, those of their datatype
abbrev pub may_have_params : FunKind → Bool
may_have_params kind.Constructor = true
may_have_params kind.Selector = true
may_have_params _ = false

pub record IsReadyFunEntry (store : List Sort) (f : FunEntry) : Type 0 where
  pub entry : IsReadyEntry store f
  pub params : may_have_params f.kind ≡ false → f.params ≡ 0

-- a live sort symbol, whose name Core and the theories don't use
pub record IsReadySort (texts : List (List ℕ)) (theories : Theories) (store : List Sort) (d : ℕ × SortEntry) : Type 0 where
  pub name : d.0 < length texts
  pub no_theory_sort : is_theory_sort texts theories d.0 ≡ false
  pub entry : IsReadySortEntry texts store d.1

-- no field sort of a datatype has a parameter past those of the datatype
abbrev pub IsReadyDatatype : PlainDatatype → Type 0
IsReadyDatatype t = All (λ (c : PlainConstructor). All (λ (f : PlainField). ParamsBelow (length t.params) f.sort) c.fields) t.constructors

pub record IsReady (world : World) : Type 0 where
  pub distinct : HasNoRepeats world.sorts
  pub sorts : All (IsReadySort world.names world.theories world.sorts) (live world.scopes.sorts)
  pub funs : All (λ (d : ℕ × FunEntry). IsReadyFunEntry world.sorts d.1) (live world.scopes.funs)
  pub datatypes : All IsReadyDatatype (datatypes_of world.script)
  pub numbered : length world.seen.items ≤ world.next.0
