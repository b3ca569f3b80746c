-- When a signature is sound under the declarations of a script: these declare what its live symbols stand for.
use Rattle.std.specs.Prelude.{◌≡◌, ℕ, List, [], ◌∷◌, length, map}
use Rattle.std.specs.List.{All, Contains}
use Rattle.lex_core.specs.NameTable.{IsNameTable}
use Rattle.sort_store.specs.CoreRanks.{bool}
use Rattle.sort_store.specs.Tree.{Sort}
use Rattle.sort_store.specs.Instance.{inst}
use Rattle.scope_stack.specs.Levels.{live}
use Rattle.scope_stack.specs.declared.entry.FunKind.TheVariants as kind
use Rattle.term_store.specs.Command.{PlainConstructor, PlainDatatype}
use Rattle.term_store.specs.Declarations.{Declaration, datatype, constructor_of, number_given}
use Rattle.term_store.specs.SoundScript.{IsSoundDatatype}
use Rattle.term_store.specs.SoundTerms.{IsDatatype, IsSoundSort, HasRankAt, HasTesterRankAt}
use Rattle.typer.specs.Declarations.{SortDeclaration, free_sort, data_sort, defined_sort, FunDeclaration, Declarations}
use Rattle.typer.specs.FunctionSymbols.{Signature}

-- a live sort symbol: a datatype is declared, and the body of a defined sort is sound
abbrev pub IsSoundSortSymbol : List Declaration → SortDeclaration → Type 0
IsSoundSortSymbol script (free_sort number arity) = Unit {0}
IsSoundSortSymbol script (data_sort number arity) = IsDatatype script number arity
IsSoundSortSymbol script (defined_sort params body) = IsSoundSort script params body

-- a live function symbol: a declaration with its number has each rank that its sorts stand for
pub record IsSoundFunction (script : List Declaration) (f : FunDeclaration) : Type 0 where
  pub args : All (IsSoundSort script f.params) f.args
  pub result : IsSoundSort script f.params f.result
  pub its : Declaration
  pub is_declared : Contains script its
  pub number_is : number_given its ≡ f.number.0
  pub ranks : (values : List Sort) → length values ≡ f.params → HasRankAt its values (map (inst values) f.args) (inst values f.result)
  -- a constructor has a tester
  pub tester : f.kind ≡ kind.Constructor → (values : List Sort) → length values ≡ f.params → HasTesterRankAt its values (inst values f.result ∷ []) bool

-- all live sort symbols, and all live function symbols
abbrev pub HasSoundSorts : List Declaration → Declarations → Type 0
HasSoundSorts script declarations = All (λ (d : ℕ × SortDeclaration). IsSoundSortSymbol script d.1) (live declarations.sorts)

abbrev pub HasSoundFunctions : List Declaration → Declarations → Type 0
HasSoundFunctions script declarations = All (λ (d : ℕ × FunDeclaration). IsSoundFunction script d.1) (live declarations.funs)

-- a datatype is declared with its constructors, and its field sorts are sound
pub record IsSoundInstance (script : List Declaration) (t : PlainDatatype) : Type 0 where
  pub is_declared : Contains script (datatype t)
  pub constructors : All (λ (c : PlainConstructor). Contains script (constructor_of t c)) t.constructors
  pub fields : IsSoundDatatype script t

pub record IsSoundSignature (script : List Declaration) (signature : Signature) : Type 0 where
  pub table : IsNameTable signature.texts
  pub sorts : HasSoundSorts script signature.declarations
  pub funs : HasSoundFunctions script signature.declarations
  pub datatypes : All (IsSoundInstance script) signature.datatypes
