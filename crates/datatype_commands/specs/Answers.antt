-- What the calls that judge a group of datatypes answer, and what they leave.
use Rattle.std.specs.Prelude.{◌≡◌, ℕ, ◌<◌, List, [], ◌∷◌, length, Option, Some, None, Result, Ok, Err}
use Rattle.std.specs.List.{All}
use Rattle.sort_store.specs.Interned.{Grows, IsInterned}
use Rattle.sort_store.specs.Tree.{NumberedSort, Sort, tree}
use Rattle.cmd_grammar.specs.Commands.{ConstructorDec, DataDec, SortDec}
use Rattle.cmd_grammar.specs.DeclarationViews.{constructor_dec_seen, selector_seen, sort_dec_seen}
use Rattle.cmd_grammar.specs.declared.datatype_dec.RawConDec.{RawConDec}
use Rattle.cmd_grammar.specs.declared.datatype_dec.RawSelector.{RawSelector}
use Rattle.cmd_grammar.specs.declared.sort_dec.RawSortDec.{RawSortDec}
use Rattle.term_grammar.specs.Syntax.{SortedSymbol}
use Rattle.dt_rules.specs.Groups.{own_sort}
use Rattle.dt_rules.specs.declared.error.TyError.{TyError}
use Rattle.term_store.specs.Command.{plain_datatype}
use Rattle.term_store.specs.declared.command.Constructor.{Constructor}
use Rattle.term_store.specs.declared.command.Datatype.{Datatype}
use Rattle.term_store.specs.declared.command.Field.{Field}
use Rattle.typer.specs.Ready.{IsReadySchema}
use Rattle.typer.specs.declared.world.World.{World}

-- the answer with its value seen by a function
abbrev pub answer_by : {A B : Type 0} → (A → B) → Result A TyError → Result B TyError
answer_by seen (Ok x) = Ok (seen x)
answer_by seen (Err e) = Err e

-- the names of sort symbols are in the table
abbrev pub HaveNames : List (List ℕ) → List SortDec → Type 0
HaveNames texts [] = Unit {0}
HaveNames texts (d ∷ ds) = (d.name.name < length texts) × HaveNames texts ds

-- the live symbols have changed, and all else is as it was
abbrev pub OnlyScopesChange : World → World → Type 0
OnlyScopesChange old new = new ≡ record old { scopes = new.scopes }

-- the store of sorts has grown, and all else is as it was
pub record OnlySortsGrow (old new : World) : Type 0 where
  pub others : new ≡ record old { sorts = new.sorts }
  pub grows : Grows old.sorts new.sorts

-- .. and the live symbols have changed
pub record OnlySymbolsChange (old new : World) : Type 0 where
  pub others : new ≡ record old { scopes = new.scopes; sorts = new.sorts }
  pub grows : Grows old.sorts new.sorts

-- the sort of a field may stand in a declaration with as many parameters
abbrev pub IsReadyPart : World → ℕ → Field → Type 0
IsReadyPart world count f = IsReadySchema world.names world.sorts count f.sort

abbrev pub AreReadyParts : World → ℕ → Constructor → Type 0
AreReadyParts world count c = All (IsReadyPart world count) c.fields

abbrev pub HasReadyParts : World → Datatype → Type 0
HasReadyParts world t = All (AreReadyParts world (length t.params)) t.constructors

-- the selectors, the declarations of constructors and those of sort symbols that are left
abbrev pub selectors_left : Option (RawSelector × List SortedSymbol) → List SortedSymbol
selectors_left None = []
selectors_left (Some p) = selector_seen p.0 ∷ p.1

abbrev pub constructors_left : Option (RawConDec × List ConstructorDec) → List ConstructorDec
constructors_left None = []
constructors_left (Some p) = constructor_dec_seen p.0 ∷ p.1

abbrev pub sort_decs_left : Option (RawSortDec × List SortDec) → List SortDec
sort_decs_left None = []
sort_decs_left (Some p) = sort_dec_seen p.0 ∷ p.1

-- the declarations of datatypes that are left
abbrev pub data_decs_left : Option (DataDec × List DataDec) → List DataDec
data_decs_left None = []
data_decs_left (Some p) = p.0 ∷ p.1

-- the store has the sort of the datatype at its own parameters
pub record HoldsOwnSort (store : List Sort) (t : Datatype) (own : NumberedSort) : Type 0 where
  pub sort : tree own ≡ own_sort (plain_datatype t)
  pub interned : IsInterned store own
