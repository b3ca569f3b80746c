-- The definitions and the datatypes that a script keeps are those of its commands.
use Rattle.std.specs.Prelude.{◌≡◌, ℕ, ◌<◌, List, [], ◌∷◌, ◌++◌, length, map, take, slice_index_or, Option, Some, None}
use Rattle.std.specs.List.{All}
use Rattle.term_store.specs.Command.{PlainDatatype, PlainDef, plain_datatype, plain_def}
use Rattle.term_store.specs.Declarations.{Declaration, datatype, declared_in, definition, number_given, term_name}
use Rattle.term_store.specs.Definitions.{Definitions, IsUnused}
use Rattle.term_store.specs.Script.{Kept, commands_of}
use Rattle.term_store.specs.SoundScript.{KeepsDeclared, named_def}
use Rattle.term_store.specs.declared.command.Datatype.{Datatype}
use Rattle.term_store.specs.declared.command.Def.{Def}
use Rattle.term_store.specs.declared.command.TypedCommand.{TypedCommand}
use Rattle.term_store.specs.declared.command.TypedCommand.TheVariants as command

-- the definition that a declaration is, a named term among them
abbrev pub defined_by : Declaration → Option PlainDef
defined_by (definition d) = Some d
defined_by (term_name d n t) = Some (named_def d n t)
defined_by d = None

abbrev pub with_some : Option PlainDef → List PlainDef → List PlainDef
with_some None ds = ds
with_some (Some d) ds = d ∷ ds

-- the definitions among declarations, in order
abbrev pub defined_in : List Declaration → List PlainDef
defined_in [] = []
defined_in (d ∷ ds) = with_some (defined_by d) (defined_in ds)

-- the datatypes among declarations, in order
abbrev pub datatypes_in : List Declaration → List PlainDatatype
datatypes_in [] = []
datatypes_in (datatype t ∷ ds) = t ∷ datatypes_in ds
datatypes_in (d ∷ ds) = datatypes_in ds

-- the script keeps exactly the definitions and the datatypes of its commands
pub record KeepsDefined (script : Kept) : Type 0 where
  pub defs : map plain_def script.defs.defs ≡ defined_in (declared_in (commands_of script))
  pub datatypes : map plain_datatype script.defs.datatypes ≡ datatypes_in (declared_in (commands_of script))

-- all that is kept has a number below this one
pub record KeepsBelow (n : ℕ) (kept : Definitions) : Type 0 where
  pub defs : All (λ (d : Def). d.no.0 < n) kept.defs
  pub datatypes : All (λ (t : Datatype). t.no.0 < n) kept.datatypes

-- the definitions that a command makes, but for those of its named terms
abbrev pub definitions_in : TypedCommand → List Def
definitions_in (command.DefineFun d) = d ∷ []
definitions_in (command.DefineFunRec d) = d ∷ []
definitions_in (command.DefineFunsRec ds) = ds
definitions_in c = []

-- the datatypes that a command declares
abbrev pub group_in : TypedCommand → List Datatype
group_in (command.DeclareDatatype t) = t ∷ []
group_in (command.DeclareDatatypes ts) = ts
group_in c = []

-- with these definitions more
abbrev pub with_defs : Definitions → List Def → Definitions
with_defs kept ds = record { defs = kept.defs ++ ds; datatypes = kept.datatypes }

abbrev pub with_definitions : Kept → List Def → Kept
with_definitions script ds = record { commands = script.commands; defs = with_defs script.defs ds }

-- nothing is kept under the number of a definition when its turn comes
abbrev pub EachUnused : Definitions → List Def → Type 0
EachUnused kept ds = (i : ℕ) (d : Def) → i < length ds → d ≡ slice_index_or ds i d → IsUnused (with_defs kept (take i ds)) d.no

-- with these datatypes more
abbrev pub with_group_defs : Definitions → List Datatype → Definitions
with_group_defs kept ts = record { defs = kept.defs; datatypes = kept.datatypes ++ ts }

abbrev pub with_datatypes : Kept → List Datatype → Kept
with_datatypes script ts = record { commands = script.commands; defs = with_group_defs script.defs ts }

-- nothing is kept under the number of a datatype when its turn comes
abbrev pub EachDatatypeUnused : Definitions → List Datatype → Type 0
EachDatatypeUnused kept ts = (i : ℕ) (t : Datatype) → i < length ts → t ≡ slice_index_or ts i t → IsUnused (with_group_defs kept (take i ts)) t.no

-- the commands are the same, and what is kept for declarations with numbers below this one
pub record KeepsEarlier (n : ℕ) (old new : Kept) : Type 0 where
  pub commands : new.commands ≡ old.commands
  pub kept : (d : Declaration) → number_given d < n → KeepsDeclared old.defs d → KeepsDeclared new.defs d

-- some of these definitions are kept, the first ones
abbrev pub KeepsPart : Kept → List Def → Kept → Type 0
KeepsPart old ds new = (n : ℕ) × (new ≡ with_definitions old (take n ds))

-- .. of these datatypes
abbrev pub KeepsGroupPart : Kept → List Datatype → Kept → Type 0
KeepsGroupPart old ts new = (n : ℕ) × (new ≡ with_datatypes old (take n ts))
