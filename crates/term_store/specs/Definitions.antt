-- The definitions and datatypes that a script keeps, by their declaration numbers.
use Rattle.std.specs.Prelude.{◌≡◌, ℕ, List, [], ◌∷◌, ◌++◌, Option, Some, None, if◌then◌else◌, ◌==◌}
use Rattle.sort_store.specs.declared.head.DeclNo.{DeclNo}
use Rattle.term_store.specs.declared.command.Def.{Def}
use Rattle.term_store.specs.declared.command.Datatype.{Datatype}

-- in the order in which they were kept
pub record Definitions : Type 0 where
  pub defs : List Def
  pub datatypes : List Datatype

abbrev pub no_definitions : Definitions
no_definitions = record { defs = []; datatypes = [] }

-- the one with this number
abbrev pub def_in : List Def → ℕ → Option Def
def_in [] n = None
def_in (d ∷ ds) n = if n == d.no.0 then Some d else def_in ds n

abbrev pub datatype_in : List Datatype → ℕ → Option Datatype
datatype_in [] n = None
datatype_in (d ∷ ds) n = if n == d.no.0 then Some d else datatype_in ds n

abbrev pub def_at : Definitions → DeclNo → Option Def
def_at kept decl = def_in kept.defs decl.0

abbrev pub datatype_at : Definitions → DeclNo → Option Datatype
datatype_at kept decl = datatype_in kept.datatypes decl.0

-- nothing is kept under the number
pub record IsUnused (kept : Definitions) (decl : DeclNo) : Type 0 where
  pub no_def : def_at kept decl ≡ None
  pub no_datatype : datatype_at kept decl ≡ None

-- with one more
abbrev pub with_def : Definitions → Def → Definitions
with_def kept d = record { defs = kept.defs ++ d ∷ []; datatypes = kept.datatypes }

abbrev pub with_datatype : Definitions → Datatype → Definitions
with_datatype kept d = record { defs = kept.defs; datatypes = kept.datatypes ++ d ∷ [] }
