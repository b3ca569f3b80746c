-- A script is sound where its commands, and the definitions and datatypes that it keeps, are as the
-- session accepts them.
use Rattle.std.specs.Prelude.{◌≡◌, ℕ, ◌+◌, ◌-◌, ◌<◌, ◌≤◌, Bool, false, List, [], ◌∷◌, length, map, option_map, Some, None}
use Rattle.std.specs.List.{All}
use Rattle.sort_store.specs.declared.head.DeclNo.{DeclNo}
use Rattle.term_store.specs.Command.{PlainField, PlainConstructor, PlainDatatype, PlainDef, PlainCommand, plain_datatype, plain_def}
use Rattle.term_store.specs.Command as command
use Rattle.term_store.specs.Declarations.{Declaration, sort_symbol, function_symbol, datatype, constructor_of, selector_of, definition, term_name, number_given, declared_in}
use Rattle.term_store.specs.Definitions.{Definitions, def_at, datatype_at, IsUnused}
use Rattle.term_store.specs.Script.{Kept, commands_of}
use Rattle.sort_store.specs.CoreRanks.{bool}
use Rattle.term_store.specs.SoundTerms.{AreDistinct, IsSoundSort, IsSoundTerm, Bound, bound_also, AppliesBelow}
use Rattle.term_store.specs.Term.{PlainTerm, plain_sort}

-- no pop removes more levels than are open before it, and no more than 65,535 are ever open
abbrev pub KeepsLevels : ℕ → List PlainCommand → Type 0
KeepsLevels open_now [] = Unit {0}
KeepsLevels open_now (command.push n ∷ cs) = (open_now + n ≤ 65535) × KeepsLevels (open_now + n) cs
KeepsLevels open_now (command.pop n ∷ cs) = (n ≤ open_now) × KeepsLevels (open_now - n) cs
KeepsLevels open_now (command.reset ∷ cs) = KeepsLevels 0 cs
KeepsLevels open_now (command.reset_assertions ∷ cs) = KeepsLevels 0 cs
KeepsLevels open_now (c ∷ cs) = KeepsLevels open_now cs

-- a named term is kept as a definition without parameters
abbrev pub named_def : DeclNo → ℕ → PlainTerm → PlainDef
named_def d n t = record { no = d; name = n; params = []; result = plain_sort t; body = t; recursive = false }

-- under the number of a definition or of a datatype that one is kept, and under others nothing
abbrev pub KeepsDef : Definitions → PlainDef → Type 0
KeepsDef kept d = (option_map plain_def (def_at kept d.no) ≡ Some d) × (datatype_at kept d.no ≡ None)

abbrev pub KeepsDeclared : Definitions → Declaration → Type 0
KeepsDeclared kept (sort_symbol d n a) = IsUnused kept d
KeepsDeclared kept (function_symbol d n args r) = IsUnused kept d
KeepsDeclared kept (datatype t) = (def_at kept t.no ≡ None) × (option_map plain_datatype (datatype_at kept t.no) ≡ Some t)
KeepsDeclared kept (constructor_of t c) = IsUnused kept c.no
KeepsDeclared kept (selector_of t c f) = IsUnused kept f.no
KeepsDeclared kept (definition d) = KeepsDef kept d
KeepsDeclared kept (term_name d n t) = KeepsDef kept (named_def d n t)

-- what is true of a definition
pub record IsSoundDef (declared : List Declaration) (d : PlainDef) : Type 0 where
  pub params_distinct : AreDistinct (map (λ v. v.0) d.params)
  pub param_sorts : All (λ v. IsSoundSort declared 0 v.1) d.params
  pub result_sort : IsSoundSort declared 0 d.result
  pub body : IsSoundTerm declared (bound_also d.params []) d.body
  pub body_sort : plain_sort d.body ≡ d.result
  -- one that is not recursive applies only functions with lower numbers
  pub lower : d.recursive ≡ false → AppliesBelow d.no.0 d.body

-- no field sort of a datatype has a parameter past those of the datatype
abbrev pub IsSoundDatatype : List Declaration → PlainDatatype → Type 0
IsSoundDatatype declared t = All (λ (c : PlainConstructor). All (λ (f : PlainField). IsSoundSort declared (length t.params) f.sort) c.fields) t.constructors

abbrev pub IsSoundDeclaration : List Declaration → Declaration → Type 0
IsSoundDeclaration declared (function_symbol d n args r) = All (IsSoundSort declared 0) args × IsSoundSort declared 0 r
IsSoundDeclaration declared (datatype t) = IsSoundDatatype declared t
IsSoundDeclaration declared (definition d) = IsSoundDef declared d
IsSoundDeclaration declared (term_name d n t) = IsSoundDef declared (named_def d n t)
IsSoundDeclaration declared _ = Unit {0}

-- a term that stands in a command has no free variable
abbrev pub IsSoundIn : List Declaration → PlainTerm → Type 0
IsSoundIn declared t = IsSoundTerm declared [] t

-- the terms and sorts of a command beside its declarations
abbrev pub IsSoundCommand : List Declaration → PlainCommand → Type 0
IsSoundCommand declared (command.assert t) = IsSoundIn declared t × (plain_sort t ≡ bool)
IsSoundCommand declared (command.check_sat_assuming ts) = All (IsSoundIn declared) ts
IsSoundCommand declared (command.define_sort n ps s) = IsSoundSort declared (length ps) s
IsSoundCommand declared (command.get_value ts) = All (IsSoundIn declared) ts
IsSoundCommand declared _ = Unit {0}

-- the commands are as the session accepts them, one after the other from the start
pub record AreSoundCommands (commands : List PlainCommand) : Type 0 where
  pub levels : KeepsLevels 0 commands
  -- no number is given twice
  pub numbers : AreDistinct (map number_given (declared_in commands))
  pub declarations : All (IsSoundDeclaration (declared_in commands)) (declared_in commands)
  pub each : All (IsSoundCommand (declared_in commands)) commands

pub record IsSound (script : Kept) : Type 0 where
  pub few : length script.commands < 4294967295
  pub commands_sound : AreSoundCommands (commands_of script)
  pub kept : All (KeepsDeclared script.defs) (declared_in (commands_of script))
