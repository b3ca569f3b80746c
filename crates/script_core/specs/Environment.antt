-- What the commands so far have made.
use Rattle.std.specs.Prelude.{ℕ, Bool, true, false, List, [], slice_index_or, Option, Some, None}
use Rattle.lex_core.specs.NameTable.{fixed_texts}
use Rattle.lex_core.specs.declared.token.Tok.{Tok}
use Rattle.sig_table.specs.declared.theories.Theories.{Theories}
use Rattle.term_store.specs.Command.{PlainDatatype, PlainDef}
use Rattle.logic_frag.specs.declared.logic.ArrayPart.{ArrayPart}
use Rattle.logic_frag.specs.declared.logic.ArrayPart.TheVariants as arrays
use Rattle.logic_frag.specs.declared.logic.NumPart.{NumPart}
use Rattle.logic_frag.specs.declared.logic.NumPart.TheVariants as ints
use Rattle.logic_frag.specs.Logics.{Description, logic_named}
use Rattle.typer.specs.Declarations.{Declarations, no_declarations}
use Rattle.typer.specs.FunctionSymbols.{Signature}

pub record Environment : Type 0 where
  -- the table of the names so far
  pub names : List (List ℕ)
  -- the logic that is set
  pub logic : Option Description
  -- its theories; Core alone where none is set
  pub theories : Theories
  -- the live declarations on their levels, and whether declarations are global
  pub declarations : Declarations
  -- the datatypes declared so far; popped and reset they go on to stand for their sorts
  pub datatypes : List PlainDatatype
  -- the definitions so far, those of named terms among them, which are never forgotten either
  pub definitions : List PlainDef
  -- the number of the next declaration
  pub next : ℕ

-- Core alone
abbrev pub core_alone : Theories
core_alone = record { ints = false; arrays = false; bits = false }

abbrev pub has_ints : NumPart → Bool
has_ints ints.Absent = false
has_ints part = true

abbrev pub has_arrays : ArrayPart → Bool
has_arrays arrays.Absent = false
has_arrays part = true

-- the theories of a logic, and Core alone where none is set
abbrev pub theories_under : Option Description → Theories
theories_under None = core_alone
theories_under (Some l) = record { ints = has_ints l.ints; arrays = has_arrays l.arrays; bits = l.bits }

-- before the first command
abbrev pub start : Environment
start = record { names = fixed_texts; logic = None; theories = core_alone; declarations = no_declarations; datatypes = []; definitions = []; next = 0 }

-- the text of a token
abbrev pub text_of : Environment → Tok → List ℕ
text_of env token = slice_index_or env.names token.name []

-- the logic that a token names
abbrev pub logic_in : Environment → Tok → Option Description
logic_in env token = logic_named (text_of env token)

-- what the symbols of terms are looked up in, where this is the number of the first name that the command declares
abbrev pub signature_from : ℕ → Environment → Signature
signature_from first env = record { texts = env.names; declarations = env.declarations; datatypes = env.datatypes; theories = env.theories; first = first }

abbrev pub signature_in : Environment → Signature
signature_in env = signature_from env.next env
