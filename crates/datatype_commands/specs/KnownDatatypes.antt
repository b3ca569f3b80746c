-- What a signature knows of datatypes: those in the sorts of its live symbols and of their fields are kept, each under its number,
-- which is below the next one, and with as many parameters as it has arguments there.
use Rattle.std.specs.Prelude.{◌≡◌, ◌<◌, List, Some}
use Rattle.std.specs.List.{All, Contains}
use Rattle.term_store.specs.Command.{PlainDatatype}
use Rattle.term_store.specs.Declarations.{Declaration, datatype}
use Rattle.term_store.specs.SoundScript.{IsSoundDatatype}
use Rattle.dt_rules.specs.Groups.{numbered}
use Rattle.typer.specs.FunctionSymbols.{Signature}
use Rattle.typer.specs.Soundness.{HasSoundSorts}

pub record KnowsDatatypes (signature : Signature) : Type 0 where
  -- declarations under which the sorts are sound
  pub script : List Declaration
  pub sorts : HasSoundSorts script signature.declarations
  pub fields : All (IsSoundDatatype script) signature.datatypes
  -- each datatype among them is kept under its number
  pub kept : (t : PlainDatatype) → Contains script (datatype t) → numbered signature.datatypes t.no.0 ≡ Some t
  pub below : All (λ (t : PlainDatatype). t.no.0 < signature.first) signature.datatypes
