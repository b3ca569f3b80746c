-- A script is the list of its accepted commands, with the definitions and datatypes that it keeps.
use Rattle.std.specs.Prelude.{List, [], map}
use Rattle.term_store.specs.declared.command.TypedCommand.{TypedCommand}
use Rattle.term_store.specs.Command.{PlainCommand, plain_command}
use Rattle.term_store.specs.Definitions.{Definitions, no_definitions}

pub record Kept : Type 0 where
  pub commands : List TypedCommand
  pub defs : Definitions

abbrev pub empty_script : Kept
empty_script = record { commands = []; defs = no_definitions }

-- its commands, by their trees
abbrev pub commands_of : Kept → List PlainCommand
commands_of script = map plain_command script.commands
