-- What the reading of a command answers, and what its view stands for.
use Rattle.std.specs.Prelude.{◌≡◌, Result, Ok, Err}
use Rattle.std.specs.Result.{result_unwrap_or}
use Rattle.lex_core.specs.declared.token.Tok.{Tok}
use Rattle.lex_core.specs.declared.place.Place.{Place}
use Rattle.sexp_core.specs.Sexp.{Sexp}
use Rattle.term_grammar.specs.Reads.{byte_of}
use Rattle.cmd_grammar.specs.declared.command.GrError.{GrError}
use Rattle.cmd_grammar.specs.declared.command.GrError.TheVariants as error
use Rattle.cmd_grammar.specs.declared.command_kind.RawCommandKind.{RawCommandKind}
use Rattle.cmd_grammar.specs.Commands.{Command, exit, CommandAt}
use Rattle.cmd_grammar.specs.CommandViews.{command_from}
use Rattle.cmd_grammar.specs.CommandReads.{read_command}

-- the command that a tree reads as, if it reads, with its first byte
abbrev pub command_at : Sexp Tok → CommandAt
command_at t = record { at = byte_of t; command = result_unwrap_or (read_command t) exit }

-- the command of a production, or why there is none
abbrev pub kind_read : Result RawCommandKind Place → Result Command Place
kind_read (Ok k) = Ok (command_from k)
kind_read (Err place) = Err place

-- The command exactly where the tree reads as one, and the fault otherwise. Memory never runs out.
abbrev pub Answers : Sexp Tok → Result CommandAt GrError → Type 0
Answers t (Ok c) = (read_command t ≡ Ok c.command) × (c.at ≡ byte_of t)
Answers t (Err (error.Fault place)) = read_command t ≡ Err place
Answers t (Err error.NoMemory) = ⊥
