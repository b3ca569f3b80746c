use Rattle.std.proofs.Common.{◌≡◌, length, map}
use Rattle.std.specs.List.{All}
use Rattle.term_store.specs.Command.{plain_datatype}
use Rattle.typer.specs.Declarations.{declarations_of}
use Rattle.typer.specs.Ready.{IsReady}
use Rattle.datatype_commands.specs.Answers.{HasReadyParts, OnlySymbolsChange}
use Rattle.datatype_commands.specs.DeclaredDatatypes.{with_parts}
use Rattle.datatype_commands.proofs.live.declare_parts.Given as goal

-- with the datatypes that are left, all are live
abbrev pub invariant-loop-datatype : goal.invariant-loop-datatype
invariant-loop-datatype l = record {
  effect : with_parts (declarations_of l.world.scopes) (map plain_datatype l.left) ≡ with_parts (declarations_of l.fn.world.scopes) (map plain_datatype l.group);
  schema : All (HasReadyParts l.world) l.left;
  others : OnlySymbolsChange l.fn.world l.world;
  ready : IsReady l.world;
}

abbrev pub decreases-loop-datatype : goal.decreases-loop-datatype
decreases-loop-datatype l = length l.left
