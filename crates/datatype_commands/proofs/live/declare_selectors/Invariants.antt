use Rattle.std.proofs.Common.{◌≡◌, length, map}
use Rattle.std.specs.List.{All}
use Rattle.term_store.specs.Command.{plain_datatype, plain_field}
use Rattle.typer.specs.Declarations.{declarations_of}
use Rattle.typer.specs.Ready.{IsReady}
use Rattle.datatype_commands.specs.Answers.{HoldsOwnSort, IsReadyPart, OnlyScopesChange}
use Rattle.datatype_commands.specs.DeclaredDatatypes.{with_selectors}
use Rattle.datatype_commands.proofs.live.declare_selectors.Given as goal

-- with the fields that are left, all are live
abbrev pub invariant-loop-field : goal.invariant-loop-field
invariant-loop-field l = record {
  effect : with_selectors (declarations_of l.world.scopes) (plain_datatype l.datatype) (map plain_field l.left) ≡ with_selectors (declarations_of l.fn.world.scopes) (plain_datatype l.datatype) (map plain_field l.fields);
  own : HoldsOwnSort l.world.sorts l.datatype l.own;
  schema : All (IsReadyPart l.world (length l.datatype.params)) l.left;
  others : OnlyScopesChange l.fn.world l.world;
  ready : IsReady l.world;
}

abbrev pub decreases-loop-field : goal.decreases-loop-field
decreases-loop-field l = length l.left
