use Rattle.std.proofs.Common.{◌≡◌, length, map}
use Rattle.std.specs.List.{All}
use Rattle.term_store.specs.Command.{plain_constructor, plain_datatype}
use Rattle.typer.specs.Declarations.{declarations_of}
use Rattle.typer.specs.Ready.{IsReady}
use Rattle.datatype_commands.specs.Answers.{AreReadyParts, HoldsOwnSort, OnlyScopesChange}
use Rattle.datatype_commands.specs.DeclaredDatatypes.{with_constructors}
use Rattle.datatype_commands.proofs.live.declare_constructors.Given as goal

-- with the constructors that are left, all are live
abbrev pub invariant-loop-constructor : goal.invariant-loop-constructor
invariant-loop-constructor l = record {
  effect : with_constructors (declarations_of l.world.scopes) (plain_datatype l.datatype) (map plain_constructor l.left)
      ≡ with_constructors (declarations_of l.fn.world.scopes) (plain_datatype l.datatype) (map plain_constructor l.datatype.constructors);
  own : HoldsOwnSort l.world.sorts l.datatype l.own;
  schema : All (AreReadyParts l.world (length l.datatype.params)) l.left;
  others : OnlyScopesChange l.fn.world l.world;
  ready : IsReady l.world;
}

abbrev pub decreases-loop-constructor : goal.decreases-loop-constructor
decreases-loop-constructor l = length l.left
