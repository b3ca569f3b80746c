use Rattle.std.proofs.Common.{◌≡◌, [], length, map}
use Rattle.std.specs.List.{All}
use Rattle.term_store.specs.Command.{plain_datatype}
use Rattle.typer.specs.FunctionSymbols.{signature_of}
use Rattle.typer.specs.Ready.{IsReady}
use Rattle.datatype_commands.specs.Answers.{HasReadyParts, OnlySortsGrow, data_decs_left}
use Rattle.datatype_commands.specs.GroupRules.{judge_datatypes}
use Rattle.datatype_commands.proofs.TakingLists.{Onward}
use Rattle.datatype_commands.proofs.group.datatypes_of.Given as goal

-- what the sort symbols that are left lead to after those so far, all lead to, and only sorts are new
abbrev pub invariant-loop-symbol : goal.invariant-loop-symbol
invariant-loop-symbol l = record {
  onward : Onward (judge_datatypes (signature_of l.fn.world) l.first [] l.at l.symbols l.raws) (judge_datatypes (signature_of l.fn.world) l.first l.parts.names.items l.at l.left (data_decs_left l.next)) (map plain_datatype l.datatypes);
  first : l.parts.first ≡ l.first;
  schema : All (HasReadyParts l.world) l.datatypes;
  grown : OnlySortsGrow l.fn.world l.world;
  ready : IsReady l.world;
}

abbrev pub decreases-loop-symbol : goal.decreases-loop-symbol
decreases-loop-symbol l = length l.left
