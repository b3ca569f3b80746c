use Rattle.std.proofs.Common.{◌≡◌, ◌++◌, length, map}
use Rattle.std.specs.List.{All}
use Rattle.term_store.specs.Command.{plain_constructor}
use Rattle.typer.specs.FunctionSymbols.{signature_of}
use Rattle.typer.specs.Ready.{IsReady}
use Rattle.datatype_commands.specs.Answers.{AreReadyParts, OnlySortsGrow, constructors_left}
use Rattle.datatype_commands.specs.GroupRules.{all_part_names, judge_constructors}
use Rattle.datatype_commands.proofs.TakingLists.{Onward}
use Rattle.datatype_commands.proofs.parts.constructors_of.Given as goal

-- what the constructors that are left lead to after those so far, all lead to, and only sorts are new
abbrev pub invariant-loop-next : goal.invariant-loop-next
invariant-loop-next l = record {
  onward : Onward (judge_constructors (signature_of l.fn.world) l.params l.fn.parts.first l.fn.parts.names.items l.raws) (judge_constructors (signature_of l.fn.world) l.params l.fn.parts.first l.parts.names.items (constructors_left l.next)) (map plain_constructor l.constructors);
  names : l.parts.names.items ≡ l.fn.parts.names.items ++ all_part_names (map plain_constructor l.constructors);
  first : l.parts.first ≡ l.fn.parts.first;
  schema : All (AreReadyParts l.world (length l.params)) l.constructors;
  grown : OnlySortsGrow l.fn.world l.world;
  ready : IsReady l.world;
}

abbrev pub decreases-loop-next : goal.decreases-loop-next
decreases-loop-next l = length (constructors_left l.next)
