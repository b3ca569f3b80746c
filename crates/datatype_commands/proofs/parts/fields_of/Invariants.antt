use Rattle.std.proofs.Common.{◌≡◌, ◌++◌, length, map}
use Rattle.std.specs.List.{All}
use Rattle.term_store.specs.Command.{plain_field}
use Rattle.term_store.specs.declared.command.Field.{Field}
use Rattle.typer.specs.FunctionSymbols.{signature_of}
use Rattle.typer.specs.Ready.{IsReady}
use Rattle.datatype_commands.specs.Answers.{IsReadyPart, OnlySortsGrow, selectors_left}
use Rattle.datatype_commands.specs.GroupRules.{judge_selectors}
use Rattle.datatype_commands.proofs.TakingLists.{Onward}
use Rattle.datatype_commands.proofs.parts.fields_of.Given as goal

-- what the selectors that are left lead to after those so far, all lead to, and only sorts are new
abbrev pub invariant-loop-next : goal.invariant-loop-next
invariant-loop-next l = record {
  onward : Onward (judge_selectors (signature_of l.fn.world) l.params l.fn.parts.first l.fn.parts.names.items l.raws) (judge_selectors (signature_of l.fn.world) l.params l.fn.parts.first l.parts.names.items (selectors_left l.next)) (map plain_field l.fields);
  names : l.parts.names.items ≡ l.fn.parts.names.items ++ map (λ (f : Field). f.name) l.fields;
  first : l.parts.first ≡ l.fn.parts.first;
  schema : All (IsReadyPart l.world (length l.params)) l.fields;
  grown : OnlySortsGrow l.fn.world l.world;
  ready : IsReady l.world;
}

abbrev pub decreases-loop-next : goal.decreases-loop-next
decreases-loop-next l = length (selectors_left l.next)
