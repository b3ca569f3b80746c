use Rattle.std.proofs.Common.{◌≡◌, ◌≤◌, max, map, drop}
use Rattle.term_store.specs.Command.{plain_datatype}
use Rattle.term_store.specs.CommandText.{datatype_text, sexps}
use Rattle.term_store.specs.Depth.{saturated, nesting_all}
use Rattle.term_store.proofs.command_depth.deepest_datatype.Given as goal

abbrev pub invariant-loop-datatype : goal.invariant-loop-datatype
invariant-loop-datatype l = record {
  depths : saturated (max l.deep (nesting_all (sexps (map datatype_text (map plain_datatype (drop l.datatype-index l.group)))))) ≡ saturated (nesting_all (sexps (map datatype_text (map plain_datatype l.group))));
  small : l.deep ≤ 4294967295;
}
