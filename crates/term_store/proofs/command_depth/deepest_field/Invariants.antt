use Rattle.std.proofs.Common.{◌≡◌, ◌≤◌, [], max, map, drop}
use Rattle.term_store.specs.Command.{plain_field}
use Rattle.term_store.specs.CommandText.{field_text, sexps}
use Rattle.term_store.specs.Depth.{saturated, nesting_all}
use Rattle.term_store.proofs.command_depth.deepest_field.Given as goal

abbrev pub invariant-loop-field : goal.invariant-loop-field
invariant-loop-field l = record {
  depths : saturated (max l.deep (nesting_all (sexps (map (field_text []) (map plain_field (drop l.field-index l.fields)))))) ≡ saturated (nesting_all (sexps (map (field_text []) (map plain_field l.fields))));
  small : l.deep ≤ 4294967295;
}
