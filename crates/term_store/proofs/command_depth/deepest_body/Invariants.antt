use Rattle.std.proofs.Common.{◌≡◌, ◌≤◌, max, map, drop}
use Rattle.term_store.specs.Command.{plain_def}
use Rattle.term_store.specs.CommandText.{body_text, sexps}
use Rattle.term_store.specs.Depth.{saturated, nesting_all}
use Rattle.term_store.proofs.command_depth.deepest_body.Given as goal

abbrev pub invariant-loop-def : goal.invariant-loop-def
invariant-loop-def l = record {
  depths : saturated (max l.deep (nesting_all (sexps (map body_text (map plain_def (drop l.def-index l.defs)))))) ≡ saturated (nesting_all (sexps (map body_text (map plain_def l.defs))));
  small : l.deep ≤ 4294967295;
}
