use Rattle.std.proofs.Common.{◌≡◌, ◌≤◌, [], max, map, drop}
use Rattle.term_store.specs.Command.{plain_constructor}
use Rattle.term_store.specs.CommandText.{constructor_text, sexps}
use Rattle.term_store.specs.Depth.{saturated, nesting_all}
use Rattle.term_store.proofs.command_depth.deepest_constructor.Given as goal

abbrev pub invariant-loop-constructor : goal.invariant-loop-constructor
invariant-loop-constructor l = record {
  depths : saturated (max l.deep (nesting_all (sexps (map (constructor_text []) (map plain_constructor (drop l.constructor-index l.constructors)))))) ≡ saturated (nesting_all (sexps (map (constructor_text []) (map plain_constructor l.constructors))));
  small : l.deep ≤ 4294967295;
}
