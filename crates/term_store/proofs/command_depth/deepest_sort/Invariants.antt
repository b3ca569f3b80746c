use Rattle.std.proofs.Common.{◌≡◌, ◌≤◌, [], max, map, drop}
use Rattle.sort_store.specs.Tree.{tree}
use Rattle.term_store.specs.CanonicalText.{sort_text}
use Rattle.term_store.specs.CommandText.{sexps}
use Rattle.term_store.specs.Depth.{saturated, nesting_all}
use Rattle.term_store.proofs.command_depth.deepest_sort.Given as goal

abbrev pub invariant-loop-sort : goal.invariant-loop-sort
invariant-loop-sort l = record {
  depths : saturated (max l.deep (nesting_all (sexps (map (sort_text []) (map tree (drop l.sort-index l.sorts)))))) ≡ saturated (nesting_all (sexps (map (sort_text []) (map tree l.sorts))));
  small : l.deep ≤ 4294967295;
}
