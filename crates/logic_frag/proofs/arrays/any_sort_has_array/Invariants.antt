use Rattle.std.proofs.Common.{◌≡◌, drop, map}
use Rattle.std.specs.List.{list_any}
use Rattle.sort_store.specs.Tree.{tree}
use Rattle.logic_frag.specs.SortSearch.{has_other_array}
use Rattle.logic_frag.proofs.arrays.any_sort_has_array.Given as goal

abbrev pub invariant-loop-sort : goal.invariant-loop-sort
invariant-loop-sort l = list_any (has_other_array l.part) (map tree (drop l.sort-index l.sorts)) ≡ list_any (has_other_array l.part) (map tree l.sorts)
