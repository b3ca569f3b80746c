use Rattle.std.proofs.Common.{◌≡◌, drop, map}
use Rattle.std.specs.List.{list_any, flat_map}
use Rattle.term_store.specs.Command.{plain_datatype}
use Rattle.logic_frag.specs.ArraySorts.{field_sorts}
use Rattle.logic_frag.specs.SortSearch.{has_other_array}
use Rattle.logic_frag.proofs.arrays.any_datatype_has_array.Given as goal

abbrev pub invariant-loop-datatype : goal.invariant-loop-datatype
invariant-loop-datatype l = list_any (has_other_array l.part) (flat_map field_sorts (map plain_datatype (drop l.datatype-index l.group))) ≡ list_any (has_other_array l.part) (flat_map field_sorts (map plain_datatype l.group))
