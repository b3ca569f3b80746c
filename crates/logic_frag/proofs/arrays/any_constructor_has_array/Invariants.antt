use Rattle.std.proofs.Common.{◌≡◌, drop, map}
use Rattle.std.specs.List.{list_any, flat_map}
use Rattle.term_store.specs.Command.{plain_constructor}
use Rattle.logic_frag.specs.ArraySorts.{constructor_sorts}
use Rattle.logic_frag.specs.SortSearch.{has_other_array}
use Rattle.logic_frag.proofs.arrays.any_constructor_has_array.Given as goal

abbrev pub invariant-loop-constructor : goal.invariant-loop-constructor
invariant-loop-constructor l = list_any (has_other_array l.part) (flat_map constructor_sorts (map plain_constructor (drop l.constructor-index l.constructors))) ≡ list_any (has_other_array l.part) (flat_map constructor_sorts (map plain_constructor l.constructors))
