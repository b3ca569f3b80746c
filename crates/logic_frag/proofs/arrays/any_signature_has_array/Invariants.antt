use Rattle.std.proofs.Common.{◌≡◌, drop, map}
use Rattle.std.specs.List.{list_any, flat_map}
use Rattle.term_store.specs.Command.{plain_def}
use Rattle.logic_frag.specs.ArraySorts.{signature_sorts}
use Rattle.logic_frag.specs.SortSearch.{has_other_array}
use Rattle.logic_frag.proofs.arrays.any_signature_has_array.Given as goal

abbrev pub invariant-loop-def : goal.invariant-loop-def
invariant-loop-def l = list_any (has_other_array l.part) (flat_map signature_sorts (map plain_def (drop l.def-index l.defs))) ≡ list_any (has_other_array l.part) (flat_map signature_sorts (map plain_def l.defs))
