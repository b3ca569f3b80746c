use Rattle.std.proofs.Common.{◌≡◌, drop, map}
use Rattle.std.specs.List.{list_any}
use Rattle.term_store.specs.Command.{PlainField, plain_field}
use Rattle.logic_frag.specs.SortSearch.{has_other_array}
use Rattle.logic_frag.proofs.arrays.any_field_has_array.Given as goal

abbrev pub invariant-loop-field : goal.invariant-loop-field
invariant-loop-field l = list_any (has_other_array l.part) (map (λ (f : PlainField). f.sort) (map plain_field (drop l.field-index l.fields))) ≡ list_any (has_other_array l.part) (map (λ (f : PlainField). f.sort) (map plain_field l.fields))
