use Rattle.std.proofs.Common.{map, take}
use Rattle.sort_store.specs.Interned.{AllInterned, Grows, HasNoRepeats}
use Rattle.sort_store.specs.Tree.{tree}
use Rattle.term_store.specs.Command.{plain_field}
use Rattle.dt_rules.specs.Settling.{HasNoFieldSort}
use Rattle.dt_rules.proofs.settled.are_apart.Given as goal

-- no sort of the fields so far is in the list
abbrev pub invariant-loop-field : goal.invariant-loop-field
invariant-loop-field l = record {
  grows : Grows l.fn.sorts l.sorts;
  distinct : HasNoRepeats l.fn.sorts → HasNoRepeats l.sorts;
  interned : AllInterned l.sorts l.args;
  none : HasNoFieldSort (map plain_field (take l.field-index l.fields)) (map tree l.args) (map tree l.unsettled);
}
