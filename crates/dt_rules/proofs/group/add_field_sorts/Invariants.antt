use Rattle.std.proofs.Common.{List, map, take}
use Rattle.sort_store.specs.Interned.{AllInterned, Grows, HasNoRepeats}
use Rattle.sort_store.specs.Tree.{Sort, tree}
use Rattle.term_store.specs.Command.{PlainDatatype, plain_field}
use Rattle.dt_rules.specs.Groups.{IsFieldSort}
use Rattle.dt_rules.specs.Unfolding.{IsMember}
use Rattle.dt_rules.specs.Worklist.{AreMembers, HasGained}
use Rattle.dt_rules.proofs.group.add_field_sorts.Given as goal

-- the sorts of the fields so far are in the list
abbrev pub invariant-loop-field : goal.invariant-loop-field
invariant-loop-field l = record {
  grows : Grows l.fn.sorts l.sorts;
  distinct : HasNoRepeats l.fn.sorts → HasNoRepeats l.sorts;
  interned : AllInterned l.sorts l.args;
  gained : (ts group : List PlainDatatype) → AreMembers ts group l.fn.sorts l.fn.list.items → ((s : Sort) → IsFieldSort (map plain_field l.fields) (map tree l.args) s → IsMember ts group s)
      → HasGained ts group (IsFieldSort (map plain_field (take l.field-index l.fields)) (map tree l.args)) l.sorts l.fn.list.items l.list.items;
}
