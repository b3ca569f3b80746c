use Rattle.std.proofs.Common.{List, take, map}
use Rattle.sort_store.specs.Interned.{Grows, HasNoRepeats}
use Rattle.term_store.specs.Command.{PlainDatatype, plain_datatype}
use Rattle.dt_rules.specs.Groups.{IsOwnSort}
use Rattle.dt_rules.specs.Worklist.{AreMembers, HasGained}
use Rattle.dt_rules.proofs.group.add_own_sorts.Given as goal

-- the own sorts of the datatypes so far are in the list
abbrev pub invariant-loop-datatype : goal.invariant-loop-datatype
invariant-loop-datatype l = record {
  grows : Grows l.fn.sorts l.sorts;
  distinct : HasNoRepeats l.fn.sorts → HasNoRepeats l.sorts;
  gained : (ts : List PlainDatatype) → AreMembers ts (map plain_datatype l.group) l.fn.sorts l.fn.list.items → HasGained ts (map plain_datatype l.group) (IsOwnSort (map plain_datatype (take l.datatype-index l.group))) l.sorts l.fn.list.items l.list.items;
}
