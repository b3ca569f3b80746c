use Rattle.std.proofs.Common.{◌-◌, ◌≤◌, length, map}
use Rattle.std.specs.List.{Contains}
use Rattle.sort_store.specs.Interned.{Grows, HasNoRepeats}
use Rattle.sort_store.specs.Tree.{Sort, tree}
use Rattle.term_store.specs.Command.{plain_datatype}
use Rattle.dt_rules.specs.Groups.{known, IsOwnSort}
use Rattle.dt_rules.specs.Worklist.{AreMembers}
use Rattle.dt_rules.proofs.AddedParts.{IsClosedTo}
use Rattle.dt_rules.proofs.group.unfold.Given as goal

-- what the members so far add is in the list
abbrev pub invariant-loop-next : goal.invariant-loop-next
invariant-loop-next l = record {
  grows : Grows l.fn.sorts l.sorts;
  distinct : HasNoRepeats l.fn.sorts → HasNoRepeats l.sorts;
  still : AreMembers (known (map plain_datatype l.defs.datatypes) (map plain_datatype l.group)) (map plain_datatype l.group) l.sorts l.list.items;
  own_in : (s : Sort) → IsOwnSort (map plain_datatype l.group) s → Contains (map tree l.list.items) s;
  closed : IsClosedTo (known (map plain_datatype l.defs.datatypes) (map plain_datatype l.group)) (map plain_datatype l.group) l.list.items l.next;
  within : l.next ≤ length l.list.items;
}

abbrev pub decreases-loop-next : goal.decreases-loop-next
decreases-loop-next l = 2000 - l.next
