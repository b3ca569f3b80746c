use Rattle.std.proofs.Common.{◌⊎◌, length, map}
use Rattle.std.specs.Prelude.{IfSome, IfNone}
use Rattle.std.specs.List.{Contains}
use Rattle.sort_store.specs.Interned.{AllInterned, Grows, HasNoRepeats}
use Rattle.sort_store.specs.Tree.{Sort, tree}
use Rattle.term_store.specs.Command.{plain_datatype}
use Rattle.dt_rules.specs.Groups.{known}
use Rattle.dt_rules.specs.Settling.{NoneSettles, SettlesAt}
use Rattle.dt_rules.specs.Unfolding.{IsMember, IsSettled}
use Rattle.dt_rules.proofs.settled.settle.Given as goal

-- each member is settled or still in the list
abbrev pub invariant-loop-next : goal.invariant-loop-next
invariant-loop-next l = record {
  grows : Grows l.fn.sorts l.sorts;
  distinct : HasNoRepeats l.fn.sorts → HasNoRepeats l.sorts;
  interned : AllInterned l.sorts l.unsettled.items;
  members : (s : Sort) → Contains (map tree l.unsettled.items) s → IsMember (known (map plain_datatype l.defs.datatypes) (map plain_datatype l.group)) (map plain_datatype l.group) s;
  rest : (s : Sort) → IsMember (known (map plain_datatype l.defs.datatypes) (map plain_datatype l.group)) (map plain_datatype l.group) s → IsSettled (known (map plain_datatype l.defs.datatypes) (map plain_datatype l.group)) (map plain_datatype l.group) s ⊎ Contains (map tree l.unsettled.items) s;
  found : IfSome l.next (SettlesAt (known (map plain_datatype l.defs.datatypes) (map plain_datatype l.group)) (map plain_datatype l.group) l.unsettled.items);
  none : IfNone l.next (NoneSettles (known (map plain_datatype l.defs.datatypes) (map plain_datatype l.group)) (map plain_datatype l.group) l.unsettled.items);
}

abbrev pub decreases-loop-next : goal.decreases-loop-next
decreases-loop-next l = length l.unsettled.items
