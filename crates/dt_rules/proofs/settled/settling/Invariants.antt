use Rattle.std.proofs.Common.{ℕ, ◌<◌, length, map, get_or}
use Rattle.sort_store.specs.Interned.{AllInterned, Grows, HasNoRepeats}
use Rattle.sort_store.specs.Tree.{NumberedSort, tree}
use Rattle.term_store.specs.Command.{plain_datatype}
use Rattle.dt_rules.specs.Groups.{known}
use Rattle.dt_rules.specs.Settling.{Settles}
use Rattle.dt_rules.proofs.settled.settling.Given as goal

-- none so far settles
abbrev pub invariant-loop-i : goal.invariant-loop-i
invariant-loop-i l = record {
  grows : Grows l.fn.sorts l.sorts;
  distinct : HasNoRepeats l.fn.sorts → HasNoRepeats l.sorts;
  interned : AllInterned l.sorts l.unsettled;
  none : (k : ℕ) (d : NumberedSort) → k < l.i → k < length l.unsettled → Settles (known (map plain_datatype l.defs.datatypes) (map plain_datatype l.group)) (map plain_datatype l.group) (get_or l.unsettled k d) (map tree l.unsettled) → ⊥;
}
