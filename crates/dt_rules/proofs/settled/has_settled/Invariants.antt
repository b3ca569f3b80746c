use Rattle.std.proofs.Common.{map, take}
use Rattle.sort_store.specs.Interned.{AllInterned, Grows, HasNoRepeats}
use Rattle.sort_store.specs.Tree.{tree}
use Rattle.term_store.specs.Command.{plain_constructor}
use Rattle.dt_rules.specs.Settling.{HasConstructorWithout}
use Rattle.dt_rules.proofs.settled.has_settled.Given as goal

-- each constructor so far has a field whose sort is in the list
abbrev pub invariant-loop-constructor : goal.invariant-loop-constructor
invariant-loop-constructor l = record {
  grows : Grows l.fn.sorts l.sorts;
  distinct : HasNoRepeats l.fn.sorts → HasNoRepeats l.sorts;
  interned : AllInterned l.sorts l.args;
  none : HasConstructorWithout (map plain_constructor (take l.constructor-index l.constructors)) (map tree l.args) (map tree l.unsettled) → ⊥;
}
