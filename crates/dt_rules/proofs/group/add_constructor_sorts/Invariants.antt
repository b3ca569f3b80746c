use Rattle.std.proofs.Common.{List, map, take}
use Rattle.sort_store.specs.Interned.{AllInterned, Grows, HasNoRepeats}
use Rattle.sort_store.specs.Tree.{Sort, tree}
use Rattle.term_store.specs.Command.{PlainDatatype, plain_constructor}
use Rattle.dt_rules.specs.Groups.{IsConstructorFieldSort}
use Rattle.dt_rules.specs.Unfolding.{IsMember}
use Rattle.dt_rules.specs.Worklist.{AreMembers, HasGained}
use Rattle.dt_rules.proofs.group.add_constructor_sorts.Given as goal

-- the sorts of the fields of the constructors so far are in the list
abbrev pub invariant-loop-constructor : goal.invariant-loop-constructor
invariant-loop-constructor l = record {
  grows : Grows l.fn.sorts l.sorts;
  distinct : HasNoRepeats l.fn.sorts → HasNoRepeats l.sorts;
  interned : AllInterned l.sorts l.args;
  gained : (ts group : List PlainDatatype) → AreMembers ts group l.fn.sorts l.fn.list.items → ((s : Sort) → IsConstructorFieldSort (map plain_constructor l.constructors) (map tree l.args) s → IsMember ts group s)
      → HasGained ts group (IsConstructorFieldSort (map plain_constructor (take l.constructor-index l.constructors)) (map tree l.args)) l.sorts l.fn.list.items l.list.items;
}
