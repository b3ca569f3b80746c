use Rattle.std.proofs.Common.{List, map, take}
use Rattle.std.specs.List.{Contains}
use Rattle.sort_store.specs.Interned.{AllInterned}
use Rattle.sort_store.specs.Tree.{Sort, tree}
use Rattle.term_store.specs.Command.{PlainDatatype}
use Rattle.dt_rules.specs.Unfolding.{IsMember}
use Rattle.dt_rules.specs.Worklist.{AreMembers, HasGained}
use Rattle.dt_rules.proofs.group.add_each.Given as goal

-- the sorts so far are in the list
abbrev pub invariant-loop-sort : goal.invariant-loop-sort
invariant-loop-sort l =
    (ts group : List PlainDatatype) (store : List Sort) → AreMembers ts group store l.fn.list.items → AllInterned store l.some → ((s : Sort) → Contains (map tree l.some) s → IsMember ts group s)
    → HasGained ts group (Contains (map tree (take l.sort-index l.some))) store l.fn.list.items l.list.items
