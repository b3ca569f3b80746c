use Rattle.std.proofs.Common.{◌≡◌, length, map, rules, subst, sym}
use Rattle.std.specs.Map.{values_of}
use Rattle.std.specs.List.{Contains}
use Rattle.sort_store.specs.Tree.{node, nodes, tree, sort, sorts}
use Rattle.sort_store.specs.Interned.{AllInterned, IsInterned, HasNoRepeats}
use Rattle.sort_store.specs.SortKeys.{IsKeyedStore}
use Rattle.sort_store.proofs.KeyedStores.{inserted_as, lacks_from_absent}
use Rattle.sort_store.proofs.store.SortStore.add_entry.Goals as goal
use Rattle.sort_store.proofs.store.SortStore.add_entry.Goals.{In_ok-insert_new}

facts : (c : In_ok-insert_new) → IsKeyedStore c.insert_new.new.table.entries × (IsInterned (map tree (values_of c.insert_new.new.table.entries)) c.in_ok-sort.sort)
    × (tree c.in_ok-sort.sort ≡ sort c.args.key.head (sorts (map tree c.args.args.now))) × HasNoRepeats (map tree (values_of c.insert_new.new.table.entries))
facts c =
    let is : c.in_ok-sort.sort ≡ node (length c.self.inside.table.entries) c.args.key.head (nodes c.args.args.now) = search rules in
    let same : c.in_ok-clone.field-0 ≡ c.in_ok-sort.sort = search rules in
    inserted_as c.args.self.now c.self.inside.table.entries c.insert_new.new.table.entries c.args.key c.in_ok-sort.sort c.in_ok-clone.field-0 c.args.args.now c.self.view_is
    c.self.invariant c.requires.interned c.requires.numbers c.requires.absent is same c.in_ok-insert_new.ensures.ok

pub insert_new-requires : goal.insert_new-requires
insert_new-requires c =
    lacks_from_absent c.self.inside.table.entries c.args.key c.args.args.now c.self.invariant (subst (λ s. AllInterned s c.args.args.now) (sym c.self.view_is) c.requires.interned) c.requires.numbers
    (subst (λ s. Contains s (sort c.args.key.head (sorts (map tree c.args.args.now))) → ⊥) (sym c.self.view_is) c.requires.absent)

pub invariant_of-self-2 : goal.invariant_of-self-2
invariant_of-self-2 c = (facts c).0

pub returns-clause-tree : goal.returns-clause-tree
returns-clause-tree c = (facts c).2

pub returns-clause-interned : goal.returns-clause-interned
returns-clause-interned c = (facts c).1

pub returns-clause-distinct : goal.returns-clause-distinct
returns-clause-distinct c = (facts c).3
