use Rattle.std.proofs.Common.{◌≡◌, ◌≤◌, ◌<◌, None, rules, arith, length, map, ap, sym, ◌∙◌}
use Rattle.sort_store.specs.Tree.{NumberedSort, tree, sort, sorts, node_count}
use Rattle.sort_store.specs.Size.{size_of, size_of_all}
use Rattle.sort_store.specs.Instance.{inst, param_of}
use Rattle.sort_store.specs.declared.sort_ref.SortNode.{SortNode}
use Rattle.sort_store.proofs.GrownStores.{ok_more, all_interned_grown, listed_step, all_listed}
use Rattle.sort_store.proofs.InstanceLaws.{inst_is, part_small, part_below, params_of_part, listed_size}
use Rattle.sort_store.proofs.store.SortStore.+inst_tree.Goals as goal

pub inst_tree-requires : goal.inst_tree-requires
inst_tree-requires t c =
    let v = c.schema.inside.shared.value in
    let ss = map tree c.args.args.now in
    let n = length c.args.args.now in
    let xs = c.deref-part-items.result.now in
    let i = c.loop-part.part-index in
    let x = c.part-item.result in
    let a : xs ≡ v.args.items = c.deref-part-items.ensures.value ∙ ap (λ (x : SortNode). x.args.items) c.deref-2.ensures in
    let none : param_of v.head ≡ None = search rules in
    let e = inst_is ss c.args.schema.now v.number v.head v.args.items xs c.schema.view_is a none in
    let below : size_of x < size_of c.args.schema.now = part_below c.args.schema.now v.number v.head v.args.items xs x i c.schema.view_is a c.loop-part-test.true c.part-item.is in (
      search (rules, below),
      (
        all_interned_grown c.args.self.now c.loop-part.self c.args.args.now c.loop-part.invariant.grows c.requires.interned,
        (
          params_of_part n c.args.schema.now v.number v.head v.args.items xs x i c.schema.view_is a c.loop-part-test.true c.part-item.is c.requires.params,
          omega (arith, c.requires.small, ap node_count e, ap (λ (x : NumberedSort). node_count (inst ss (tree x))) c.part-item.is, part_small ss xs i x c.loop-part-test.true),
        ),
      ),
    )

pub loop-part-preserved : goal.loop-part-preserved
loop-part-preserved t c =
    let i = c.loop-part.invariant in
    let f : NumberedSort → _ = λ x. inst (map tree c.args.args.now) (tree x) in
    let s = listed_step f c.args.self.now c.loop-part.self c.inst_tree.new.self c.loop-part.list.items c.push.new.self.items c.deref-part-items.result.now c.in_ok-instance.instance c.part-item.result c.loop-part.part-index
    i.grows i.interned i.same c.inst_tree.ensures.grows c.in_ok-instance.ensures.interned c.in_ok-instance.ensures.tree c.loop-part-test.true c.part-item.is c.in_ok-push.ensures.items in
    record { grows = s.grows; interned = s.interned; same = s.same }

pub unreachable-requires : goal.unreachable-requires
unreachable-requires t c =
    let v = c.schema.inside.shared.value in
    let ss = map tree c.args.args.now in
    let xs = c.deref-part-items.result.now in
    let none : param_of v.head ≡ None = search rules in
    let e = inst_is ss c.args.schema.now v.number v.head v.args.items xs c.schema.view_is (c.deref-part-items.ensures.value ∙ ap (λ (x : SortNode). x.args.items) c.deref-2.ensures) none in
    let f : NumberedSort → _ = λ x. inst ss (tree x) in
    let m = all_listed f c.loop-part.list.items xs c.loop-part.part-index c.loop-part.invariant.same (omega arith) in
    let large : 1000 ≤ size_of_all c.deref-3.result.now = search rules in
    omega (arith, c.requires.small, ap node_count e, listed_size f c.loop-part.list.items xs m, large, ap size_of_all c.deref-3.ensures.value)

pub returns-clause-tree : goal.returns-clause-tree
returns-clause-tree t c =
    let v = c.schema.inside.shared.value in
    let ss = map tree c.args.args.now in
    let xs = c.deref-part-items.result.now in
    let none : param_of v.head ≡ None = search rules in
    let e = inst_is ss c.args.schema.now v.number v.head v.args.items xs c.schema.view_is (c.deref-part-items.ensures.value ∙ ap (λ (x : SortNode). x.args.items) c.deref-2.ensures) none in
    let f : NumberedSort → _ = λ x. inst ss (tree x) in
    let m = all_listed f c.loop-part.list.items xs c.loop-part.part-index c.loop-part.invariant.same (omega arith) in
    let h = c.deref-in-Some-count_nodes.result.now.head in
    let made = c.deref-in-Some-count_nodes-2.result.now in
    let is : sort h (sorts (map tree made)) ≡ inst ss (tree c.args.schema.now) =
    ap (λ (x : SortNode). sort x.head (sorts (map tree made))) c.deref-in-Some-count_nodes.ensures ∙ ap (λ z. sort v.head (sorts (map tree z))) c.deref-in-Some-count_nodes-2.ensures.value ∙ ap (λ z. sort v.head (sorts z)) m ∙ sym e in
    ok_more (λ r. tree r ≡ sort h (sorts (map tree made))) (λ r. tree r ≡ inst ss (tree c.args.schema.now)) c.intern.result (λ r e. e ∙ is) c.intern.ensures.tree
