use Rattle.std.proofs.Common.{◌≡◌, arith, map, ap, sym, ◌∙◌}
use Rattle.sort_store.specs.Tree.{tree, sort, sorts}
use Rattle.sort_store.specs.Size.{size_of_all}
use Rattle.sort_store.specs.declared.sort_ref.SortNode.{SortNode}
use Rattle.sort_store.proofs.ArgumentLists.{trees-nodes}
use Rattle.sort_store.proofs.GrownStores.{listed_step, all_listed, count_of_copies, ok_more}
use Rattle.sort_store.proofs.store.SortStore.+copy_tree.Goals as goal

pub loop-arg-preserved : goal.loop-arg-preserved
loop-arg-preserved t c =
    let i = c.loop-arg.invariant in
    let s = listed_step tree c.args.self.now c.loop-arg.self c.copy_tree.new.self c.loop-arg.args.items c.push.new.self.items c.deref-arg-items.result.now c.in_ok-copy.copy c.arg-item.result c.loop-arg.arg-index
    i.grows i.interned i.same c.copy_tree.ensures.grows c.in_ok-copy.ensures.interned c.in_ok-copy.ensures.tree c.loop-arg-test.true c.arg-item.is c.in_ok-push.ensures.items in
    record { grows = s.grows; interned = s.interned; same = s.same }

pub intern-requires-clause-count : goal.intern-requires-clause-count
intern-requires-clause-count t c =
    let m = all_listed tree c.loop-arg.args.items c.deref-arg-items.result.now c.loop-arg.arg-index c.loop-arg.invariant.same (omega arith) in
    let n = count_of_copies c.loop-arg.args.items c.deref-arg-items.result.now m in
    let v = c.sort.inside.shared.value in
    let e : c.deref-arg-items.result.now ≡ v.args.items = c.deref-arg-items.ensures.value ∙ ap (λ (x : SortNode). x.args.items) c.deref.ensures in
    omega (arith, c.sort.invariant.counts, ap size_of_all c.deref-3.ensures.value, n, ap size_of_all e, ap (λ (x : SortNode). x.node_count) c.deref-4.ensures)

pub returns-clause-tree : goal.returns-clause-tree
returns-clause-tree t c =
    let m = all_listed tree c.loop-arg.args.items c.deref-arg-items.result.now c.loop-arg.arg-index c.loop-arg.invariant.same (omega arith) in
    let v = c.sort.inside.shared.value in
    let a : c.deref-arg-items.result.now ≡ v.args.items = c.deref-arg-items.ensures.value ∙ ap (λ (x : SortNode). x.args.items) c.deref.ensures in
    let made : sort c.deref-2.result.now.head (sorts (map tree c.deref-3.result.now)) ≡ tree c.args.sort.now =
    ap (λ (x : SortNode). sort x.head (sorts (map tree c.deref-3.result.now))) c.deref-2.ensures ∙ ap (λ z. sort v.head (sorts (map tree z))) c.deref-3.ensures.value ∙ ap (λ z. sort v.head (sorts z)) m
    ∙ ap (λ z. sort v.head (sorts (map tree z))) a ∙ ap (sort v.head) (sym (trees-nodes v.args.items)) ∙ ap tree c.sort.view_is in
    ok_more (λ r. tree r ≡ sort c.deref-2.result.now.head (sorts (map tree c.deref-3.result.now))) (λ r. tree r ≡ tree c.args.sort.now) c.intern.result (λ r e. e ∙ made) c.intern.ensures.tree
