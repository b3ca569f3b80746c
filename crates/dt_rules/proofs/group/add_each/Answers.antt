use Rattle.std.proofs.Common.{◌≡◌, ◌≤◌, ◌+◌, ap, sym, ◌∙◌, subst, map, take, inl, inr}
use Rattle.std.specs.List.{Contains}
use Rattle.sort_store.specs.Tree.{tree, node_count}
use Rattle.dt_rules.specs.Unfolding.{IsMember}
use Rattle.dt_rules.proofs.Gaining.{gained_more, add_gains, gained_ok, gains_fail, gains_failed, interned_copy, sort_more, sort_at, all_sorts}
use Rattle.dt_rules.proofs.group.add_each.Goals as goal

pub loop-sort-preserved : goal.loop-sort-preserved
loop-sort-preserved c = λ ts group store h k m.
    (let before = c.loop-sort.invariant ts group store h k m in
    let some = c.args.some.now in
    let i = c.loop-sort.sort-index in
    let r = c.sort-item.result in
    let same : c.in-Ok.copy ≡ r = c.in-Ok.ensures.same in
    let member = subst (IsMember ts group) (ap tree (sym same)) (m (tree r) (sort_at some i r c.loop-sort-test.true c.sort-item.is)) in
    let one = add_gains ts group store c.loop-sort.list.items c.in-Ok.copy before.still member c.add.result c.add.new.list.items (interned_copy store some i r c.in-Ok.copy k c.loop-sort-test.true c.sort-item.is same)
    (subst (λ z. node_count (tree z) ≤ 1000) (sym same) c.copy_of.ensures.small) c.add.ensures.ok c.add.ensures.wide c.add.ensures.settled in
    gained_more ts group (Contains (map tree (take i some))) (λ s. s ≡ tree c.in-Ok.copy) (Contains (map tree (take (i + 1) some))) store store c.args.list.now.items c.loop-sort.list.items c.add.new.list.items before
    (gained_ok ts group _ c.add.result store _ _ c.in-Ok-add.field-0 c.in-Ok-add.is one)
    (λ s p. elim (sort_more some i r c.loop-sort-test.true c.sort-item.is s p) [ inl a ↦ inl a | inr b ↦ inr (b ∙ ap tree (sym same)) ]))

pub returns-in-Err-add : goal.returns-in-Err-add
returns-in-Err-add c = record {
  gains = λ ts group store h k m.
      (let before = c.loop-sort.invariant ts group store h k m in
      let some = c.args.some.now in
      let i = c.loop-sort.sort-index in
      let r = c.sort-item.result in
      let same : c.in-Ok.copy ≡ r = c.in-Ok.ensures.same in
      let member = subst (IsMember ts group) (ap tree (sym same)) (m (tree r) (sort_at some i r c.loop-sort-test.true c.sort-item.is)) in
      let one = add_gains ts group store c.loop-sort.list.items c.in-Ok.copy before.still member c.add.result c.add.new.list.items (interned_copy store some i r c.in-Ok.copy k c.loop-sort-test.true c.sort-item.is same)
      (subst (λ z. node_count (tree z) ≤ 1000) (sym same) c.copy_of.ensures.small) c.add.ensures.ok c.add.ensures.wide c.add.ensures.settled in
      gains_fail ts group (λ s. s ≡ tree c.in-Ok.copy) _ c.in-Err-add.error store _ c.loop-sort.list.items c.add.new.list.items _ _ (gains_failed ts group _ c.add.result store _ _ c.in-Err-add.error c.in-Err-add.is one));
}

pub returns : goal.returns
returns c = record {
  gains = λ ts group store h k m.
      (let g = c.loop-sort.invariant ts group store h k m in
      record { still = g.still; more = g.more; has = λ s p. g.has s (all_sorts c.args.some.now c.loop-sort.sort-index c.loop-sort-test.false s p) });
}
