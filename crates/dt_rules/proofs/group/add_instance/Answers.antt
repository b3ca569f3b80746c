use Rattle.std.proofs.Common.{◌≤◌, subst, sym, ◌∙◌}
use Rattle.sort_store.specs.Tree.{node_count}
use Rattle.dt_rules.specs.Unfolding.{IsMember}
use Rattle.dt_rules.proofs.Gaining.{add_gains, gains_same, members_grown, not_large}
use Rattle.dt_rules.proofs.group.add_instance.Goals as goal

pub returns-in-Ok-clause-gains : goal.returns-in-Ok-clause-gains
returns-in-Ok-clause-gains c = λ ts group h m.
    (let same = c.in-Ok.ensures.tree in
    gains_same ts group _ _ c.add.result c.inst.new.self c.args.list.now.items c.add.new.list.items (λ s e. e ∙ sym same)
    (add_gains ts group c.inst.new.self c.args.list.now.items c.in-Ok.sort (members_grown ts group _ _ _ c.in-Ok.ensures.grows h) (subst (IsMember ts group) (sym same) m) c.add.result c.add.new.list.items c.in-Ok.ensures.interned
    (subst (λ z. node_count z ≤ 1000) (sym same) (not_large c.in-Ok.sort _ c.in-Ok.ensures.too_large)) c.add.ensures.ok c.add.ensures.wide c.add.ensures.settled))
