use Rattle.std.proofs.Common.{subst, sym, ◌∙◌}
use Rattle.dt_rules.specs.Unfolding.{IsMember}
use Rattle.dt_rules.proofs.Gaining.{add_gains, gains_same, members_grown}
use Rattle.dt_rules.proofs.group.add_own_sort.Goals as goal

pub returns-in-Ok-clause-gains : goal.returns-in-Ok-clause-gains
returns-in-Ok-clause-gains c = λ ts group h m.
    (let same = c.in-Ok.ensures.tree in
    gains_same ts group _ _ c.add.result c.own_sort.new.sorts c.args.list.now.items c.add.new.list.items (λ s e. e ∙ sym same)
    (add_gains ts group c.own_sort.new.sorts c.args.list.now.items c.in-Ok.sort (members_grown ts group _ _ _ c.in-Ok.ensures.grows h) (subst (IsMember ts group) (sym same) m) c.add.result c.add.new.list.items c.in-Ok.ensures.interned
    c.in-Ok.ensures.small c.add.ensures.ok c.add.ensures.wide c.add.ensures.settled))
