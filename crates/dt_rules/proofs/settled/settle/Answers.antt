use Rattle.std.proofs.Common.{map, sym, ◌∙◌, subst, inr}
use Rattle.std.specs.Prelude.{IfSome, IfNone}
use Rattle.std.specs.List.{Contains}
use Rattle.sort_store.specs.Interned.{AllInterned}
use Rattle.sort_store.specs.Tree.{tree}
use Rattle.sort_store.proofs.GrownStores.{grows_more, all_interned_grown}
use Rattle.term_store.specs.Command.{plain_datatype}
use Rattle.dt_rules.specs.Groups.{known}
use Rattle.dt_rules.specs.Settling.{NoneSettles, SettlesAt}
use Rattle.dt_rules.proofs.SettledMembers.{never_settled}
use Rattle.dt_rules.proofs.UnsettledLists.{items_without, interned_without, without_contains, settled_step}
use Rattle.dt_rules.proofs.settled.settle.Goals as goal

pub loop-next-init : goal.loop-next-init
loop-next-init c =
    let group = map plain_datatype c.args.group.now in
    let ts = known (map plain_datatype c.args.defs.now.datatypes) group in
    let u = c.requires.unfolding in record {
      grows = c.settling.ensures.grows;
      distinct = c.settling.ensures.distinct;
      interned = all_interned_grown _ _ _ c.settling.ensures.grows u.listed.interned;
      members = u.listed.members;
      rest = λ s m. inr (u.whole s m);
      found = subst (λ z. IfSome c.in-Ok.first (SettlesAt ts group z)) c.deref.ensures.value c.in-Ok.ensures.found;
      none = subst (λ z. IfNone c.in-Ok.first (NoneSettles ts group z)) c.deref.ensures.value c.in-Ok.ensures.none;
    }

pub settling-requires-in-Some-clause-interned : goal.settling-requires-in-Some-clause-interned
settling-requires-in-Some-clause-interned c =
    let old = c.loop-next.unsettled.items in
    let e = items_without c.remove-settled.new.self.items old c.in-Some.i c.remove-settled.ensures.by_index.2 in
    subst (AllInterned c.loop-next.sorts) (sym (c.deref-in-Some.ensures.value ∙ e)) (interned_without c.loop-next.sorts old c.in-Some.i c.loop-next.invariant.interned)

pub settling-requires-in-Some-clause-members : goal.settling-requires-in-Some-clause-members
settling-requires-in-Some-clause-members c = λ s h.
    (let old = c.loop-next.unsettled.items in
    let e = items_without c.remove-settled.new.self.items old c.in-Some.i c.remove-settled.ensures.by_index.2 in
    c.loop-next.invariant.members s (without_contains old c.in-Some.i s (subst (λ z. Contains (map tree z) s) (c.deref-in-Some.ensures.value ∙ e) h)))

pub loop-next-preserved : goal.loop-next-preserved
loop-next-preserved c =
    let group = map plain_datatype c.args.group.now in
    let ts = known (map plain_datatype c.args.defs.now.datatypes) group in
    let old = c.loop-next.unsettled.items in
    let new = c.remove-settled.new.self.items in
    let i = c.in-Some.i in
    let e = items_without new old i c.remove-settled.ensures.by_index.2 in
    let grown = c.settling-in-Some.ensures.grows in
    let at = subst (λ o. IfSome o (SettlesAt ts group old)) c.in-Some.is c.loop-next.invariant.found in record {
      grows = grows_more _ _ _ c.loop-next.invariant.grows grown;
      distinct = λ h. c.settling-in-Some.ensures.distinct (c.loop-next.invariant.distinct h);
      interned = all_interned_grown _ _ _ grown (subst (AllInterned c.loop-next.sorts) (sym e) (interned_without c.loop-next.sorts old i c.loop-next.invariant.interned));
      members = λ s h. c.loop-next.invariant.members s (without_contains old i s (subst (λ z. Contains (map tree z) s) e h));
      rest = settled_step ts group old new i e at c.loop-next.invariant.members c.loop-next.invariant.rest;
      found = subst (λ z. IfSome c.in-Ok-settling.further (SettlesAt ts group z)) c.deref-in-Some.ensures.value c.in-Ok-settling.ensures.found;
      none = subst (λ z. IfNone c.in-Ok-settling.further (NoneSettles ts group z)) c.deref-in-Some.ensures.value c.in-Ok-settling.ensures.none;
    }

pub returns-clause-unsettled : goal.returns-clause-unsettled
returns-clause-unsettled c =
    let group = map plain_datatype c.args.group.now in
    let ts = known (map plain_datatype c.args.defs.now.datatypes) group in
    let rs = c.loop-next.unsettled.items in
    let stuck = subst (λ o. IfNone o (NoneSettles ts group rs)) c.in_default.is c.loop-next.invariant.none in
    λ s m. (c.loop-next.invariant.rest s m, never_settled ts group rs stuck s)
