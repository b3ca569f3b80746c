use Rattle.std.proofs.Common.{◌≡◌, ◌<◌, length, get_or, ap, sym, subst, arith, map}
use Rattle.std.proofs.lemmas.List.{length-append}
use Rattle.sort_store.specs.Interned.{IsInterned}
use Rattle.sort_store.proofs.GrownStores.{grows_more}
use Rattle.sort_store.proofs.InstanceLaws.{all_interned_at}
use Rattle.term_store.specs.Command.{plain_datatype}
use Rattle.dt_rules.specs.Groups.{known}
use Rattle.dt_rules.proofs.AddedParts.{closed_none, closed_step, has_members, members_none, unfolds_fail}
use Rattle.dt_rules.proofs.Gaining.{still_has}
use Rattle.dt_rules.proofs.group.unfold.Goals as goal

pub returns-in-Err-clause-unfolds : goal.returns-in-Err-clause-unfolds
returns-in-Err-clause-unfolds c =
    let group = map plain_datatype c.args.group.now in
    let ts = known (map plain_datatype c.args.defs.now.datatypes) group in
    unfolds_fail ts group _ c.in-Err.error _ _ _ _ (c.in-Err.ensures.gains ts (members_none ts group c.args.sorts.now c.new-list.result.items c.new-list.ensures.items))

pub loop-next-init : goal.loop-next-init
loop-next-init c =
    let group = map plain_datatype c.args.group.now in
    let ts = known (map plain_datatype c.args.defs.now.datatypes) group in
    let g = c.in-Ok.ensures.gains ts (members_none ts group c.args.sorts.now c.new-list.result.items c.new-list.ensures.items) in record {
      grows = c.add_own_sorts.ensures.grows;
      distinct = c.add_own_sorts.ensures.distinct;
      still = g.still;
      own_in = g.has;
      closed = closed_none ts group c.add_own_sorts.new.list.items;
      within = omega arith;
    }

pub add_parts-requires-clause-interned : goal.add_parts-requires-clause-interned
add_parts-requires-clause-interned c =
    let list = c.loop-next.list.items in
    let copy = c.in-Ok-copy_of.sort in
    let at : copy ≡ get_or list c.loop-next.next copy = subst (λ z. z ≡ get_or list c.loop-next.next z) (sym c.in-Ok-copy_of.ensures.same) c.index.ensures in
    subst (IsInterned c.loop-next.sorts) (sym at) (all_interned_at c.loop-next.sorts list c.loop-next.next copy (omega (arith, c.len.ensures, c.loop-next-test.true)) c.loop-next.invariant.still.interned)

pub loop-next-preserved : goal.loop-next-preserved
loop-next-preserved c =
    let group = map plain_datatype c.args.group.now in
    let ts = known (map plain_datatype c.args.defs.now.datatypes) group in
    let old = c.loop-next.list.items in
    let new = c.add_parts.new.list.items in
    let copy = c.in-Ok-copy_of.sort in
    let inside : c.loop-next.next < length old = omega (arith, c.len.ensures, c.loop-next-test.true) in
    let at : copy ≡ get_or old c.loop-next.next copy = subst (λ z. z ≡ get_or old c.loop-next.next z) (sym c.in-Ok-copy_of.ensures.same) c.index.ensures in
    let g = c.in-Ok-add_parts.ensures.gains c.loop-next.invariant.still in record {
      grows = grows_more _ _ _ c.loop-next.invariant.grows c.add_parts.ensures.grows;
      distinct = λ h. c.add_parts.ensures.distinct (c.loop-next.invariant.distinct h);
      still = g.still;
      own_in = λ s o. still_has ts group old new s g.more (c.loop-next.invariant.own_in s o);
      closed = closed_step ts group old new c.loop-next.next copy g.more inside at c.loop-next.invariant.closed g.has;
      within = omega (arith, ap length g.more.1, length-append old g.more.0, inside);
    }

pub returns-clause-unfolds : goal.returns-clause-unfolds
returns-clause-unfolds c =
    let group = map plain_datatype c.args.group.now in
    let ts = known (map plain_datatype c.args.defs.now.datatypes) group in
    record { listed = c.loop-next.invariant.still; whole = has_members ts group c.loop-next.list.items c.loop-next.next (omega (arith, c.len.ensures, c.loop-next-test.false)) c.loop-next.invariant.own_in c.loop-next.invariant.closed }
