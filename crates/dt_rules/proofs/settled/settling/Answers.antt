use Rattle.std.proofs.Common.{◌<◌, length, map, get_or, ap, sym, ◌∙◌, subst, inl, inr, arith}
use Rattle.std.proofs.lemmas.Bool.{false≢true}
use Rattle.sort_store.specs.Interned.{IsInterned}
use Rattle.sort_store.specs.Tree.{tree}
use Rattle.sort_store.proofs.GrownStores.{grows_more, all_interned_grown}
use Rattle.sort_store.proofs.InstanceLaws.{all_interned_at}
use Rattle.term_store.specs.Command.{plain_datatype}
use Rattle.dt_rules.specs.Groups.{known}
use Rattle.dt_rules.specs.Settling.{Settles}
use Rattle.dt_rules.proofs.AddedParts.{get_any, split_last}
use Rattle.dt_rules.proofs.settled.settling.Goals as goal

pub settles-requires-clause-interned : goal.settles-requires-clause-interned
settles-requires-clause-interned c = subst (IsInterned c.loop-i.sorts) (sym c.index-unsettled-i.is) (all_interned_at c.loop-i.sorts c.args.unsettled.now c.loop-i.i c.index-unsettled-i.result (omega arith) c.loop-i.invariant.interned)

pub loop-i-preserved : goal.loop-i-preserved
loop-i-preserved c =
    let group = map plain_datatype c.args.group.now in
    let rs = c.args.unsettled.now in
    let i = c.loop-i.i in
    let inside : i < length rs = omega arith in record {
      grows = grows_more _ _ _ c.loop-i.invariant.grows c.settles.ensures.grows;
      distinct = λ h. c.settles.ensures.distinct (c.loop-i.invariant.distinct h);
      interned = all_interned_grown _ _ _ c.settles.ensures.grows c.loop-i.invariant.interned;
      none = λ k d below within s. elim (split_last k i below) [
        | inl b ↦ c.loop-i.invariant.none k d b within s
        | inr e ↦ false≢true (sym c.in-Ok-false.field-0-test ∙ c.in-Ok-false.ensures.settles.1
            (subst (λ z. Settles (known (map plain_datatype c.args.defs.now.datatypes) group) group z (map tree rs)) (ap (λ z. get_or rs z d) e ∙ (get_any rs i d c.index-unsettled-i.result inside ∙ sym c.index-unsettled-i.is)) s))
      ];
    }
