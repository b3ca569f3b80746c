use Rattle.std.proofs.Common.{map, refl, take, ◌+◌}
use Rattle.sort_store.specs.Tree.{tree}
use Rattle.sort_store.proofs.GrownStores.{grows_more, all_interned_grown}
use Rattle.term_store.specs.Command.{plain_field}
use Rattle.dt_rules.specs.Groups.{IsFieldSort}
use Rattle.dt_rules.proofs.Gaining.{gained_more, gains_fail, field_more, mapped, all_fields}
use Rattle.dt_rules.proofs.group.add_field_sorts.Goals as goal

pub add_instance-requires-clause-params : goal.add_instance-requires-clause-params
add_instance-requires-clause-params c = c.requires.params (plain_field c.field-item.result) (mapped plain_field c.args.fields.now c.loop-field.field-index c.field-item.result c.loop-field-test.true c.field-item.is)

pub loop-field-preserved : goal.loop-field-preserved
loop-field-preserved c =
    let fs = c.args.fields.now in
    let args = map tree c.args.args.now in
    let k = c.loop-field.field-index in
    let f = c.field-item.result in record {
      grows = grows_more _ _ _ c.loop-field.invariant.grows c.add_instance.ensures.grows;
      distinct = λ _. c.add_instance.ensures.distinct;
      interned = all_interned_grown _ _ _ c.add_instance.ensures.grows c.loop-field.invariant.interned;
      gained = λ ts group h m.
          (let before = c.loop-field.invariant.gained ts group h m in
          gained_more ts group (IsFieldSort (map plain_field (take k fs)) args) _ (IsFieldSort (map plain_field (take (k + 1) fs)) args) c.loop-field.sorts c.add_instance.new.sorts c.args.list.now.items c.loop-field.list.items c.add_instance.new.list.items before
          (c.in-Ok.ensures.gains ts group before.still (m _ (plain_field f, mapped plain_field fs k f c.loop-field-test.true c.field-item.is, refl))) (field_more fs args k f c.loop-field-test.true c.field-item.is));
    }

pub returns-in-Err-clause-gains : goal.returns-in-Err-clause-gains
returns-in-Err-clause-gains c = λ ts group h m.
    (let before = c.loop-field.invariant.gained ts group h m in
    gains_fail ts group _ _ c.in-Err.error _ _ _ _ _ _
    (c.in-Err.ensures.gains ts group before.still (m _ (plain_field c.field-item.result, mapped plain_field c.args.fields.now c.loop-field.field-index c.field-item.result c.loop-field-test.true c.field-item.is, refl))))

pub returns-clause-gains : goal.returns-clause-gains
returns-clause-gains c = λ ts group h m.
    (let g = c.loop-field.invariant.gained ts group h m in
    record { still = g.still; more = g.more; has = λ s p. g.has s (all_fields c.args.fields.now (map tree c.args.args.now) c.loop-field.field-index c.loop-field-test.false s p) })
