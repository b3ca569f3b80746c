use Rattle.std.proofs.Common.{map, take, ◌+◌, subst, sym, inl, inr, ap}
use Rattle.std.specs.List.{Contains}
use Rattle.sort_store.specs.Tree.{tree}
use Rattle.sort_store.proofs.GrownStores.{grows_more, all_interned_grown}
use Rattle.term_store.specs.Command.{plain_constructor, plain_field}
use Rattle.dt_rules.specs.Groups.{IsFieldSort, IsConstructorFieldSort}
use Rattle.dt_rules.proofs.Gaining.{gained_more, gains_fail, constructor_more, mapped, all_constructors}
use Rattle.dt_rules.proofs.group.add_constructor_sorts.Goals as goal

pub add_field_sorts-requires-clause-params : goal.add_field_sorts-requires-clause-params
add_field_sorts-requires-clause-params c = λ f has.
    c.requires.params (plain_constructor c.constructor-item.result) f (mapped plain_constructor c.args.constructors.now c.loop-constructor.constructor-index c.constructor-item.result c.loop-constructor-test.true c.constructor-item.is)
    (subst (λ z. Contains z f) (ap (map plain_field) c.as_slice.ensures) has)

pub loop-constructor-preserved : goal.loop-constructor-preserved
loop-constructor-preserved c =
    let cs = c.args.constructors.now in
    let args = map tree c.args.args.now in
    let k = c.loop-constructor.constructor-index in
    let d = c.constructor-item.result in
    let fields = ap (map plain_field) c.as_slice.ensures in record {
      grows = grows_more _ _ _ c.loop-constructor.invariant.grows c.add_field_sorts.ensures.grows;
      distinct = λ h. c.add_field_sorts.ensures.distinct (c.loop-constructor.invariant.distinct h);
      interned = all_interned_grown _ _ _ c.add_field_sorts.ensures.grows c.loop-constructor.invariant.interned;
      gained = λ ts group h m.
          (let before = c.loop-constructor.invariant.gained ts group h m in
          gained_more ts group (IsConstructorFieldSort (map plain_constructor (take k cs)) args) (IsFieldSort (map plain_field c.as_slice.result.now) args) (IsConstructorFieldSort (map plain_constructor (take (k + 1) cs)) args) c.loop-constructor.sorts c.add_field_sorts.new.sorts c.args.list.now.items
          c.loop-constructor.list.items c.add_field_sorts.new.list.items before
          (c.in-Ok.ensures.gains ts group before.still (λ s f. m s (plain_constructor d, mapped plain_constructor cs k d c.loop-constructor-test.true c.constructor-item.is, subst (λ z. IsFieldSort z args s) fields f)))
          (λ s p. elim (constructor_more cs args k d c.loop-constructor-test.true c.constructor-item.is s p) [ inl a ↦ inl a | inr b ↦ inr (subst (λ z. IsFieldSort z args s) (sym fields) b) ]));
    }

pub returns-in-Err-clause-gains : goal.returns-in-Err-clause-gains
returns-in-Err-clause-gains c = λ ts group h m.
    (let before = c.loop-constructor.invariant.gained ts group h m in
    gains_fail ts group _ _ c.in-Err.error _ _ _ _ _ _
    (c.in-Err.ensures.gains ts group before.still (λ s f. m s (
      plain_constructor c.constructor-item.result,
      mapped plain_constructor c.args.constructors.now c.loop-constructor.constructor-index c.constructor-item.result c.loop-constructor-test.true c.constructor-item.is,
      subst (λ z. IsFieldSort z (map tree c.args.args.now) s) (ap (map plain_field) c.as_slice.ensures) f,
    ))))

pub returns-clause-gains : goal.returns-clause-gains
returns-clause-gains c = λ ts group h m.
    (let g = c.loop-constructor.invariant.gained ts group h m in
    record { still = g.still; more = g.more; has = λ s p. g.has s (all_constructors c.args.constructors.now (map tree c.args.args.now) c.loop-constructor.constructor-index c.loop-constructor-test.false s p) })
