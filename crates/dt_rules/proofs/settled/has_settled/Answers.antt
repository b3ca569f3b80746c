use Rattle.std.proofs.Common.{map, refl, sym, subst, ◌∙◌, ap}
use Rattle.std.proofs.lemmas.Bool.{false≢true}
use Rattle.std.specs.List.{Contains}
use Rattle.sort_store.specs.Tree.{tree}
use Rattle.sort_store.proofs.GrownStores.{grows_more, all_interned_grown}
use Rattle.term_store.specs.Command.{plain_constructor, plain_field}
use Rattle.dt_rules.specs.Settling.{HasNoFieldSort}
use Rattle.dt_rules.proofs.Gaining.{mapped}
use Rattle.dt_rules.proofs.Settling.{without_more, without_all}
use Rattle.dt_rules.proofs.settled.has_settled.Goals as goal

pub are_apart-requires-clause-params : goal.are_apart-requires-clause-params
are_apart-requires-clause-params c = λ f has.
    c.requires.params (plain_constructor c.constructor-item.result) f (mapped plain_constructor c.args.constructors.now c.loop-constructor.constructor-index c.constructor-item.result c.loop-constructor-test.true c.constructor-item.is)
    (subst (λ z. Contains z f) (ap (map plain_field) c.as_slice.ensures) has)

pub returns-in-Ok-true-clause-some : goal.returns-in-Ok-true-clause-some
returns-in-Ok-true-clause-some c =
    let args = map tree c.args.args.now in
    let unsettled = map tree c.args.unsettled.now in
    let d = c.constructor-item.result in
    let apart = subst (λ z. HasNoFieldSort z args unsettled) (ap (map plain_field) c.as_slice.ensures) (c.in-Ok-true.ensures.none.0 c.in-Ok-true.field-0-test) in
    ((λ _. (plain_constructor d, mapped plain_constructor c.args.constructors.now c.loop-constructor.constructor-index d c.loop-constructor-test.true c.constructor-item.is, apart)), λ _. refl)

pub loop-constructor-preserved : goal.loop-constructor-preserved
loop-constructor-preserved c =
    let args = map tree c.args.args.now in
    let unsettled = map tree c.args.unsettled.now in record {
      grows = grows_more _ _ _ c.loop-constructor.invariant.grows c.are_apart.ensures.grows;
      distinct = λ h. c.are_apart.ensures.distinct (c.loop-constructor.invariant.distinct h);
      interned = all_interned_grown _ _ _ c.are_apart.ensures.grows c.loop-constructor.invariant.interned;
      none = without_more c.args.constructors.now args unsettled c.loop-constructor.constructor-index c.constructor-item.result c.loop-constructor-test.true c.constructor-item.is
          (λ apart. absurd (false≢true (sym c.in-Ok-false.field-0-test ∙ c.in-Ok-false.ensures.none.1 (subst (λ z. HasNoFieldSort z args unsettled) (sym (ap (map plain_field) c.as_slice.ensures)) apart)))) c.loop-constructor.invariant.none;
    }

pub returns-clause-some : goal.returns-clause-some
returns-clause-some c = without_all c.args.constructors.now (map tree c.args.args.now) (map tree c.args.unsettled.now) c.loop-constructor.constructor-index c.loop-constructor-test.false c.loop-constructor.invariant.none
