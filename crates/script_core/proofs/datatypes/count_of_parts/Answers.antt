use Rattle.std.proofs.Common.{◌∙◌, ◌+◌, ap, arith, length, refl, sym}
use Rattle.script_core.proofs.GroupCounts.{parts_count, parts_counted, parts_next, take_all}
use Rattle.script_core.proofs.datatypes.count_of_parts.Goals as goal

pub loop-constructor-preserved : goal.loop-constructor-preserved
loop-constructor-preserved c =
    parts_next c.args.constructors.now c.loop-constructor.constructor-index (c.loop-constructor.constructor-index + 1) c.constructor-item.result c.loop-constructor.count c.in_ok-named.named c.in-Ok.fields c.in_ok-count.count refl
    c.loop-constructor-test.true c.constructor-item.is (omega (arith, c.in-Ok.ensures.1, ap length c.as_slice.ensures)) c.loop-constructor.invariant (omega (arith, c.in_ok-named.ensures)) (omega (arith, c.in_ok-count.ensures))

pub returns : goal.returns
returns c = λ owner. c.loop-constructor.invariant ∙ (ap parts_count (take_all c.args.constructors.now c.loop-constructor.constructor-index (omega (arith, c.loop-constructor-test.false, c.loop-constructor.auto.constructor-index-end))) ∙ sym (parts_counted owner c.args.constructors.now))
