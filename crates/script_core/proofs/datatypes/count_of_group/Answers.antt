use Rattle.std.proofs.Common.{◌∙◌, ◌+◌, ap, arith, length, refl, sym}
use Rattle.term_store.specs.Command.{plain_datatype}
use Rattle.script_core.proofs.GroupCounts.{group_count, group_counted, group_next, parts_count, parts_counted, take_all}
use Rattle.script_core.proofs.datatypes.count_of_group.Goals as goal

pub loop-datatype-preserved : goal.loop-datatype-preserved
loop-datatype-preserved c =
    let t = c.datatype-item.result in
    group_next c.args.group.now c.loop-datatype.datatype-index (c.loop-datatype.datatype-index + 1) t (length c.args.group.now) c.loop-datatype.count c.in_ok-parts.parts c.in_ok-count.count refl
    c.loop-datatype-test.true c.datatype-item.is (c.in_ok-parts.ensures (plain_datatype t) ∙ (parts_counted (plain_datatype t) c.as_slice.result.now ∙ ap parts_count c.as_slice.ensures)) c.loop-datatype.invariant (omega (arith, c.in_ok-count.ensures))

pub returns : goal.returns
returns c =
    let l = c.loop-datatype in
    l.invariant ∙ (ap (λ ts. length c.args.group.now + group_count ts) (take_all c.args.group.now l.datatype-index (omega (arith, c.loop-datatype-test.false, l.auto.datatype-index-end))) ∙ sym (group_counted c.args.group.now))
