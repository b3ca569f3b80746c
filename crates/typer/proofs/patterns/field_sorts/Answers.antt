use Rattle.std.proofs.Common.{◌+◌, ◌∙◌, Err, ap, arith, map}
use Rattle.sort_store.specs.Tree.{tree}
use Rattle.sort_store.proofs.GrownStores.{all_interned_grown, grows_more, grows_none}
use Rattle.typer.proofs.MatchSteps.{all_fields, field_too_large, none_interned, none_small, one_more_interned, one_more_small, one_more_sort}
use Rattle.typer.proofs.patterns.field_sorts.Goals as goal

pub loop-field-init : goal.loop-field-init
loop-field-init c = record {
  made = ap (map tree) c.new-list.ensures.items;
  small = none_small c.new-list.result.items c.new-list.ensures.items;
  interned = none_interned c.args.sorts.now c.new-list.result.items c.new-list.ensures.items;
  grows = grows_none c.args.sorts.now;
  distinct = c.requires.distinct;
}

pub inst-requires-clause-interned : goal.inst-requires-clause-interned
inst-requires-clause-interned c = all_interned_grown c.args.sorts.now c.loop-field.sorts c.args.values.now c.loop-field.invariant.grows c.requires.values

pub returns-in-Err-TooLarge-clause-answer : goal.returns-in-Err-TooLarge-clause-answer
returns-in-Err-TooLarge-clause-answer c =
    rw c.fault.ensures (field_too_large (map tree c.args.values.now) c.args.fields.now c.args.at c.loop-field.field-index c.field-item.result c.loop-field-test.true c.field-item.is (c.inst.ensures.too_large.0 (c.in-Err-TooLarge.is ∙ ap (λ e. Err e) c.in-Err-TooLarge.field-0-is)))

pub loop-field-preserved : goal.loop-field-preserved
loop-field-preserved c = record {
  made = one_more_sort (map tree c.args.values.now) c.args.fields.now c.args.at c.loop-field.field-index (c.loop-field.field-index + 1) c.field-item.result c.loop-field.list.items c.push.new.self.items c.in-Ok.sort (omega arith)
      c.loop-field-test.true c.field-item.is c.in-Ok.ensures.tree c.in-Ok-push.ensures.items c.loop-field.invariant.made;
  small = one_more_small c.loop-field.list.items c.push.new.self.items c.in-Ok.sort c.in-Ok-push.ensures.items c.has_few_nodes.ensures c.loop-field.invariant.small;
  interned = one_more_interned c.loop-field.sorts c.inst.new.self c.loop-field.list.items c.push.new.self.items c.in-Ok.sort c.in-Ok.ensures.grows c.in-Ok-push.ensures.items c.in-Ok.ensures.interned c.loop-field.invariant.interned;
  grows = grows_more c.args.sorts.now c.loop-field.sorts c.inst.new.self c.loop-field.invariant.grows c.in-Ok.ensures.grows;
  distinct = c.in-Ok.ensures.distinct;
}

pub returns-clause-answer : goal.returns-clause-answer
returns-clause-answer c = all_fields (map tree c.args.values.now) c.args.fields.now c.args.at c.loop-field.field-index c.loop-field.list.items (omega (arith, c.loop-field-test.false)) c.loop-field.invariant.made c.loop-field.invariant.small
