use Rattle.std.proofs.Common.{map, sym, ◌∙◌}
use Rattle.std.proofs.lemmas.Bool.{false≢true}
use Rattle.sort_store.specs.Tree.{tree}
use Rattle.sort_store.proofs.GrownStores.{grows_more, all_interned_grown}
use Rattle.term_store.specs.Command.{plain_field}
use Rattle.dt_rules.proofs.Gaining.{mapped}
use Rattle.dt_rules.proofs.Settling.{apart_more, apart_found, apart_all}
use Rattle.dt_rules.proofs.settled.are_apart.Goals as goal

pub inst-requires-clause-params : goal.inst-requires-clause-params
inst-requires-clause-params c = c.requires.params (plain_field c.field-item.result) (mapped plain_field c.args.fields.now c.loop-field.field-index c.field-item.result c.loop-field-test.true c.field-item.is)

pub returns-then-is_listed-clause-none : goal.returns-then-is_listed-clause-none
returns-then-is_listed-clause-none c =
    apart_found c.args.fields.now (map tree c.args.args.now) (map tree c.args.unsettled.now) c.loop-field.field-index c.field-item.result c.in-Ok.sort c.loop-field-test.true c.field-item.is c.in-Ok.ensures.tree
    (c.is_listed.ensures.0 c.if-is_listed.true)

pub loop-field-preserved : goal.loop-field-preserved
loop-field-preserved c = record {
  grows = grows_more _ _ _ c.loop-field.invariant.grows c.in-Ok.ensures.grows;
  distinct = λ _. c.inst.ensures.distinct;
  interned = all_interned_grown _ _ _ c.in-Ok.ensures.grows c.loop-field.invariant.interned;
  none = apart_more c.args.fields.now (map tree c.args.args.now) (map tree c.args.unsettled.now) c.loop-field.field-index c.field-item.result c.in-Ok.sort c.loop-field-test.true c.field-item.is c.in-Ok.ensures.tree
      (λ has. absurd (false≢true (sym c.if-is_listed.false ∙ c.is_listed.ensures.1 has))) c.loop-field.invariant.none;
}

pub returns-clause-none : goal.returns-clause-none
returns-clause-none c = apart_all c.args.fields.now (map tree c.args.args.now) (map tree c.args.unsettled.now) c.loop-field.field-index c.loop-field-test.false c.loop-field.invariant.none
