use Rattle.std.proofs.Common.{◌++◌, ◌∷◌, [], ap, ◌∙◌}
use Rattle.datatype_commands.proofs.LiveParts.{selector_effect, selector_ready}
use Rattle.datatype_commands.proofs.live.declare_selector.Goals as goal

pub declare_symbol-requires-clause-entry : goal.declare_symbol-requires-clause-entry
declare_symbol-requires-clause-entry c = let a = c.args in
    selector_ready a.world.now a.datatype.now a.own.now c.requires.own c.in_ok-params.params c.put.new.sorts c.in_ok-result.result c.in_ok-params.ensures.count a.field.now
    (c.in_ok-put.ensures.put ∙ ap (λ rs. rs ++ a.own.now ∷ []) c.new-args.ensures) c.in_ok-result.ensures.same c.requires.schema

pub returns-in-Ok-clause-effect : goal.returns-in-Ok-clause-effect
returns-in-Ok-clause-effect c = let a = c.args in
    selector_effect a.world.now a.datatype.now a.own.now c.requires.own c.in_ok-params.params c.put.new.sorts c.in_ok-result.result c.in_ok-params.ensures.count a.field.now
    (c.in_ok-put.ensures.put ∙ ap (λ rs. rs ++ a.own.now ∷ []) c.new-args.ensures) c.in_ok-result.ensures.same _ c.in-Ok.ensures.effect
