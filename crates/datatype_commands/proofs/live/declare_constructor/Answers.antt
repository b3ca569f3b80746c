use Rattle.std.proofs.Common.{ap, map, ◌∙◌}
use Rattle.datatype_commands.proofs.LiveParts.{constructor_effect, constructor_ready}
use Rattle.datatype_commands.proofs.live.declare_constructor.Goals as goal

pub declare_symbol-requires-clause-entry : goal.declare_symbol-requires-clause-entry
declare_symbol-requires-clause-entry c = let a = c.args in
    constructor_ready a.world.now a.datatype.now a.own.now c.requires.own c.in_ok-params.params c.in_ok-args.args c.in_ok-result.result c.in_ok-params.ensures.count a.constructor.now
    (c.in_ok-args.ensures.sorts ∙ ap (map (λ f. f.sort)) c.as_slice.ensures) c.in_ok-result.ensures.same c.requires.schema

pub returns-in-Ok-clause-effect : goal.returns-in-Ok-clause-effect
returns-in-Ok-clause-effect c = let a = c.args in
    constructor_effect a.world.now a.datatype.now a.own.now c.requires.own c.in_ok-params.params c.in_ok-args.args c.in_ok-result.result c.in_ok-params.ensures.count a.constructor.now
    (c.in_ok-args.ensures.sorts ∙ ap (map (λ f. f.sort)) c.as_slice.ensures) c.in_ok-result.ensures.same _ c.in-Ok.ensures.effect
