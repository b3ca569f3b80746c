use Rattle.std.proofs.Common.{◌∙◌, sym}
use Rattle.script_core.specs.Checking.{environment_of}
use Rattle.script_core.proofs.TakingParts.{option_alone, option_other, option_set}
use Rattle.script_core.proofs.effects.set_global.Goals as goal

pub returns-then-number-eq-GLOBAL_DECLARATIONS-clause-effect : goal.returns-then-number-eq-GLOBAL_DECLARATIONS-clause-effect
returns-then-number-eq-GLOBAL_DECLARATIONS-clause-effect c = let scope = c.args.scope.now in
    option_set scope.world.names scope c.set_global.new.self c.is_true.result c.args.attribute.now c.in-Valued.keyword c.in-Valued.value c.set_global.ensures c.is_true.ensures
    (sym c.kind.ensures ∙ c.in-Valued.is) (sym c.number.ensures ∙ c.if-number-eq-GLOBAL_DECLARATIONS.true)

pub returns-else-number-eq-GLOBAL_DECLARATIONS-clause-effect : goal.returns-else-number-eq-GLOBAL_DECLARATIONS-clause-effect
returns-else-number-eq-GLOBAL_DECLARATIONS-clause-effect c =
    option_other (environment_of c.args.scope.now.world.names c.args.scope.now) c.args.attribute.now c.in-Valued.keyword c.in-Valued.value (sym c.kind.ensures ∙ c.in-Valued.is)
    (λ e. c.if-number-eq-GLOBAL_DECLARATIONS.false (c.number.ensures ∙ e))

pub returns-in_default-clause-effect : goal.returns-in_default-clause-effect
returns-in_default-clause-effect c =
    option_alone (environment_of c.args.scope.now.world.names c.args.scope.now) c.args.attribute.now c.in_default.field-0 (sym c.kind.ensures ∙ c.in_default.is)
