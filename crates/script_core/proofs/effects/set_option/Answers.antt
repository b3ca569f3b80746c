use Rattle.std.proofs.Common.{ap}
use Rattle.script_core.specs.Checking.{environment_of}
use Rattle.script_core.proofs.TakingParts.{option_answer}
use Rattle.script_core.proofs.effects.set_option.Goals as goal

pub returns-clause-answer : goal.returns-clause-answer
returns-clause-answer c = let names = c.args.scope.now.world.names in
    option_answer (environment_of names c.args.scope.now) (environment_of names c.set_global.new.scope) c.args.at c.args.attribute.now _ c.in_ok-value.value
    (ap (λ t. t.name) c.attribute_key-key.ensures) c.in_ok-value.ensures.ok c.set_global.ensures.effect
