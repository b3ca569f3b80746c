use Rattle.script_core.specs.Checking.{environment_of}
use Rattle.script_core.proofs.TakingDefinitions.{header_live}
use Rattle.script_core.proofs.definitions.add_header.Goals as goal

pub returns-in-Ok-clause-effect : goal.returns-in-Ok-clause-effect
returns-in-Ok-clause-effect c = let names = c.args.scope.now.world.names in
    header_live (environment_of names c.args.scope.now) (environment_of names c.add_function.new.scope) c.args.header.now c.as_slice.result.now c.in_ok-args.args c.in_ok-result.result
    c.as_slice.ensures c.in_ok-args.ensures.ok c.in_ok-result.ensures.ok c.in-Ok.ensures.effect
