use Rattle.std.proofs.Common.{refl}
use Rattle.typer.proofs.ReadyCalls.{fun_of_schemas}
use Rattle.script_core.proofs.TakingParts.{added_env, fun_added}
use Rattle.script_core.proofs.ReadyScopes.{fun_stands}
use Rattle.script_core.proofs.effects.add_function.Goals as goal

pub returns-in-Ok-clause-effect : goal.returns-in-Ok-clause-effect
returns-in-Ok-clause-effect c = let scope = c.args.scope.now in
    added_env scope.world.names scope c.declare_fun.new.self c.in-Some.next _ (fun_added c.args.name _ scope.world.scopes c.declare_fun.new.self c.in-Ok.ensures.ok) c.in-Some.ensures.1

pub returns-in-Ok-clause-stands : goal.returns-in-Ok-clause-stands
returns-in-Ok-clause-stands c =
    fun_stands c.args.scope.now c.declare_fun.new.self c.in-Some.next c.requires.stands c.requires.logic c.args.name _ c.in-Ok.ensures.ok
    (fun_of_schemas c.args.scope.now.world.names c.args.scope.now.world.sorts _ c.requires.args c.requires.sort (λ _. refl))
