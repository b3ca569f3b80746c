use Rattle.script_core.proofs.TakingParts.{declared_env, sort_added}
use Rattle.script_core.proofs.ReadyScopes.{sort_stands}
use Rattle.script_core.proofs.effects.add_defined_sort.Goals as goal

pub returns-in-Ok-clause-effect : goal.returns-in-Ok-clause-effect
returns-in-Ok-clause-effect c = let scope = c.args.scope.now in
    declared_env scope.world.names scope c.declare_sort.new.self scope.next _ (sort_added c.args.name _ scope.world.scopes c.declare_sort.new.self c.in-Ok.ensures.ok)

pub returns-in-Ok-clause-stands : goal.returns-in-Ok-clause-stands
returns-in-Ok-clause-stands c = let scope = c.args.scope.now in
    sort_stands scope c.declare_sort.new.self scope.next c.requires.stands c.requires.logic c.args.name _ c.in-Ok.ensures.ok c.requires.named c.requires.free c.requires.sort
