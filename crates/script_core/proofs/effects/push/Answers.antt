use Rattle.script_core.proofs.TakingParts.{declared_env, levels_pushed, push_answer}
use Rattle.script_core.proofs.ReadyScopes.{pushed_stands, with_scopes}
use Rattle.script_core.proofs.effects.push.Goals as goal

pub returns-in-Ok-clause-answer : goal.returns-in-Ok-clause-answer
returns-in-Ok-clause-answer c = let scope = c.args.scope.now in
    push_answer scope (record (with_scopes c.push.new.self scope) { next = scope.next }) c.args.at c.in-Some.levels c.args.count.now c.in-Some.ensures.value
    (declared_env scope.world.names scope c.push.new.self scope.next _ (levels_pushed c.in-Some.levels scope.world.scopes c.push.new.self c.in-Ok.ensures.ok))

pub returns-in-Ok-clause-stands : goal.returns-in-Ok-clause-stands
returns-in-Ok-clause-stands c = let scope = c.args.scope.now in
    pushed_stands scope c.push.new.self scope.next c.requires.stands c.requires.logic c.in-Some.levels c.in-Ok.ensures.ok
