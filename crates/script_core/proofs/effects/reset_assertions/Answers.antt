use Rattle.script_core.proofs.ReadyScopes.{forgotten_stands}
use Rattle.script_core.proofs.effects.reset_assertions.Goals as goal

pub returns-clause-stands : goal.returns-clause-stands
returns-clause-stands c = let scope = c.args.scope.now in forgotten_stands scope c.reset_assertions.new.self scope.next c.requires.stands c.requires.logic c.reset_assertions.ensures
