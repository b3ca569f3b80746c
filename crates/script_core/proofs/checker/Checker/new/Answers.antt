use Rattle.std.proofs.Common.{length, ap, refl, arith}
use Rattle.script_core.proofs.FollowingTokens.{starts}
use Rattle.script_core.proofs.ReadyScopes.{none_in}
use Rattle.script_core.proofs.SoundCheckers.{empty_sound}
use Rattle.script_core.proofs.checker.Checker.new.Goals as goal

pub returns-clause-taken : goal.returns-clause-taken
returns-clause-taken c = let world = c.in_ok-world.ensures in
    starts _ c.new-3.ensures refl world.theories world.scopes refl world.script c.new-2.ensures.initial world.names c.known_table.ensures
    (record { ready = world.ready; undeclared = λ _. none_in _ world.scopes }) (omega (arith, ap length world.names))

pub returns-clause-sound : goal.returns-clause-sound
returns-clause-sound c = empty_sound _ c.in_ok-world.ensures.script
