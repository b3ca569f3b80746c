use Rattle.typer.specs.Ready.{IsReady}
use Rattle.typer.proofs.tests.world_of.Given as goal

abbrev pub invariant-loop-symbol : goal.invariant-loop-symbol
invariant-loop-symbol g l = IsReady l.state
