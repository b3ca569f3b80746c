use Rattle.typer.specs.Ready.{IsReady}
use Rattle.typer.proofs.tests.compare.Given as goal

abbrev pub invariant-loop-param : goal.invariant-loop-param
invariant-loop-param g l = IsReady l.state
