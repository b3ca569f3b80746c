use Rattle.typer.specs.Ready.{IsReady}
use Rattle.typer.proofs.tests.compare_terms.Given as goal

abbrev pub invariant-loop-text : goal.invariant-loop-text
invariant-loop-text g l = IsReady l.state
