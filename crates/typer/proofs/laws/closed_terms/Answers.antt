use Rattle.typer.proofs.ClosedTerms.{closed_sound}
use Rattle.typer.proofs.laws.closed_terms.Goals as goal

pub returns : goal.returns
returns c script t inner outer = closed_sound script t inner outer
