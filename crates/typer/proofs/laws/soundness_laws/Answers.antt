use Rattle.typer.proofs.SoundSorts.{sound_sort}
use Rattle.typer.proofs.SoundTerms.{sound_term}
use Rattle.typer.proofs.AppliedNumbers.{applies_below}
use Rattle.typer.proofs.laws.soundness_laws.Goals as goal

pub returns-clause-sorts : goal.returns-clause-sorts
returns-clause-sorts c = sound_sort

pub returns-clause-terms : goal.returns-clause-terms
returns-clause-terms c script signature vars sound given raw = sound_term script signature sound raw vars given

pub returns-clause-lower : goal.returns-clause-lower
returns-clause-lower c n signature below vars raw = applies_below n signature below raw vars
