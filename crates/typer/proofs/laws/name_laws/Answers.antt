use Rattle.typer.proofs.NamesGiven.{names_given}
use Rattle.typer.proofs.SoundNames.{named_sound}
use Rattle.typer.proofs.laws.name_laws.Goals as goal

pub returns-clause-given : goal.returns-clause-given
returns-clause-given c signature vars raw t before after h = names_given signature raw vars t before after h

pub returns-clause-sound : goal.returns-clause-sound
returns-clause-sound c script signature vars sound given raw t before after h = named_sound script signature sound raw vars given t before after h
