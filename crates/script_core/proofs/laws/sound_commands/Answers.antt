use Rattle.script_core.proofs.SoundRuns.{refuses_sound, sofar_sound}
use Rattle.script_core.proofs.laws.sound_commands.Goals as goal

pub returns : goal.returns
returns c = record { accepted = sofar_sound; refused = refuses_sound }
