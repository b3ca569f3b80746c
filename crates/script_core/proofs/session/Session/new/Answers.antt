use Rattle.std.proofs.Common.{refl}
use Rattle.script_core.proofs.session.Session.new.Goals as goal

pub returns-clause-given : goal.returns-clause-given
returns-clause-given c = record { stands = c.in_ok-new.ensures.taken; counted = λ e. refl; unstopped = refl; unfinished = refl }
