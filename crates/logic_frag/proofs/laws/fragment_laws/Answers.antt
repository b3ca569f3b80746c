use Rattle.logic_frag.proofs.DecidedRules.{some_first_rule}
use Rattle.logic_frag.proofs.FirstBroken.{none_in_logic, one_first}
use Rattle.logic_frag.proofs.laws.fragment_laws.Goals as goal

pub returns : goal.returns
returns c = record { none = none_in_logic; some = some_first_rule; once = one_first }
