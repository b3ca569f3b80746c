use Rattle.std.proofs.Common.{arith}
use Rattle.std.proofs.lemmas.Bool.{false≢true}
use Rattle.dt_rules.proofs.Lists.{none_listed}
use Rattle.dt_rules.proofs.group.is_listed.Goals as goal

pub returns : goal.returns
returns c = ((λ h. absurd (false≢true h)), λ h. absurd (none_listed c.args.list.now c.args.sort.now c.loop-other.other-index (omega arith) c.loop-other.invariant h))
