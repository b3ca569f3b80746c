use Rattle.std.proofs.Common.{rules}
use Rattle.logic_frag.proofs.FirstBroken.{passed_on}
use Rattle.logic_frag.proofs.fragment.+first_of.Goals as goal

pub returns-in-Ok-false : goal.returns-in-Ok-false
returns-in-Ok-false t c = passed_on _ _ _ _ _ c.in-len1-up.len_at_least c.in-Ok-false.ensures c.in-Ok-false.field-0-test (search rules)
