use Rattle.script_core.proofs.KeptDefinitions.{next_unused}
use Rattle.script_core.proofs.keeping.keep_all.Goals as goal

pub keep-requires : goal.keep-requires
keep-requires c = next_unused c.args.script.now c.loop-def.script c.args.defs.now c.loop-def.def-index c.def-item.result c.in_ok-copy.copy c.requires c.loop-def.invariant c.loop-def-test.true c.def-item.is c.in_ok-copy.ensures.ok
