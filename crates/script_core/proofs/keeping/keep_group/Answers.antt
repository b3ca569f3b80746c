use Rattle.script_core.proofs.KeptGroups.{next_datatype_unused}
use Rattle.script_core.proofs.keeping.keep_group.Goals as goal

pub keep_datatype-requires : goal.keep_datatype-requires
keep_datatype-requires c = next_datatype_unused c.args.script.now c.loop-datatype.script c.args.group.now c.loop-datatype.datatype-index c.datatype-item.result c.in_ok-copy.copy c.requires c.loop-datatype.invariant c.loop-datatype-test.true c.datatype-item.is c.in_ok-copy.ensures.ok
