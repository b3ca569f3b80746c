use Rattle.typer.proofs.ReadyKept.{grown}
use Rattle.datatype_commands.proofs.LiveParts.{parts_grown_there}
use Rattle.datatype_commands.proofs.live.declare_datatype.Goals as goal

pub returns-in_default-clause-ready : goal.returns-in_default-clause-ready
returns-in_default-clause-ready c = grown c.args.world.now c.own_sort.new.sorts c.own_sort.ensures.grows (c.own_sort.ensures.distinct c.requires.ready.distinct) c.requires.ready

pub declare_constructors-requires-clause-ready : goal.declare_constructors-requires-clause-ready
declare_constructors-requires-clause-ready c = grown c.args.world.now c.own_sort.new.sorts c.own_sort.ensures.grows (c.own_sort.ensures.distinct c.requires.ready.distinct) c.requires.ready

pub declare_constructors-requires-clause-schema : goal.declare_constructors-requires-clause-schema
declare_constructors-requires-clause-schema c = parts_grown_there c.args.world.now c.own_sort.new.sorts c.args.datatype.now c.own_sort.ensures.grows c.requires.schema
