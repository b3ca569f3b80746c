use Rattle.datatype_commands.proofs.LiveParts.{fun_added, fun_ready}
use Rattle.datatype_commands.proofs.live.declare_symbol.Goals as goal

pub returns-in-Ok-clause-effect : goal.returns-in-Ok-clause-effect
returns-in-Ok-clause-effect c = fun_added c.args.name c.args.entry c.args.world.now.scopes c.declare_fun.new.self c.in-Ok.ensures.ok

pub returns-in-Ok-clause-ready : goal.returns-in-Ok-clause-ready
returns-in-Ok-clause-ready c = fun_ready c.args.world.now c.args.name c.args.entry c.declare_fun.new.self c.requires.ready c.in-Ok.ensures.ok c.requires.entry
