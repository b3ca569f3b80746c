use Rattle.datatype_commands.proofs.TakingSymbols.{sort_added, sort_ready}
use Rattle.datatype_commands.proofs.symbols.declare_symbol.Goals as goal

pub returns-in-Ok-clause-effect : goal.returns-in-Ok-clause-effect
returns-in-Ok-clause-effect c = sort_added c.args.symbol.now.name.name _ c.args.world.now.scopes c.declare_sort.new.self c.in-Ok.ensures.ok

pub returns-in-Ok-clause-ready : goal.returns-in-Ok-clause-ready
returns-in-Ok-clause-ready c = sort_ready c.args.world.now c.args.symbol.now.name.name _ c.declare_sort.new.self c.requires.ready c.in-Ok.ensures.ok c.requires.named c.requires.free tt
