use Rattle.script_core.proofs.TakingGroups.{next_effect, next_ready}
use Rattle.script_core.proofs.definitions.next_header.Goals as goal

pub returns-in-Ok-clause-effect : goal.returns-in-Ok-clause-effect
returns-in-Ok-clause-effect c =
    next_effect c.args.scope.now c.header_of.new.scope c.add_header.new.scope c.in_ok-header.header c.header_of.ensures.grown c.add_header.ensures.names c.add_header.ensures.sorts c.in-Ok.ensures.effect

pub returns-in-Ok-clause-ready : goal.returns-in-Ok-clause-ready
returns-in-Ok-clause-ready c =
    next_ready c.args.scope.now c.header_of.new.scope c.add_header.new.scope c.in_ok-header.header c.header_of.ensures.grown c.add_header.ensures.names c.add_header.ensures.sorts c.in_ok-header.ensures.schema
