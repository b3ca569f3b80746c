use Rattle.script_core.specs.Keeping.{definitions_in}
use Rattle.script_core.proofs.KeptDefinitions.{first_part, first_unused, others_unused, when_kept, when_part}
use Rattle.script_core.proofs.keeping.keep_definitions.Goals as goal

pub keep_own-requires : goal.keep_own-requires
keep_own-requires c = first_unused c.args.script.now.defs (definitions_in c.args.command.now) c.args.named.now c.requires

pub keep_all-requires : goal.keep_all-requires
keep_all-requires c = others_unused c.args.script.now c.keep_own.new.script (definitions_in c.args.command.now) c.args.named.now c.in-Ok.ensures.ok c.requires

pub returns-in-Ok-clause-ok : goal.returns-in-Ok-clause-ok
returns-in-Ok-clause-ok c = when_kept c.keep_all.result c.args.script.now c.keep_own.new.script c.keep_all.new.script (definitions_in c.args.command.now) c.args.named.now c.in-Ok.ensures.ok c.keep_all.ensures.ok

pub returns-in-Ok-clause-left : goal.returns-in-Ok-clause-left
returns-in-Ok-clause-left c = when_part c.keep_all.result c.args.script.now c.keep_own.new.script c.keep_all.new.script (definitions_in c.args.command.now) c.args.named.now c.in-Ok.ensures.ok c.keep_all.ensures.left

pub returns-in-Err-clause-left : goal.returns-in-Err-clause-left
returns-in-Err-clause-left c = first_part c.args.script.now c.keep_own.new.script (definitions_in c.args.command.now) c.args.named.now c.in-Err.ensures.left
