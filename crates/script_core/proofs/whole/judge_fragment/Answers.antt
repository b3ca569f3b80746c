use Rattle.term_store.specs.Command.{plain_command}
use Rattle.logic_frag.specs.Following.{plain_defs}
use Rattle.script_core.proofs.WholeCommands.{fragment_broken, fragment_met}
use Rattle.script_core.proofs.whole.judge_fragment.Goals as goal

pub returns-in-Ok-None : goal.returns-in-Ok-None
returns-in-Ok-None c = let none = c.in-Ok-None in
    fragment_met c.args.logic.now c.in-Some.logic c.args.names.now (plain_defs c.args.defs.now) c.args.at (plain_command c.args.command.now) c.in-Some.is none.field-0 none.ensures none.field-0-is

pub returns-in-Ok-Some : goal.returns-in-Ok-Some
returns-in-Ok-Some c = let some = c.in-Ok-Some in
    fragment_broken c.args.logic.now c.in-Some.logic c.args.names.now (plain_defs c.args.defs.now) c.args.at (plain_command c.args.command.now) c.in-Some.is some.field-0 some.ensures some.code c.broken.result some.field-0-is c.broken.ensures
