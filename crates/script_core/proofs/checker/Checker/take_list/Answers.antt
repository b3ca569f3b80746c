use Rattle.script_core.proofs.TakingTokens.{counted_more}
use Rattle.script_core.proofs.checker.Checker.take_list.Goals as goal

pub returns-in-Ok-clause-counted : goal.returns-in-Ok-clause-counted
returns-in-Ok-clause-counted c = counted_more c.args.self.now.scope c.take_tree.new.scope c.args.tree.now c.in-Ok.progress c.in-Ok.ensures.answer
