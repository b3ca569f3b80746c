use Rattle.sort_store.specs.Tree.{parts}
use Rattle.dt_rules.proofs.Gaining.{args_step}
use Rattle.dt_rules.proofs.group.args_of.Goals as goal

pub loop-i-preserved : goal.loop-i-preserved
loop-i-preserved c = args_step c.loop-i.args.items c.push.new.self.items (parts c.args.sort.now) c.loop-i.i c.in_ok-arg.arg c.loop-i.invariant c.in_ok-arg.ensures c.in_ok-push.ensures.items
