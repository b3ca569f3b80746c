use Rattle.sort_store.proofs.GrownStores.{grows_more, grows_interned}
use Rattle.dt_rules.proofs.Gaining.{interned_step, params_step}
use Rattle.dt_rules.proofs.group.params_of.Goals as goal

pub loop-i-preserved : goal.loop-i-preserved
loop-i-preserved c =
    let grown = grows_interned _ _ _ c.in-Ok.ensures.interns in record {
      trees = params_step c.loop-i.params.items c.push.new.self.items c.loop-i.i c.in-Ok.param c.loop-i.invariant.trees c.in-Ok.ensures.tree c.in_ok-push-in-Ok.ensures.items;
      interned = interned_step c.loop-i.sorts c.make.new.self c.loop-i.params.items c.push.new.self.items c.in-Ok.param grown c.loop-i.invariant.interned c.in-Ok.ensures.interned c.in_ok-push-in-Ok.ensures.items;
      grows = grows_more _ _ _ c.loop-i.invariant.grows grown;
      distinct = λ _. c.make.ensures.distinct;
    }
