use Rattle.scope_stack.proofs.DistinctNamesKept.{consistent_globals}
use Rattle.scope_stack.proofs.scopes.Scopes.reset_assertions.Goals as goal

pub invariant_of-self : goal.invariant_of-self
invariant_of-self c = rw (c.clear_levels.ensures, c.clear_levels-2.ensures) (consistent_globals c.self.inside.funs c.self.inside.sorts c.self.invariant)
