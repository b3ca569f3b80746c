use Rattle.scope_stack.proofs.DistinctNamesKept.{consistent_closed}
use Rattle.scope_stack.proofs.scopes.Scopes.pop.Goals as goal

pub invariant_of-self : goal.invariant_of-self
invariant_of-self c = rw (c.close.ensures, c.close-2.ensures) (consistent_closed c.args.n c.self.inside.funs c.self.inside.sorts c.self.invariant)
