use Rattle.std.proofs.Common.{◌+◌, ◌≤◌, length, arith}
use Rattle.scope_stack.proofs.DistinctNamesKept.{consistent_opened}
use Rattle.scope_stack.proofs.scopes.Scopes.push.Goals as goal

pub invariant_of-self-in-Ok-open : goal.invariant_of-self-in-Ok-open
invariant_of-self-in-Ok-open c =
    let l : length c.self.inside.funs.pushed + c.args.n ≤ 65535 = omega arith in
    rw (c.in-Ok.ensures.ok, c.in-Ok-open.ensures.ok) (consistent_opened c.args.n c.self.inside.funs c.self.inside.sorts l c.self.invariant)
