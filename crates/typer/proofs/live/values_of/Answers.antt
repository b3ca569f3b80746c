use Rattle.std.proofs.Common.{subst, arith, ◌≡◌}
use Rattle.typer.proofs.ValueLists.{AreValues, all_values}
use Rattle.typer.proofs.live.values_of.Goals as goal

pub returns-clause-agree : goal.returns-clause-agree
returns-clause-agree c =
    let last : c.loop-i.i ≡ c.args.count = omega (arith, c.loop-i-test.false, c.loop-i.auto.i-end) in
    all_values c.args.binding.now c.args.count c.loop-i.values.items c.requires.count (subst (λ n. AreValues c.args.binding.now n c.loop-i.values.items) last c.loop-i.invariant)
