use Rattle.typer.proofs.ValueLists.{AreValues}
use Rattle.typer.proofs.live.values_of.Given as goal

-- the values of the parameters so far
abbrev pub invariant-loop-i : goal.invariant-loop-i
invariant-loop-i l = AreValues l.binding l.i l.values.items
