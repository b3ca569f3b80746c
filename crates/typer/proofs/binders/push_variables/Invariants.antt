use Rattle.std.proofs.Common.{◌≡◌, ◌++◌, take}
use Rattle.typer.proofs.binders.push_variables.Given as goal

abbrev pub invariant-loop-var : goal.invariant-loop-var
invariant-loop-var l = l.list.items ≡ l.fn.list.items ++ take l.var-index l.vars
