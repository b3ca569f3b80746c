use Rattle.std.proofs.Common.{◌≡◌, ◌++◌, map, take}
use Rattle.typer.specs.Typed.{bound_variable}
use Rattle.typer.proofs.binders.push_bound.Given as goal

abbrev pub invariant-loop-binding : goal.invariant-loop-binding
invariant-loop-binding l = l.list.items ≡ l.fn.list.items ++ map bound_variable (take l.binding-index l.bindings)
