use Rattle.std.proofs.Common.{◌≡◌, ◌++◌, take}
use Rattle.typer.proofs.free.push_names.Given as goal

abbrev pub invariant-loop-name : goal.invariant-loop-name
invariant-loop-name l = l.bound.items ≡ l.fn.bound.items ++ take l.name-index l.names
