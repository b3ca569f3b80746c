use Rattle.std.proofs.Common.{◌≡◌, ◌++◌, ℕ, map, take}
use Rattle.sort_store.specs.Tree.{NumberedSort}
use Rattle.typer.proofs.free.push_variable_names.Given as goal

abbrev pub invariant-loop-var : goal.invariant-loop-var
invariant-loop-var l = l.bound.items ≡ l.fn.bound.items ++ map (λ (v : ℕ × NumberedSort). v.0) (take l.var-index l.vars)
