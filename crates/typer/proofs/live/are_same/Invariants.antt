use Rattle.std.proofs.Common.{◌≡◌, ℕ, ◌<◌, get_or}
use Rattle.sort_store.specs.Tree.{NumberedSort, tree}
use Rattle.typer.proofs.live.are_same.Given as goal

-- the sorts so far are the same
abbrev pub invariant-loop-i : goal.invariant-loop-i
invariant-loop-i l = (k : ℕ) (d e : NumberedSort) → k < l.i → tree (get_or l.a k d) ≡ tree (get_or l.b k e)
