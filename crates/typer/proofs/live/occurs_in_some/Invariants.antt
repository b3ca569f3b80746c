use Rattle.std.proofs.Common.{◌≡◌, drop, map}
use Rattle.sort_store.specs.Tree.{tree, sorts}
use Rattle.typer.specs.LiveRanks.{occurs_in_some}
use Rattle.typer.proofs.live.occurs_in_some.Given as goal

-- the sorts that are left decide
abbrev pub invariant-loop-sort : goal.invariant-loop-sort
invariant-loop-sort l = occurs_in_some l.i (sorts (map tree (drop l.sort-index l.some))) ≡ occurs_in_some l.i (sorts (map tree l.some))
