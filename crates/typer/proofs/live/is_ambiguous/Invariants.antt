use Rattle.std.proofs.Common.{◌≡◌, false, map}
use Rattle.sort_store.specs.Tree.{tree}
use Rattle.typer.specs.LiveRanks.{lacks_some}
use Rattle.typer.proofs.live.is_ambiguous.Given as goal

-- none of the parameters so far is lacking
abbrev pub invariant-loop-i : goal.invariant-loop-i
invariant-loop-i l = lacks_some l.i (map tree l.entry.args) ≡ false
