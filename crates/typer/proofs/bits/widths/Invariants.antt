use Rattle.std.proofs.Common.{◌≡◌, map, take}
use Rattle.sort_store.specs.Tree.{tree}
use Rattle.typer.specs.BitVectors.{width_of}
use Rattle.typer.proofs.bits.widths.Given as goal

abbrev pub invariant-loop-sort : goal.invariant-loop-sort
invariant-loop-sort l = l.widths.items ≡ map width_of (map tree (take l.sort-index l.sorts))
