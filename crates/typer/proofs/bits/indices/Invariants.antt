use Rattle.std.proofs.Common.{◌≡◌, map, take}
use Rattle.typer.specs.BitVectors.{index_of}
use Rattle.typer.proofs.bits.indices.Given as goal

abbrev pub invariant-loop-tok : goal.invariant-loop-tok
invariant-loop-tok l = l.indices.items ≡ map (index_of l.names) (take l.tok-index l.toks)
