use Rattle.std.proofs.Common.{◌≡◌, ◌<◌, ◌^◌, take}
use Rattle.std.specs.List.{fold}
use Rattle.typer.specs.Numerals.{with_digit}
use Rattle.typer.proofs.numeral.numeral_value.Given as goal

-- the value of the digits so far, which is small enough
abbrev pub invariant-loop-byte : goal.invariant-loop-byte
invariant-loop-byte l = (l.value ≡ fold with_digit 0 (take l.byte-index l.text)) × (l.value < 2 ^ 32)
