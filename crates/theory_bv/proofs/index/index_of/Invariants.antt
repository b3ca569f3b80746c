use Rattle.std.proofs.Common.{◌≡◌, ◌≤◌, take}
use Rattle.std.specs.List.{fold}
use Rattle.theory_bv.specs.Indices.{greatest, with_digit}
use Rattle.theory_bv.proofs.index.index_of.Given as goal

-- the value of the digits so far, which is small enough
abbrev pub invariant-loop-digit : goal.invariant-loop-digit
invariant-loop-digit l = record { so_far : l.value ≡ fold with_digit 0 (take l.digit-index l.numeral); small : l.value ≤ greatest }
