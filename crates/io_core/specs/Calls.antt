-- Calls that are numbered from 1 by a counter of 64 bits, and some of which fail.
use Rattle.std.specs.Prelude.{ℕ, ◌+◌, ◌-◌, ◌^◌, List, Contains, min}

-- what a counter of 64 bits shows after one more: it stops at its last value
abbrev pub counted : ℕ → ℕ
counted n = min (n + 1) (2 ^ 64 - 1)

-- after so many calls, the number of the next one is among those that fail
abbrev pub FailsNext : List ℕ → ℕ → Type 0
FailsNext fails calls = Contains fails (calls + 1)
