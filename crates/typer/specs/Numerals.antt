-- The value of a numeral (SMT-LIB 2.6, section 3.1).
use Rattle.std.specs.Prelude.{ℕ, ◌+◌, ◌*◌, ◌-◌, List}
use Rattle.std.specs.List.{fold}

-- the value of the digits before, with one digit more
abbrev pub with_digit : ℕ → ℕ → ℕ
with_digit value digit = 10 * value + (digit - 48)

abbrev pub numeral_value : List ℕ → ℕ
numeral_value text = fold with_digit 0 text
