-- The indices of a function symbol (SMT-LIB 2.6, section 3.3), and the value of a numeral (section 3.1).
use Rattle.std.specs.Prelude.{ℕ, ◌+◌, ◌*◌, ◌-◌, Bool, true, false, not, nat_le, if◌then◌else◌, List, Option, Some, None, slice_get}
use Rattle.std.specs.List.{fold, list_all}
use Rattle.theory_bv.specs.declared.index.Index.{Index}
use Rattle.theory_bv.specs.declared.index.Index.TheVariants.{Numeral, Large, Symbol}

-- no index and no width is greater
abbrev pub greatest : ℕ
greatest = 4294967295

-- the value of the digits before, with one digit more
abbrev pub with_digit : ℕ → ℕ → ℕ
with_digit value digit = 10 * value + (digit - 48)

abbrev pub numeral_value : List ℕ → ℕ
numeral_value text = fold with_digit 0 text

-- the index that a numeral of this value is
abbrev pub index_with : ℕ → Index
index_with value = if nat_le value greatest then Numeral value else Large

abbrev pub is_symbol : Index → Bool
is_symbol (Numeral value) = false
is_symbol Large = false
is_symbol Symbol = true

abbrev pub is_large : Index → Bool
is_large (Numeral value) = false
is_large Large = true
is_large Symbol = false

abbrev pub no_symbol : List Index → Bool
no_symbol is = list_all (λ index. not (is_symbol index)) is

abbrev pub no_large : List Index → Bool
no_large is = list_all (λ index. not (is_large index)) is

-- the value of an index, or 0
abbrev pub value_or_0 : Option Index → ℕ
value_or_0 None = 0
value_or_0 (Some (Numeral value)) = value
value_or_0 (Some Large) = 0
value_or_0 (Some Symbol) = 0

-- the value of the index at a place, or 0
abbrev pub index_at : List Index → ℕ → ℕ
index_at is place = value_or_0 (slice_get is place)
