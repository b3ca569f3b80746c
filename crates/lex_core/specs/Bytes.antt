-- Sets of bytes, as tests.
use Rattle.std.specs.Prelude.{ℕ, Bool, ◌==◌, ◌||◌, ◌&&◌, nat_le, [], ◌∷◌}
use Rattle.std.specs.List.{list_any}

-- a comment ends before it
unfoldable pub is_line_end : ℕ → Bool
is_line_end b = (b == 10) || (b == 13)

unfoldable pub is_white_space : ℕ → Bool
is_white_space b = (b == 9) || (b == 10) || (b == 13) || (b == 32)

unfoldable pub is_printable : ℕ → Bool
is_printable b = (nat_le 32 b && nat_le b 126) || nat_le 128 b

-- what may stand in a string or a quoted symbol
unfoldable pub is_text_byte : ℕ → Bool
is_text_byte b = is_white_space b || is_printable b

unfoldable pub is_digit : ℕ → Bool
is_digit b = nat_le 48 b && nat_le b 57

unfoldable pub is_hex_digit : ℕ → Bool
is_hex_digit b = is_digit b || ((nat_le 65 b && nat_le b 70) || (nat_le 97 b && nat_le b 102))

unfoldable pub is_binary_digit : ℕ → Bool
is_binary_digit b = (b == 48) || (b == 49)

unfoldable pub is_letter : ℕ → Bool
is_letter b = (nat_le 65 b && nat_le b 90) || (nat_le 97 b && nat_le b 122)

-- the characters + - / * = % ? ! . $ _ ~ & ^ < > @
unfoldable pub is_symbol_mark : ℕ → Bool
is_symbol_mark b = list_any (λ mark. b == mark)
    (43 ∷ 45 ∷ 47 ∷ 42 ∷ 61 ∷ 37 ∷ 63 ∷ 33 ∷ 46 ∷ 36 ∷ 95 ∷ 126 ∷ 38 ∷ 94 ∷ 60 ∷ 62 ∷ 64 ∷ [])

-- what a simple symbol is made of
unfoldable pub is_symbol_byte : ℕ → Bool
is_symbol_byte b = is_digit b || (is_letter b || is_symbol_mark b)

-- what may stand in a word
unfoldable pub is_word_byte : ℕ → Bool
is_word_byte b = is_symbol_byte b || ((b == 58) || (b == 35))
