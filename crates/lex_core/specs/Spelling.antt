-- Which words, maximal runs of word bytes, spell a token, and which may still become one.
use Rattle.std.specs.Prelude.{◌≡◌, ℕ, Bool, true, false, ◌==◌, ◌&&◌, not, if◌then◌else◌, List, [], ◌∷◌, ◌++◌, ◌⊎◌, map}
use Rattle.std.specs.List.{list_all, list_any}
use Rattle.std.specs.Str.{bytes_eq}
use Rattle.lex_core.specs.Bytes.{is_binary_digit, is_digit, is_hex_digit, is_symbol_byte}
use Rattle.lex_core.specs.declared.token.TokKind.{TokKind}
use Rattle.lex_core.specs.declared.token.TokKind.TheVariants.{Binary, Close, Decimal, Hexadecimal, Keyword, Numeral, Open, Reserved, Str, Symbol}
use Rattle.sig_table.specs.Reserved.{reserved_rows}

-- one or more, and all pass
abbrev pub nonempty_all : (ℕ → Bool) → List ℕ → Bool
nonempty_all p [] = false
nonempty_all p (b ∷ bs) = p b && list_all p bs

abbrev pub is_empty : List ℕ → Bool
is_empty [] = true
is_empty (b ∷ bs) = false

-- 0, or digits that do not begin with 0
abbrev pub is_numeral : List ℕ → Bool
is_numeral [] = false
is_numeral (b ∷ bs) = if b == 48 then is_empty bs else (is_digit b && list_all is_digit bs)

-- a simple symbol or a reserved word: symbol bytes, the first no digit
abbrev pub is_symbol_word : List ℕ → Bool
is_symbol_word [] = false
is_symbol_word (b ∷ bs) = not (is_digit b) && (is_symbol_byte b && list_all is_symbol_byte bs)

-- the reserved words, as the table of them has them
abbrev pub reserved_words : List (List ℕ)
reserved_words = map (λ row. row.name) reserved_rows

unfoldable pub is_reserved : List ℕ → Bool
is_reserved bs = list_any (bytes_eq bs) reserved_words

-- the word spells a token of this kind
abbrev pub WordSpells : TokKind → List ℕ → Type 0
WordSpells Numeral bs = is_numeral bs ≡ true
WordSpells Decimal bs =
    (whole fraction : List ℕ) × (bs ≡ whole ++ 46 ∷ fraction) × (is_numeral whole ≡ true)
    × (nonempty_all is_digit fraction ≡ true)
WordSpells Hexadecimal bs =
    (digits : List ℕ) × (bs ≡ 35 ∷ 120 ∷ digits) × (nonempty_all is_hex_digit digits ≡ true)
WordSpells Binary bs =
    (digits : List ℕ) × (bs ≡ 35 ∷ 98 ∷ digits) × (nonempty_all is_binary_digit digits ≡ true)
WordSpells Symbol bs = (is_symbol_word bs ≡ true) × (is_reserved bs ≡ false)
WordSpells Reserved bs = (is_symbol_word bs ≡ true) × (is_reserved bs ≡ true)
WordSpells Keyword bs = (rest : List ℕ) × (bs ≡ 58 ∷ rest) × (nonempty_all is_symbol_byte rest ≡ true)
WordSpells Open bs = ⊥
WordSpells Close bs = ⊥
WordSpells Str bs = ⊥

-- a symbol with these bytes prints without bars
abbrev pub IsSimple : List ℕ → Type 0
IsSimple bs = WordSpells Symbol bs

-- the word spells no token yet, and a further byte can mend it
abbrev pub IsUnfinishedWord : List ℕ → Type 0
IsUnfinishedWord bs =
    (bs ≡ 35 ∷ []) ⊎ ((bs ≡ 35 ∷ 120 ∷ []) ⊎ ((bs ≡ 35 ∷ 98 ∷ []) ⊎ ((bs ≡ 58 ∷ [])
    ⊎ ((whole : List ℕ) × (bs ≡ whole ++ 46 ∷ []) × (is_numeral whole ≡ true)))))
