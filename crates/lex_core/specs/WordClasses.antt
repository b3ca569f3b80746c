-- What the bytes of a word spell so far, byte by byte.
use Rattle.std.specs.Prelude.{ℕ, Bool, true, false, ◌==◌, if◌then◌else◌, List, [], ◌∷◌, Option, Some, None}
use Rattle.lex_core.specs.Bytes.{is_binary_digit, is_digit, is_hex_digit, is_symbol_byte}
use Rattle.lex_core.specs.Spelling.{is_reserved}
use Rattle.lex_core.specs.declared.token.TokKind.{TokKind}
use Rattle.lex_core.specs.declared.token.TokKind.TheVariants.{Binary, Decimal, Hexadecimal, Keyword, Numeral, Reserved, Symbol}
use Rattle.lex_core.specs.declared.word.WordClass.{WordClass}
use Rattle.lex_core.specs.declared.word.WordClass.TheVariants.{BinaryDigits, BinaryPrefix, Colon, DecimalPoint, Digits, Empty, Fraction, Hash, HexDigits, HexPrefix, Invalid, KeywordBytes, SymbolBytes, Zero}

abbrev pub next_class : WordClass → ℕ → WordClass
next_class Empty b =
    if b == 48 then Zero else (if is_digit b then Digits else (if b == 35 then Hash else (if b == 58 then Colon
    else (if is_symbol_byte b then SymbolBytes else Invalid))))
next_class Zero b = if b == 46 then DecimalPoint else Invalid
next_class Digits b = if is_digit b then Digits else (if b == 46 then DecimalPoint else Invalid)
next_class DecimalPoint b = if is_digit b then Fraction else Invalid
next_class Fraction b = if is_digit b then Fraction else Invalid
next_class Hash b = if b == 120 then HexPrefix else (if b == 98 then BinaryPrefix else Invalid)
next_class HexPrefix b = if is_hex_digit b then HexDigits else Invalid
next_class HexDigits b = if is_hex_digit b then HexDigits else Invalid
next_class BinaryPrefix b = if is_binary_digit b then BinaryDigits else Invalid
next_class BinaryDigits b = if is_binary_digit b then BinaryDigits else Invalid
next_class SymbolBytes b = if is_symbol_byte b then SymbolBytes else Invalid
next_class Colon b = if is_symbol_byte b then KeywordBytes else Invalid
next_class KeywordBytes b = if is_symbol_byte b then KeywordBytes else Invalid
next_class Invalid b = Invalid

abbrev pub class_from : WordClass → List ℕ → WordClass
class_from class [] = class
class_from class (b ∷ bs) = class_from (next_class class b) bs

-- the kind of the token that a word of this class spells
abbrev pub kind_at : WordClass → List ℕ → Option TokKind
kind_at Zero bs = Some Numeral
kind_at Digits bs = Some Numeral
kind_at Fraction bs = Some Decimal
kind_at HexDigits bs = Some Hexadecimal
kind_at BinaryDigits bs = Some Binary
kind_at SymbolBytes bs = if is_reserved bs then Some Reserved else Some Symbol
kind_at KeywordBytes bs = Some Keyword
kind_at Empty bs = None
kind_at DecimalPoint bs = None
kind_at Hash bs = None
kind_at HexPrefix bs = None
kind_at BinaryPrefix bs = None
kind_at Colon bs = None
kind_at Invalid bs = None

-- a word is begun, and some token or unfinished word begins so
abbrev pub is_live : WordClass → Bool
is_live Empty = false
is_live Invalid = false
is_live class = true
