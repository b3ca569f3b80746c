-- Where bytes break the lexicon, and with which code.
use Rattle.std.specs.Prelude.{◌≡◌, ℕ, Bool, true, false, ◌==◌, not, List, [], ◌∷◌, ◌++◌, ◌⊎◌, length}
use Rattle.std.specs.List.{list_all}
use Rattle.lex_core.specs.Bytes.{is_text_byte, is_white_space, is_word_byte}
use Rattle.lex_core.specs.Lexeme.{AreLexemes, Lexeme, Lexes, joined_text, last_complete, lexeme_tokens}
use Rattle.lex_core.specs.Segmentation.{ClosedString, IsSegmentation, NoLexeme, PartialComment, PartialLexeme, PartialQuotedSymbol, PartialString, PartialWord, Viable}
use Rattle.lex_core.specs.Spelling.{IsUnfinishedWord, WordSpells}
use Rattle.lex_core.specs.Token.{Token}
use Rattle.lex_core.specs.declared.token.TokKind.{TokKind}
use Rattle.sig_table.specs.declared.code.Code.{Code}
use Rattle.sig_table.specs.declared.code.Code.TheVariants.{BackslashInQuotedSymbol, MalformedWord, UnclosedQuotedSymbol, UnclosedString, UnexpectedByte}

-- a byte that begins no lexeme
pub record BeginsNoLexeme (b : ℕ) : Type 0 where
  pub no_word_byte : is_word_byte b ≡ false
  pub no_white : is_white_space b ≡ false
  pub no_delimiter : list_all (λ mark. not (b == mark)) (40 ∷ 41 ∷ 59 ∷ 34 ∷ 124 ∷ []) ≡ true

-- the word spells no token, and no further byte can mend it
pub record IsInvalidWord (bs : List ℕ) : Type 0 where
  pub no_token : (kind : TokKind) → WordSpells kind bs → ⊥
  pub no_start : IsUnfinishedWord bs → ⊥

-- what is open begins at start, ends before offset n and cannot go on by this byte: a fault at this
-- place, with this code
abbrev pub PartialFault : PartialLexeme → ℕ → ℕ → ℕ → ℕ → Code → Type 0
PartialFault NoLexeme b start n at code = ⊥
PartialFault (PartialComment bs) b start n at code = ⊥
PartialFault (PartialWord bs) b start n at code =
    (((is_word_byte b ≡ true) × IsInvalidWord (bs ++ b ∷ []))
    ⊎ ((is_word_byte b ≡ false) × IsUnfinishedWord bs))
    × (at ≡ start) × (code ≡ MalformedWord)
PartialFault (PartialString name) b start n at code =
    (is_text_byte b ≡ false) × (at ≡ n) × (code ≡ UnexpectedByte)
PartialFault (ClosedString name) b start n at code = ⊥
PartialFault (PartialQuotedSymbol name) b start n at code =
    (((b ≡ 92) × (code ≡ BackslashInQuotedSymbol))
    ⊎ ((is_text_byte b ≡ false) × (code ≡ UnexpectedByte)))
    × (at ≡ n)

-- after these bytes, of which these tokens are complete, the next byte breaks the lexicon: no lexeme
-- is open and it begins none, or one is open and cannot go on by it
pub data FaultsAt (front : List ℕ) (b : ℕ) (tokens : List Token) (at : ℕ) (code : Code) : Type 0 where
  Outside : (lexemes : List Lexeme) → AreLexemes lexemes → front ≡ joined_text lexemes
      → last_complete lexemes (b ∷ []) ≡ true → BeginsNoLexeme b
      → tokens ≡ lexeme_tokens lexemes → at ≡ length front → code ≡ UnexpectedByte
      → FaultsAt front b tokens at code
  Inside : (lexemes : List Lexeme) (partial : PartialLexeme) → IsSegmentation front lexemes partial
      → tokens ≡ lexeme_tokens lexemes
      → PartialFault partial b (length (joined_text lexemes)) (length front) at code
      → FaultsAt front b tokens at code

-- what is open at the end lacks its end
abbrev pub EndFault : PartialLexeme → ℕ → ℕ → Code → Type 0
EndFault NoLexeme start at code = ⊥
EndFault (PartialComment bs) start at code = ⊥
EndFault (PartialWord bs) start at code = IsUnfinishedWord bs × (at ≡ start) × (code ≡ MalformedWord)
EndFault (PartialString name) start at code = (at ≡ start) × (code ≡ UnclosedString)
EndFault (ClosedString name) start at code = ⊥
EndFault (PartialQuotedSymbol name) start at code = (at ≡ start) × (code ≡ UnclosedQuotedSymbol)

-- the shortest prefix that is not viable shows this code at this place, after these tokens; or, where
-- the end was seen, the end does
pub data ShowsFault (bytes : List ℕ) (tokens : List Token) : Bool → ℕ → Code → Type 0 where
  AtByte : {ended : Bool} {at : ℕ} {code : Code} (front : List ℕ) (b : ℕ) (more : List ℕ)
      → bytes ≡ front ++ b ∷ more → (Viable (front ++ b ∷ []) → ⊥)
      → FaultsAt front b tokens at code → ShowsFault bytes tokens ended at code
  AtEnd : {at : ℕ} {code : Code} (lexemes : List Lexeme) (partial : PartialLexeme)
      → IsSegmentation bytes lexemes partial → tokens ≡ lexeme_tokens lexemes
      → EndFault partial (length (joined_text lexemes)) at code → ShowsFault bytes tokens true at code

-- the whole text lexes
abbrev pub HasTokens : List ℕ → Type 0
HasTokens bytes = (tokens : List Token) × Lexes bytes tokens

-- the whole text shows this fault, after some tokens
abbrev pub HasFaultAt : List ℕ → ℕ → Code → Type 0
HasFaultAt bytes at code = (tokens : List Token) × ShowsFault bytes tokens true at code

-- the whole text shows a fault
abbrev pub HasFault : List ℕ → Type 0
HasFault bytes = (at : ℕ) × (code : Code) × HasFaultAt bytes at code
