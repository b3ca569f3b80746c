-- Bytes that may still go on: lexemes that are complete, and the beginning of one more.
use Rattle.std.specs.Prelude.{◌≡◌, ℕ, true, not, List, [], ◌∷◌, ◌++◌, ◌⊎◌}
use Rattle.std.specs.List.{list_all}
use Rattle.lex_core.specs.Bytes.{is_line_end, is_text_byte}
use Rattle.lex_core.specs.Lexeme.{AreLexemes, Lexeme, is_quoted_byte, joined_text, last_complete, quotes_doubled}
use Rattle.lex_core.specs.Spelling.{IsUnfinishedWord, WordSpells}
use Rattle.lex_core.specs.declared.token.TokKind.{TokKind}

-- what may stand after the last complete lexeme; a closed string may be over, or go on by a second quote
pub data PartialLexeme : Type 0 where
  NoLexeme : PartialLexeme
  PartialComment : List ℕ → PartialLexeme
  PartialWord : List ℕ → PartialLexeme
  PartialString : List ℕ → PartialLexeme
  ClosedString : List ℕ → PartialLexeme
  PartialQuotedSymbol : List ℕ → PartialLexeme

-- its bytes
abbrev pub partial_text : PartialLexeme → List ℕ
partial_text NoLexeme = []
partial_text (PartialComment bs) = 59 ∷ bs
partial_text (PartialWord bs) = bs
partial_text (PartialString name) = 34 ∷ quotes_doubled name
partial_text (ClosedString name) = 34 ∷ (quotes_doubled name ++ 34 ∷ [])
partial_text (PartialQuotedSymbol name) = 124 ∷ name

-- what each may be
abbrev pub IsPartialLexeme : PartialLexeme → Type 0
IsPartialLexeme NoLexeme = Unit {0}
IsPartialLexeme (PartialComment bs) = list_all (λ b. not (is_line_end b)) bs ≡ true
IsPartialLexeme (PartialWord bs) = ((kind : TokKind) × WordSpells kind bs) ⊎ IsUnfinishedWord bs
IsPartialLexeme (PartialString name) = list_all is_text_byte name ≡ true
IsPartialLexeme (ClosedString name) = list_all is_text_byte name ≡ true
IsPartialLexeme (PartialQuotedSymbol name) = list_all is_quoted_byte name ≡ true

-- the bytes so far are lexemes that are complete, and the beginning of one more
pub record IsSegmentation (bytes : List ℕ) (lexemes : List Lexeme) (partial : PartialLexeme) : Type 0 where
  pub spelled : bytes ≡ joined_text lexemes ++ partial_text partial
  pub whole : AreLexemes lexemes
  pub complete : last_complete lexemes (partial_text partial) ≡ true
  pub possible : IsPartialLexeme partial

-- some continuation lexes
abbrev pub Viable : List ℕ → Type 0
Viable bytes = (lexemes : List Lexeme) × (partial : PartialLexeme) × IsSegmentation bytes lexemes partial
