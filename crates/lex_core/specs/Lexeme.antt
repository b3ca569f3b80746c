-- A text as a list of lexemes, the last lexeme first, so that a byte at the end of the text changes
-- the front of the list.
use Rattle.std.specs.Prelude.{◌≡◌, ℕ, Bool, true, false, ◌==◌, ◌&&◌, not, if◌then◌else◌, List, [], ◌∷◌, ◌++◌, ◌⊎◌, length}
use Rattle.std.specs.List.{list_all}
use Rattle.lex_core.specs.Bytes.{is_line_end, is_text_byte, is_white_space, is_word_byte}
use Rattle.lex_core.specs.Spelling.{WordSpells}
use Rattle.lex_core.specs.Token.{Token}
use Rattle.lex_core.specs.declared.token.TokKind.{TokKind}
use Rattle.lex_core.specs.declared.token.TokKind.TheVariants.{Binary, Close, Decimal, Hexadecimal, Keyword, Numeral, Open, Reserved, Str, Symbol}

-- white space (one byte), a comment without its semicolon, or the spelling of a token: of a word its
-- kind and its bytes, of a string literal and a quoted symbol the name
pub data Lexeme : Type 0 where
  WhiteSpace : ℕ → Lexeme
  Comment : List ℕ → Lexeme
  OpenParen : Lexeme
  CloseParen : Lexeme
  Word : TokKind → List ℕ → Lexeme
  StringLiteral : List ℕ → Lexeme
  QuotedSymbol : List ℕ → Lexeme

-- the name of a string literal with each quote doubled
abbrev pub quotes_doubled : List ℕ → List ℕ
quotes_doubled [] = []
quotes_doubled (b ∷ bs) = if b == 34 then 34 ∷ 34 ∷ quotes_doubled bs else b ∷ quotes_doubled bs

-- the bytes of a lexeme
abbrev pub lexeme_text : Lexeme → List ℕ
lexeme_text (WhiteSpace b) = b ∷ []
lexeme_text (Comment bs) = 59 ∷ bs
lexeme_text OpenParen = 40 ∷ []
lexeme_text CloseParen = 41 ∷ []
lexeme_text (Word kind bs) = bs
lexeme_text (StringLiteral name) = 34 ∷ (quotes_doubled name ++ 34 ∷ [])
lexeme_text (QuotedSymbol name) = 124 ∷ (name ++ 124 ∷ [])

-- what may stand between the bars of a quoted symbol
abbrev pub is_quoted_byte : ℕ → Bool
is_quoted_byte b = not (b == 124) && (not (b == 92) && is_text_byte b)

-- what each kind of lexeme is
abbrev pub IsLexeme : Lexeme → Type 0
IsLexeme (WhiteSpace b) = is_white_space b ≡ true
IsLexeme (Comment bs) = list_all (λ b. not (is_line_end b)) bs ≡ true
IsLexeme OpenParen = Unit {0}
IsLexeme CloseParen = Unit {0}
IsLexeme (Word kind bs) = WordSpells kind bs
IsLexeme (StringLiteral name) = list_all is_text_byte name ≡ true
IsLexeme (QuotedSymbol name) = list_all is_quoted_byte name ≡ true

-- the first byte passes the test
abbrev pub starts : (ℕ → Bool) → List ℕ → Bool
starts p [] = false
starts p (b ∷ bs) = p b

-- the lexeme is complete where these bytes follow it, and they may follow it
abbrev pub is_complete : Lexeme → List ℕ → Bool
is_complete (WhiteSpace b) next = true
is_complete (Comment bs) next = starts is_line_end next
is_complete OpenParen next = true
is_complete CloseParen next = true
is_complete (Word kind bs) next = starts (λ b. not (is_word_byte b)) next
is_complete (StringLiteral name) next = starts (λ b. not (b == 34)) next
is_complete (QuotedSymbol name) next = true

-- the last lexeme is complete where these bytes follow it, and they may follow it
abbrev pub last_complete : List Lexeme → List ℕ → Bool
last_complete [] next = true
last_complete (p ∷ ps) next = is_complete p next

-- the bytes of the lexemes
abbrev pub joined_text : List Lexeme → List ℕ
joined_text [] = []
joined_text (p ∷ ps) = joined_text ps ++ lexeme_text p

-- each is a lexeme, and each is complete where the next begins
abbrev pub AreLexemes : List Lexeme → Type 0
AreLexemes [] = Unit {0}
AreLexemes (p ∷ ps) = IsLexeme p × (last_complete ps (lexeme_text p) ≡ true) × AreLexemes ps

-- the tokens of the lexemes, in reading order
abbrev pub lexeme_tokens : List Lexeme → List Token
lexeme_tokens [] = []
lexeme_tokens (WhiteSpace b ∷ ps) = lexeme_tokens ps
lexeme_tokens (Comment bs ∷ ps) = lexeme_tokens ps
lexeme_tokens (OpenParen ∷ ps) =
    lexeme_tokens ps ++ record { kind = Open; name = []; at = length (joined_text ps) } ∷ []
lexeme_tokens (CloseParen ∷ ps) =
    lexeme_tokens ps ++ record { kind = Close; name = []; at = length (joined_text ps) } ∷ []
lexeme_tokens (Word kind bs ∷ ps) =
    lexeme_tokens ps ++ record { kind = kind; name = bs; at = length (joined_text ps) } ∷ []
lexeme_tokens (StringLiteral name ∷ ps) =
    lexeme_tokens ps ++ record { kind = Str; name = name; at = length (joined_text ps) } ∷ []
lexeme_tokens (QuotedSymbol name ∷ ps) =
    lexeme_tokens ps ++ record { kind = Symbol; name = name; at = length (joined_text ps) } ∷ []

-- the bytes are these tokens, with white space and comments
pub record Lexes (bytes : List ℕ) (tokens : List Token) : Type 0 where
  pub lexemes : List Lexeme
  pub spelled : bytes ≡ joined_text lexemes
  pub whole : AreLexemes lexemes
  pub in_order : tokens ≡ lexeme_tokens lexemes

-- these bytes spell a token of this kind with this name
abbrev pub Spells : TokKind → List ℕ → List ℕ → Type 0
Spells Open name bytes = (name ≡ []) × (bytes ≡ 40 ∷ [])
Spells Close name bytes = (name ≡ []) × (bytes ≡ 41 ∷ [])
Spells Str name bytes =
    (list_all is_text_byte name ≡ true) × (bytes ≡ 34 ∷ (quotes_doubled name ++ 34 ∷ []))
Spells Symbol name bytes =
    (WordSpells Symbol bytes × (name ≡ bytes))
    ⊎ ((list_all is_quoted_byte name ≡ true) × (bytes ≡ 124 ∷ (name ++ 124 ∷ [])))
Spells Numeral name bytes = WordSpells Numeral bytes × (name ≡ bytes)
Spells Decimal name bytes = WordSpells Decimal bytes × (name ≡ bytes)
Spells Hexadecimal name bytes = WordSpells Hexadecimal bytes × (name ≡ bytes)
Spells Binary name bytes = WordSpells Binary bytes × (name ≡ bytes)
Spells Reserved name bytes = WordSpells Reserved bytes × (name ≡ bytes)
Spells Keyword name bytes = WordSpells Keyword bytes × (name ≡ bytes)

-- a spelling of the token stands at its place in the bytes
pub record StandsIn (bytes : List ℕ) (token : Token) : Type 0 where
  pub front : List ℕ
  pub spelling : List ℕ
  pub more : List ℕ
  pub split : bytes ≡ front ++ (spelling ++ more)
  pub place : token.at ≡ length front
  pub spelled : Spells token.kind token.name spelling

abbrev pub AllStandIn : List ℕ → List Token → Type 0
AllStandIn bytes [] = Unit {0}
AllStandIn bytes (token ∷ tokens) = StandsIn bytes token × AllStandIn bytes tokens
