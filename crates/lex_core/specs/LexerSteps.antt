-- The lexer as a machine: its states, its step by one byte, and what the end makes of it.
use Rattle.std.specs.Prelude.{◌≡◌, ℕ, ◌+◌, Bool, true, false, ◌==◌, if◌then◌else◌, List, [], ◌∷◌, ◌++◌, Option, Some, None, length}
use Rattle.lex_core.specs.Bytes.{is_line_end, is_text_byte, is_white_space, is_word_byte}
use Rattle.lex_core.specs.Lexeme.{Lexeme, joined_text, lexeme_tokens}
use Rattle.lex_core.specs.Segmentation.{ClosedString, IsSegmentation, NoLexeme, PartialComment, PartialLexeme, PartialQuotedSymbol, PartialString, PartialWord}
use Rattle.lex_core.specs.Token.{Token}
use Rattle.lex_core.specs.WordClasses.{class_from, is_live, kind_at, next_class}
use Rattle.lex_core.specs.declared.token.TokKind.{TokKind}
use Rattle.lex_core.specs.declared.token.TokKind.TheVariants.{Close, Open, Str, Symbol}
use Rattle.lex_core.specs.declared.word.WordClass.{WordClass}
use Rattle.lex_core.specs.declared.word.WordClass.TheVariants.{Empty}
use Rattle.sig_table.specs.declared.code.Code.{Code}
use Rattle.sig_table.specs.declared.code.Code.TheVariants.{BackslashInQuotedSymbol, MalformedWord, UnclosedQuotedSymbol, UnclosedString, UnexpectedByte}

-- what the lexer is in the middle of, with the name or the bytes so far
pub data Mode : Type 0 where
  Between : Mode
  InComment : Mode
  InWord : WordClass → List ℕ → Mode
  InString : List ℕ → Mode
  AfterQuote : List ℕ → Mode
  InQuotedSymbol : List ℕ → Mode
  Failed : ℕ → Code → Mode

-- where the open lexeme begins, how many bytes were taken, and what is open
pub record LexerState : Type 0 where
  pub start : ℕ
  pub at : ℕ
  pub mode : Mode

-- the tokens that one byte completes, and what follows
pub record Step : Type 0 where
  pub out : List Token
  pub next : LexerState

-- no token, and this is open
abbrev pub continues : ℕ → ℕ → Mode → Step
continues start at mode = record { out = []; next = record { start = start; at = at + 1; mode = mode } }

-- a token, and then the step
abbrev pub emits : TokKind → List ℕ → ℕ → Step → Step
emits kind name start step =
    record { out = record { kind = kind; name = name; at = start } ∷ step.out; next = step.next }

-- a byte where no lexeme is open
abbrev pub begin_lexeme : ℕ → ℕ → Step
begin_lexeme at b =
    if is_word_byte b then continues at at (InWord (next_class Empty b) (b ∷ []))
    else (if is_white_space b then continues (at + 1) at Between
    else (if b == 40 then emits Open [] at (continues (at + 1) at Between)
    else (if b == 41 then emits Close [] at (continues (at + 1) at Between)
    else (if b == 59 then continues at at InComment
    else (if b == 34 then continues at at (InString [])
    else (if b == 124 then continues at at (InQuotedSymbol [])
    else continues at at (Failed at UnexpectedByte)))))))

-- a byte after a word
abbrev pub after_word : Option TokKind → List ℕ → ℕ → ℕ → ℕ → Step
after_word None bs start at b = continues start at (Failed start MalformedWord)
after_word (Some kind) bs start at b = emits kind bs start (begin_lexeme at b)

-- a byte in each mode
abbrev pub step_in : Mode → ℕ → ℕ → ℕ → Step
step_in Between start at b = begin_lexeme at b
step_in InComment start at b = if is_line_end b then begin_lexeme at b else continues start at InComment
step_in (InWord class bs) start at b =
    if is_word_byte b
    then (if is_live (next_class class b)
    then continues start at (InWord (next_class class b) (bs ++ b ∷ []))
    else continues start at (Failed start MalformedWord))
    else after_word (kind_at class bs) bs start at b
step_in (InString name) start at b =
    if b == 34 then continues start at (AfterQuote name)
    else (if is_text_byte b then continues start at (InString (name ++ b ∷ []))
    else continues start at (Failed at UnexpectedByte))
step_in (AfterQuote name) start at b =
    if b == 34 then continues start at (InString (name ++ 34 ∷ []))
    else emits Str name start (begin_lexeme at b)
step_in (InQuotedSymbol name) start at b =
    if b == 124 then emits Symbol name start (continues (at + 1) at Between)
    else (if b == 92 then continues start at (Failed at BackslashInQuotedSymbol)
    else (if is_text_byte b then continues start at (InQuotedSymbol (name ++ b ∷ []))
    else continues start at (Failed at UnexpectedByte)))
step_in (Failed place code) start at b =
    record { out = []; next = record { start = start; at = at; mode = Failed place code } }

-- one byte
abbrev pub step : LexerState → ℕ → Step
step p b = step_in p.mode p.start p.at b

-- the tokens so far, and the state
pub record Configuration : Type 0 where
  pub given : List Token
  pub state : LexerState

-- the configuration after a step
abbrev pub after_step : List Token → Step → Configuration
after_step given t = record { given = given ++ t.out; state = t.next }

-- the configuration after bytes
abbrev pub after_bytes : Configuration → List ℕ → Configuration
after_bytes r [] = r
after_bytes r (b ∷ bs) = after_bytes (after_step r.given (step r.state b)) bs

-- before the first byte
abbrev pub initial : Configuration
initial = record { given = []; state = record { start = 0; at = 0; mode = Between } }

-- the lexer has not failed
abbrev pub is_running : Mode → Bool
is_running Between = true
is_running InComment = true
is_running (InWord class bs) = true
is_running (InString name) = true
is_running (AfterQuote name) = true
is_running (InQuotedSymbol name) = true
is_running (Failed place code) = false

-- what the lexer is in the middle of, where the bytes end in this
abbrev pub mode_of : PartialLexeme → Mode
mode_of NoLexeme = Between
mode_of (PartialComment bs) = InComment
mode_of (PartialWord bs) = InWord (class_from Empty bs) bs
mode_of (PartialString name) = InString name
mode_of (ClosedString name) = AfterQuote name
mode_of (PartialQuotedSymbol name) = InQuotedSymbol name

-- the state after these bytes, of which these tokens are complete
pub record IsStateAfter (bytes : List ℕ) (tokens : List Token) (state : LexerState) : Type 0 where
  pub lexemes : List Lexeme
  pub partial : PartialLexeme
  pub segmentation : IsSegmentation bytes lexemes partial
  pub in_order : tokens ≡ lexeme_tokens lexemes
  pub here : state ≡ record { start = length (joined_text lexemes); at = length bytes; mode = mode_of partial }

-- what the end makes of a state: the tokens that are left, or a fault
pub data End : Type 0 where
  Ended : List Token → End
  Faulty : ℕ → Code → End

-- the end after a word
abbrev pub word_end : Option TokKind → List ℕ → ℕ → End
word_end None bs start = Faulty start MalformedWord
word_end (Some kind) bs start = Ended (record { kind = kind; name = bs; at = start } ∷ [])

-- the end in each mode
abbrev pub end_of : Mode → ℕ → End
end_of Between start = Ended []
end_of InComment start = Ended []
end_of (InWord class bs) start = word_end (kind_at class bs) bs start
end_of (InString name) start = Faulty start UnclosedString
end_of (AfterQuote name) start = Ended (record { kind = Str; name = name; at = start } ∷ [])
end_of (InQuotedSymbol name) start = Faulty start UnclosedQuotedSymbol
end_of (Failed place code) start = Faulty place code
