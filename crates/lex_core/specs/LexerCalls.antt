-- What the calls of a lexer say in terms of its steps.
use Rattle.std.specs.Prelude.{◌≡◌, ℕ, ◌<◌, ◌≤◌, true, false, List, [], ◌∷◌, ◌++◌, ◌⊎◌, length, Option, Some, None, Result, Ok, Err, map}
use Rattle.lex_core.specs.declared.lexer.State.TheVariants as state
use Rattle.lex_core.specs.Faults.{ShowsFault}
use Rattle.lex_core.specs.Lexeme.{Lexes}
use Rattle.lex_core.specs.LexerSteps.{AfterQuote, Between, End, Ended, Failed, Faulty, InComment, InQuotedSymbol, InString, InWord, IsStateAfter, LexerState, Mode, Step, is_running, step}
use Rattle.lex_core.specs.Segmentation.{Viable}
use Rattle.lex_core.specs.Token.{AllInterned, IsInterned, Token, fed_tokens, option_tokens, token_of}
use Rattle.lex_core.specs.declared.lexer.Fed.{Fed}
use Rattle.lex_core.specs.declared.lexer.LexError.{LexError}
use Rattle.lex_core.specs.declared.lexer.LexError.TheVariants.{Fault, NoMemory}
use Rattle.lex_core.specs.declared.lexer.LexFault.{LexFault}
use Rattle.lex_core.specs.declared.lexer.State.{State}
use Rattle.lex_core.specs.declared.place.Place.{Place}
use Rattle.lex_core.specs.declared.token.Tok.{Tok}
use Rattle.lex_core.specs.declared.token.TokKind.{TokKind}
use Rattle.sig_table.specs.declared.code.Code.{Code}

-- the mode that the fields of a lexer stand for, or none where memory ran out
abbrev pub mode_in : State → List ℕ → Option Mode
mode_in state.Between text = Some Between
mode_in state.Comment text = Some InComment
mode_in (state.Word class) text = Some (InWord class text)
mode_in state.StringLiteral text = Some (InString text)
mode_in state.AfterQuote text = Some (AfterQuote text)
mode_in state.QuotedSymbol text = Some (InQuotedSymbol text)
mode_in (state.Failed place) text = Some (Failed place.at place.code)
mode_in state.OutOfMemory text = None

-- the state of these fields
abbrev pub state_with : Option Mode → ℕ → ℕ → Option LexerState
state_with None start at = None
state_with (Some mode) start at = Some (record { start = start; at = at; mode = mode })

-- a call that takes one byte makes this step
abbrev pub IsStep : List (List ℕ) → Step → Option LexerState → Result Fed LexError → Type 0
IsStep texts step new (Ok fed) =
    (new ≡ Some step.next) × (is_running step.next.mode ≡ true) × (fed_tokens texts fed ≡ step.out)
    × IsInterned texts fed.first × IsInterned texts fed.second
IsStep texts step new (Err (Fault fault)) =
    (new ≡ Some step.next) × (step.next.mode ≡ Failed fault.place.at fault.place.code)
    × (option_tokens texts fault.before ≡ step.out) × IsInterned texts fault.before
IsStep texts step new (Err NoMemory) = new ≡ None

-- the table keeps its texts, each at its number, and has at most one more
abbrev pub KeepsTexts : List (List ℕ) → List (List ℕ) → Type 0
KeepsTexts old new = (more : List (List ℕ)) × (length more ≤ 1) × (new ≡ old ++ more)

-- the table keeps its texts, each at its number
abbrev pub ExtendsTable : List (List ℕ) → List (List ℕ) → Type 0
ExtendsTable old new = (more : List (List ℕ)) × (new ≡ old ++ more)

-- the table is as before, or has gained the name of the first of these tokens as its last text
abbrev pub GainsNameOf : List (List ℕ) → List (List ℕ) → List Token → Type 0
GainsNameOf old new [] = new ≡ old
GainsNameOf old new (token ∷ tokens) = (new ≡ old) ⊎ (new ≡ old ++ token.name ∷ [])

-- what the table has gained by a byte
abbrev pub GainsFed : List (List ℕ) → List (List ℕ) → Result Fed LexError → Type 0
GainsFed old new (Ok fed) = GainsNameOf old new (fed_tokens new fed)
GainsFed old new (Err (Fault fault)) = GainsNameOf old new (option_tokens new fault.before)
GainsFed old new (Err NoMemory) = KeepsTexts old new

-- what the table has gained by the end
abbrev pub GainsLeft : List (List ℕ) → List (List ℕ) → Result (Option Tok) LexError → Type 0
GainsLeft old new (Ok left) = GainsNameOf old new (option_tokens new left)
GainsLeft old new (Err e) = new ≡ old

-- how many bytes the lexer has taken
abbrev pub taken : Option LexerState → ℕ
taken None = 0
taken (Some p) = p.at

-- the names of the tokens that a byte gives are in the table
abbrev pub AllGivenInterned : List (List ℕ) → Result Fed LexError → Type 0
AllGivenInterned texts (Ok fed) = IsInterned texts fed.first × IsInterned texts fed.second
AllGivenInterned texts (Err (Fault fault)) = IsInterned texts fault.before
AllGivenInterned texts (Err NoMemory) = Unit {0}

-- the step with tokens before its own
abbrev pub after_tokens : List Token → Step → Step
after_tokens tokens step = record { out = tokens ++ step.out; next = step.next }

-- the lexer is in this mode, with some text
abbrev pub IsInMode : (List ℕ → Mode) → Option LexerState → Type 0
IsInMode mode None = ⊥
IsInMode mode (Some p) = (text : List ℕ) × (p.mode ≡ mode text)

-- the lexer fails at this place
abbrev pub FailsAt : Code → ℕ → Option LexerState → Option LexerState → Type 0
FailsAt code at None new = Unit {0}
FailsAt code at (Some p) new = new ≡ Some (record { start = p.start; at = p.at; mode = Failed at code })

-- the token of a word, where it spells one
abbrev pub IsWordToken : List (List ℕ) → Option Tok → Option TokKind → List ℕ → ℕ → Type 0
IsWordToken texts None None name at = Unit {0}
IsWordToken texts (Some tok) (Some kind) name at =
    (token_of texts tok ≡ record { kind = kind; name = name; at = at }) × (tok.name < length texts)
IsWordToken texts None (Some kind) name at = ⊥
IsWordToken texts (Some tok) None name at = ⊥

-- the lexer has failed with this place and code
abbrev pub HasFailed : ℕ → Code → Option LexerState → Type 0
HasFailed place code None = ⊥
HasFailed place code (Some p) = p.mode ≡ Failed place code

-- a call that takes the end does this
abbrev pub IsEnding : List (List ℕ) → End → Option LexerState → Result (Option Tok) LexError → Type 0
IsEnding texts (Ended left) new (Ok tok) = (option_tokens texts tok ≡ left) × IsInterned texts tok
IsEnding texts (Ended left) new (Err (Fault fault)) = ⊥
IsEnding texts (Faulty place code) new (Ok tok) = ⊥
IsEnding texts (Faulty place code) new (Err (Fault fault)) =
    (fault ≡ record { place = record { code = code; at = place }; before = None }) × HasFailed place code new
IsEnding texts end new (Err NoMemory) = new ≡ None

-- a lexer has taken these bytes, and these tokens are complete
abbrev pub HasRead : List ℕ → List Token → Option LexerState → Type 0
HasRead bytes tokens None = ⊥
HasRead bytes tokens (Some p) = IsStateAfter bytes tokens p

-- by this byte the lexer has read one more, and these tokens more are complete
abbrev pub ReadsByte : Option LexerState → ℕ → List Token → Option LexerState → Type 0
ReadsByte old byte given new = (bytes : List ℕ) (tokens : List Token) → HasRead bytes tokens old
    → HasRead (bytes ++ byte ∷ []) (tokens ++ given) new

-- by this byte the bytes show this fault, and these tokens more are complete before it
abbrev pub FaultsAtByte : Option LexerState → ℕ → List Token → Place → Type 0
FaultsAtByte old byte given place = (bytes : List ℕ) (tokens : List Token) → HasRead bytes tokens old
    → ShowsFault (bytes ++ byte ∷ []) (tokens ++ given) false place.at place.code

-- with this byte the bytes are viable where it was taken, and are not where it shows a fault
abbrev pub DecidesViable : Option LexerState → ℕ → Result Fed LexError → Type 0
DecidesViable old byte (Ok fed) = (bytes : List ℕ) (tokens : List Token) → HasRead bytes tokens old
    → Viable (bytes ++ byte ∷ [])
DecidesViable old byte (Err (Fault fault)) = (bytes : List ℕ) (tokens : List Token)
    → HasRead bytes tokens old → Viable (bytes ++ byte ∷ []) → ⊥
DecidesViable old byte (Err NoMemory) = Unit {0}

-- the bytes that the lexer has read are the tokens given so far and these
abbrev pub LexesAtEnd : Option LexerState → List Token → Type 0
LexesAtEnd old left = (bytes : List ℕ) (tokens : List Token) → HasRead bytes tokens old
    → Lexes bytes (tokens ++ left)

-- the bytes that the lexer has read show this fault at their end
abbrev pub FaultsAtEnd : Option LexerState → Place → Type 0
FaultsAtEnd old place = (bytes : List ℕ) (tokens : List Token) → HasRead bytes tokens old
    → ShowsFault bytes tokens true place.at place.code

-- each later call answers this error, with no token before it
abbrev pub AnswersOnly : LexError → Option LexerState → Type 0
AnswersOnly (Fault fault) lexer = HasFailed fault.place.at fault.place.code lexer
AnswersOnly NoMemory lexer = lexer ≡ None

-- the fact holds where the error is a fault
abbrev pub IfFault : LexError → (LexFault → Type 0) → Type 0
IfFault (Fault fault) P = P fault
IfFault NoMemory P = Unit {0}

-- the error with no token before it
abbrev pub without_token : LexError → LexError
without_token (Fault fault) = Fault (record { place = fault.place; before = None })
without_token NoMemory = NoMemory

-- the lexer has taken these bytes and given these tokens, whose names are in the table
pub record HasLexed (texts : List (List ℕ)) (bytes : List ℕ) (toks : List Tok)
    (lexer : Option LexerState) : Type 0 where
  pub read : HasRead bytes (map (token_of texts) toks) lexer
  pub interned : AllInterned texts toks
