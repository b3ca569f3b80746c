-- What each token of a text adds to a table of names.
use Rattle.std.proofs.Common.{◌≡◌, ℕ, Bool, List, [], ◌∷◌, ◌++◌, Option, Some, None, refl, sym, subst}
use Rattle.lex_core.specs.Faults.{AtByte, AtEnd, FaultsAt, Inside, Outside, ShowsFault}
use Rattle.lex_core.specs.Lexeme.{AreLexemes, CloseParen, Comment, Lexeme, Lexes, OpenParen, QuotedSymbol, StringLiteral, WhiteSpace, Word as WordLexeme, lexeme_tokens}
use Rattle.lex_core.specs.LexerCalls.{HasRead}
use Rattle.lex_core.specs.LexerSteps.{LexerState}
use Rattle.lex_core.specs.NameTable.{BeginsFixed, with_text}
use Rattle.lex_core.specs.Spelling.{WordSpells}
use Rattle.lex_core.specs.Token.{Token}
use Rattle.lex_core.specs.declared.token.TokKind.{TokKind}
use Rattle.lex_core.specs.declared.token.TokKind.TheVariants as kind
use Rattle.sig_table.specs.declared.code.Code.{Code}
use Rattle.script_core.proofs.NameTables.{AddNames, AddsName}

-- the empty text is in every table
empty_known : (texts : List (List ℕ)) → BeginsFixed texts → texts ≡ with_text texts []
empty_known [] h = cc
empty_known (t ∷ texts) h = let first : t ≡ [] = cc in rw first refl

word_adds : (k : TokKind) (bs : List ℕ) (at : ℕ) → WordSpells k bs → AddsName (record { kind = k; name = bs; at = at })
word_adds kind.Open bs at h = absurd h
word_adds kind.Close bs at h = absurd h
word_adds kind.Numeral bs at h = λ texts f. refl
word_adds kind.Decimal bs at h = λ texts f. refl
word_adds kind.Hexadecimal bs at h = λ texts f. refl
word_adds kind.Binary bs at h = λ texts f. refl
word_adds kind.Str bs at h = λ texts f. refl
word_adds kind.Symbol bs at h = λ texts f. refl
word_adds kind.Reserved bs at h = λ texts f. refl
word_adds kind.Keyword bs at h = λ texts f. refl

add_one : (ts : List Token) (t : Token) → AddNames ts → AddsName t → AddNames (ts ++ t ∷ [])
add_one [] t h k = (k, tt)
add_one (u ∷ ts) t h k = (h.0, add_one ts t h.1 k)

pub lexemes_add : (ps : List Lexeme) → AreLexemes ps → AddNames (lexeme_tokens ps)
lexemes_add [] h = tt
lexemes_add (WhiteSpace b ∷ ps) h = lexemes_add ps h.2
lexemes_add (Comment bs ∷ ps) h = lexemes_add ps h.2
lexemes_add (OpenParen ∷ ps) h = add_one (lexeme_tokens ps) _ (lexemes_add ps h.2) empty_known
lexemes_add (CloseParen ∷ ps) h = add_one (lexeme_tokens ps) _ (lexemes_add ps h.2) empty_known
lexemes_add (WordLexeme k bs ∷ ps) h = add_one (lexeme_tokens ps) _ (lexemes_add ps h.2) (word_adds k bs _ h.0)
lexemes_add (StringLiteral name ∷ ps) h = add_one (lexeme_tokens ps) _ (lexemes_add ps h.2) (λ texts f. refl)
lexemes_add (QuotedSymbol name ∷ ps) h = add_one (lexeme_tokens ps) _ (lexemes_add ps h.2) (λ texts f. refl)

pub read_adds : (bytes : List ℕ) (tokens : List Token) (lexer : Option LexerState) → HasRead bytes tokens lexer → AddNames tokens
read_adds bytes tokens None h = absurd h
read_adds bytes tokens (Some p) h = subst AddNames (sym h.in_order) (lexemes_add h.lexemes h.segmentation.whole)

faults_add : (front : List ℕ) (b : ℕ) (tokens : List Token) (at : ℕ) (code : Code) → FaultsAt front b tokens at code → AddNames tokens
faults_add front b tokens at code (Outside ps are e last begins is here rule) = subst AddNames (sym is) (lexemes_add ps are)
faults_add front b tokens at code (Inside ps partial segmentation is fault) = subst AddNames (sym is) (lexemes_add ps segmentation.whole)

pub shown_add : (bytes : List ℕ) (tokens : List Token) (ended : Bool) (at : ℕ) (code : Code) → ShowsFault bytes tokens ended at code → AddNames tokens
shown_add bytes tokens ended at code (AtByte front b more e out faults) = faults_add front b tokens at code faults
shown_add bytes tokens ended at code (AtEnd ps partial segmentation is fault) = subst AddNames (sym is) (lexemes_add ps segmentation.whole)

pub lexed_add : (bytes : List ℕ) (tokens : List Token) → Lexes bytes tokens → AddNames tokens
lexed_add bytes tokens l = subst AddNames (sym l.in_order) (lexemes_add l.lexemes l.whole)
