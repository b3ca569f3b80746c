-- Each token of a text is spelled at its place.
use Rattle.std.proofs.Common.{ℕ, List, [], ◌∷◌, ◌++◌, length, refl, sym, ◌∙◌, ap, append_assoc, append-nil, Option, Some, None, inl, inr}
use Rattle.lex_core.specs.Lexeme.{AllStandIn, AreLexemes, CloseParen, Comment, Lexeme, Lexes, OpenParen, QuotedSymbol, Spells, StandsIn, StringLiteral, WhiteSpace, Word, joined_text, lexeme_tokens, quotes_doubled}
use Rattle.lex_core.specs.LexerCalls.{HasRead}
use Rattle.lex_core.specs.LexerSteps.{LexerState}
use Rattle.lex_core.specs.Segmentation.{partial_text}
use Rattle.lex_core.specs.Spelling.{WordSpells}
use Rattle.lex_core.specs.Token.{Token}
use Rattle.lex_core.specs.declared.token.TokKind.{TokKind}
use Rattle.lex_core.specs.declared.token.TokKind.TheVariants.{Binary, Close, Decimal, Hexadecimal, Keyword, Numeral, Open, Reserved, Str, Symbol}

word_spelled : (kind : TokKind) (bs : List ℕ) → WordSpells kind bs → Spells kind bs bs
word_spelled Numeral bs h = (h, refl)
word_spelled Decimal bs h = (h, refl)
word_spelled Hexadecimal bs h = (h, refl)
word_spelled Binary bs h = (h, refl)
word_spelled Reserved bs h = (h, refl)
word_spelled Keyword bs h = (h, refl)
word_spelled Symbol bs h = inl (h, refl)
word_spelled Open bs h = absurd h
word_spelled Close bs h = absurd h
word_spelled Str bs h = absurd h

-- a longer text
stands_more : (bytes more : List ℕ) (token : Token) → StandsIn bytes token → StandsIn (bytes ++ more) token
stands_more bytes more token s = record {
  front = s.front;
  spelling = s.spelling;
  more = s.more ++ more;
  split = ap (λ xs. xs ++ more) s.split ∙ append_assoc s.front (s.spelling ++ s.more) more ∙ ap (λ xs. s.front ++ xs) (append_assoc s.spelling s.more more);
  place = s.place;
  spelled = s.spelled;
}

all_more : (bytes more : List ℕ) (tokens : List Token) → AllStandIn bytes tokens → AllStandIn (bytes ++ more) tokens
all_more bytes more [] s = tt
all_more bytes more (token ∷ tokens) s = (stands_more bytes more token s.0, all_more bytes more tokens s.1)

all_push_token : (bytes : List ℕ) (tokens : List Token) (token : Token) → AllStandIn bytes tokens → StandsIn bytes token → AllStandIn bytes (tokens ++ token ∷ [])
all_push_token bytes [] token s k = (k, tt)
all_push_token bytes (t ∷ tokens) token s k = (s.0, all_push_token bytes tokens token s.1 k)

-- the last lexeme is a token
last_stands : (ps : List Lexeme) (kind : TokKind) (name spelling : List ℕ) → AllStandIn (joined_text ps) (lexeme_tokens ps) → Spells kind name spelling
    → AllStandIn (joined_text ps ++ spelling) (lexeme_tokens ps ++ record { kind = kind; name = name; at = length (joined_text ps) } ∷ [])
last_stands ps kind name spelling s h =
    all_push_token (joined_text ps ++ spelling) (lexeme_tokens ps) (record { kind = kind; name = name; at = length (joined_text ps) })
    (all_more (joined_text ps) spelling (lexeme_tokens ps) s)
    (record { front = joined_text ps; spelling = spelling; more = []; split = ap (λ xs. joined_text ps ++ xs) (sym (append-nil spelling)); place = refl; spelled = h })

lexemes_stand : (ps : List Lexeme) → AreLexemes ps → AllStandIn (joined_text ps) (lexeme_tokens ps)
lexemes_stand [] w = tt
lexemes_stand (WhiteSpace b ∷ ps) w = all_more (joined_text ps) (b ∷ []) (lexeme_tokens ps) (lexemes_stand ps w.2)
lexemes_stand (Comment bs ∷ ps) w = all_more (joined_text ps) (59 ∷ bs) (lexeme_tokens ps) (lexemes_stand ps w.2)
lexemes_stand (OpenParen ∷ ps) w = last_stands ps Open [] (40 ∷ []) (lexemes_stand ps w.2) (refl, refl)
lexemes_stand (CloseParen ∷ ps) w = last_stands ps Close [] (41 ∷ []) (lexemes_stand ps w.2) (refl, refl)
lexemes_stand (Word kind bs ∷ ps) w = last_stands ps kind bs bs (lexemes_stand ps w.2) (word_spelled kind bs w.0)
lexemes_stand (StringLiteral name ∷ ps) w = last_stands ps Str name (34 ∷ (quotes_doubled name ++ 34 ∷ [])) (lexemes_stand ps w.2) (w.0, refl)
lexemes_stand (QuotedSymbol name ∷ ps) w = last_stands ps Symbol name (124 ∷ (name ++ 124 ∷ [])) (lexemes_stand ps w.2) (inr (w.0, refl))

pub lexed_stand : (bytes : List ℕ) (tokens : List Token) → Lexes bytes tokens → AllStandIn bytes tokens
lexed_stand bytes tokens l = rw (l.spelled, l.in_order) (lexemes_stand l.lexemes l.whole)

-- so are those that a lexer has given so far
pub read_stand : (bytes : List ℕ) (tokens : List Token) (lexer : Option LexerState) → HasRead bytes tokens lexer → AllStandIn bytes tokens
read_stand bytes tokens None r = absurd r
read_stand bytes tokens (Some p) r =
    rw (r.segmentation.spelled, r.in_order)
    (all_more (joined_text r.lexemes) (partial_text r.partial) (lexeme_tokens r.lexemes) (lexemes_stand r.lexemes r.segmentation.whole))
