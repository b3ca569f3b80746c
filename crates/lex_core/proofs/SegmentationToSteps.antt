-- The lexer reads what the lexemes of a segmentation spell.
use Rattle.std.proofs.Common.{◌≡◌, ℕ, ◌+◌, Bool, true, false, ◌==◌, ◌&&◌, ◌||◌, not, List, [], ◌∷◌, ◌++◌, ◌⊎◌, length, refl, sym, ◌∙◌, ap, subst, arith, append_assoc, append-nil, length-append, inl, inr}
use Rattle.std.specs.List.{list_all}
use Rattle.std.proofs.lemmas.Bool.{cond_both, and_parts, or_cases, eqb-true, cond-false, not-true}
use Rattle.lex_core.proofs.WordClassSpelling.{class_spells, class_unfinished, spells_live}
use Rattle.lex_core.specs.Bytes.{is_binary_digit, is_digit, is_hex_digit, is_letter, is_line_end, is_symbol_byte, is_symbol_mark, is_text_byte, is_white_space, is_word_byte}
use Rattle.lex_core.specs.Lexeme.{AreLexemes, CloseParen, Comment, Lexeme, OpenParen, QuotedSymbol, StringLiteral, WhiteSpace, Word, is_quoted_byte, joined_text, last_complete, lexeme_text, lexeme_tokens, quotes_doubled}
use Rattle.lex_core.specs.LexerSteps.{AfterQuote, Between, Configuration, InComment, InQuotedSymbol, InString, InWord, Mode, Step, after_bytes, after_step, after_word, begin_lexeme, continues, emits, initial, mode_of, step, step_in}
use Rattle.lex_core.specs.Segmentation.{ClosedString, IsPartialLexeme, NoLexeme, PartialComment, PartialLexeme, PartialQuotedSymbol, PartialString, PartialWord, partial_text}
use Rattle.lex_core.specs.Token.{Token}
use Rattle.lex_core.specs.WordClasses.{class_from, is_live, next_class}
use Rattle.lex_core.specs.declared.token.TokKind.{TokKind}
use Rattle.lex_core.specs.declared.token.TokKind.TheVariants.{Close, Open, Str}
use Rattle.lex_core.specs.declared.word.WordClass.{WordClass}
use Rattle.lex_core.specs.declared.word.WordClass.TheVariants.{BinaryDigits, BinaryPrefix, Colon, DecimalPoint, Digits, Empty, Fraction, Hash, HexDigits, HexPrefix, Invalid, KeywordBytes, SymbolBytes, Zero}

pub after_bytes-append : (r : Configuration) (xs ys : List ℕ) → after_bytes r (xs ++ ys) ≡ after_bytes (after_bytes r xs) ys
after_bytes-append r [] ys = refl
after_bytes-append r (x ∷ xs) ys = after_bytes-append (after_step r.given (step r.state x)) xs ys

-- the lexer in a state
abbrev pub configuration : List Token → ℕ → ℕ → Mode → Configuration
configuration given start at mode = record { given = given; state = record { start = start; at = at; mode = mode } }

-- a step that completes no token
step_without_token : (given : List Token) (start at : ℕ) (mode mode' : Mode) (b : ℕ) → step_in mode start at b ≡ continues start at mode' → after_step given (step_in mode start at b) ≡ configuration given start (at + 1) mode'
step_without_token given start at mode mode' b e = rw (e, append-nil) refl

-- which bytes may stand in a word
digit_symbol : (b : ℕ) → is_digit b ≡ true → is_symbol_byte b ≡ true
unfolding is_symbol_byte
digit_symbol b h = rw h refl

pub symbol_is_word_byte : (b : ℕ) → is_symbol_byte b ≡ true → is_word_byte b ≡ true
unfolding is_word_byte
symbol_is_word_byte b h = rw h refl

hex_symbol : (b : ℕ) → is_hex_digit b ≡ true → is_symbol_byte b ≡ true
unfolding is_symbol_byte is_hex_digit is_letter
hex_symbol b h = grind arith

bit_digit : (b : ℕ) → is_binary_digit b ≡ true → is_digit b ≡ true
unfolding is_binary_digit is_digit
bit_digit b h = grind arith

-- a byte that equals one of a set is in the set
same_in : (p : ℕ → Bool) (b k : ℕ) → (b == k) ≡ true → p k ≡ true → p b ≡ true
same_in p b k e h = ap p (eqb-true b k e) ∙ h

word_byte_at : (b k : ℕ) → (b == k) ≡ true → is_word_byte k ≡ true → is_word_byte b ≡ true
word_byte_at = same_in is_word_byte

-- a word becomes invalid, or goes on by a word byte
abbrev pub StaysLive : ℕ → WordClass → Type 0
StaysLive b class = (class ≡ Invalid) ⊎ ((is_live class ≡ true) × (is_word_byte b ≡ true))

pub class_step : (class : WordClass) (b : ℕ) → StaysLive b (next_class class b)
unfolding is_word_byte is_symbol_byte is_digit is_letter is_symbol_mark
class_step Empty b =
    cond_both (b == 48) _ _ (StaysLive b) (λ yes. inr (refl, word_byte_at b 48 yes refl)) λ _.
    cond_both (is_digit b) _ _ (StaysLive b) (λ yes. inr (refl, symbol_is_word_byte b (digit_symbol b yes))) λ _.
    cond_both (b == 35) _ _ (StaysLive b) (λ yes. inr (refl, word_byte_at b 35 yes refl)) λ _.
    cond_both (b == 58) _ _ (StaysLive b) (λ yes. inr (refl, word_byte_at b 58 yes refl)) λ _.
    cond_both (is_symbol_byte b) _ _ (StaysLive b) (λ yes. inr (refl, symbol_is_word_byte b yes)) λ _. inl refl
class_step Zero b = cond_both (b == 46) DecimalPoint Invalid (StaysLive b) (λ yes. inr (refl, word_byte_at b 46 yes refl)) λ _. inl refl
class_step Digits b =
    cond_both (is_digit b) _ _ (StaysLive b) (λ yes. inr (refl, symbol_is_word_byte b (digit_symbol b yes))) λ _.
    cond_both (b == 46) DecimalPoint Invalid (StaysLive b) (λ yes. inr (refl, word_byte_at b 46 yes refl)) λ _. inl refl
class_step DecimalPoint b = cond_both (is_digit b) Fraction Invalid (StaysLive b) (λ yes. inr (refl, symbol_is_word_byte b (digit_symbol b yes))) λ _. inl refl
class_step Fraction b = cond_both (is_digit b) Fraction Invalid (StaysLive b) (λ yes. inr (refl, symbol_is_word_byte b (digit_symbol b yes))) λ _. inl refl
class_step Hash b =
    cond_both (b == 120) _ _ (StaysLive b) (λ yes. inr (refl, word_byte_at b 120 yes refl)) λ _.
    cond_both (b == 98) BinaryPrefix Invalid (StaysLive b) (λ yes. inr (refl, word_byte_at b 98 yes refl)) λ _. inl refl
class_step HexPrefix b = cond_both (is_hex_digit b) HexDigits Invalid (StaysLive b) (λ yes. inr (refl, symbol_is_word_byte b (hex_symbol b yes))) λ _. inl refl
class_step HexDigits b = cond_both (is_hex_digit b) HexDigits Invalid (StaysLive b) (λ yes. inr (refl, symbol_is_word_byte b (hex_symbol b yes))) λ _. inl refl
class_step BinaryPrefix b = cond_both (is_binary_digit b) BinaryDigits Invalid (StaysLive b) (λ yes. inr (refl, symbol_is_word_byte b (digit_symbol b (bit_digit b yes)))) λ _. inl refl
class_step BinaryDigits b = cond_both (is_binary_digit b) BinaryDigits Invalid (StaysLive b) (λ yes. inr (refl, symbol_is_word_byte b (digit_symbol b (bit_digit b yes)))) λ _. inl refl
class_step SymbolBytes b = cond_both (is_symbol_byte b) SymbolBytes Invalid (StaysLive b) (λ yes. inr (refl, symbol_is_word_byte b yes)) λ _. inl refl
class_step Colon b = cond_both (is_symbol_byte b) KeywordBytes Invalid (StaysLive b) (λ yes. inr (refl, symbol_is_word_byte b yes)) λ _. inl refl
class_step KeywordBytes b = cond_both (is_symbol_byte b) KeywordBytes Invalid (StaysLive b) (λ yes. inr (refl, symbol_is_word_byte b yes)) λ _. inl refl
class_step Invalid b = inl refl

invalid_stays : (bs : List ℕ) → class_from Invalid bs ≡ Invalid
invalid_stays [] = refl
invalid_stays (b ∷ bs) = invalid_stays bs

-- each byte of a word that is live at the end is a word byte
live_next : (class : WordClass) (b : ℕ) (more : List ℕ) → is_live (class_from (next_class class b) more) ≡ true → (is_live (next_class class b) ≡ true) × (is_word_byte b ≡ true)
live_next class b more h = elim (class_step class b) [
  | inl wrong ↦ (let k = rw (wrong, invalid_stays more) at h in cc)
  | inr ok ↦ ok
]

-- bytes in a comment
comment_bytes : (given : List Token) (start at : ℕ) (bs : List ℕ) → list_all (λ b. not (is_line_end b)) bs ≡ true → after_bytes (configuration given start at InComment) bs ≡ configuration given start (at + length bs) InComment
comment_bytes given start at [] h = ap (λ n. configuration given start n InComment) (omega arith)
comment_bytes given start at (b ∷ bs) h =
    let parts = and_parts (not (is_line_end b)) (list_all (λ b. not (is_line_end b)) bs) h in
    let no = not-true (is_line_end b) parts.0 in
    let here : (at + 1) + length bs ≡ at + length (b ∷ bs) = omega arith in
    rw (step_without_token given start at InComment InComment b (rw no refl)) (comment_bytes given start (at + 1) bs parts.1 ∙ ap (λ n. configuration given start n InComment) here)

-- bytes of a word
word_bytes : (given : List Token) (start at : ℕ) (class : WordClass) (bs more : List ℕ) → is_live (class_from class more) ≡ true
    → after_bytes (configuration given start at (InWord class bs)) more ≡ configuration given start (at + length more) (InWord (class_from class more) (bs ++ more))
word_bytes given start at class bs [] h = rw append-nil (ap (λ n. configuration given start n (InWord class bs)) (omega arith))
word_bytes given start at class bs (b ∷ more) h =
    let ok = live_next class b more h in
    let here : (at + 1) + length more ≡ at + length (b ∷ more) = omega arith in
    rw (step_without_token given start at (InWord class bs) (InWord (next_class class b) (bs ++ b ∷ [])) b (rw (ok.1, ok.0) refl))
    (word_bytes given start (at + 1) (next_class class b) (bs ++ b ∷ []) more h
    ∙ ap (λ n. configuration given start n (InWord (class_from (next_class class b) more) ((bs ++ b ∷ []) ++ more))) here
    ∙ ap (λ xs. configuration given start (at + length (b ∷ more)) (InWord (class_from (next_class class b) more) xs)) (append_assoc bs (b ∷ []) more))

-- the name of a string literal, with its quotes doubled
string_bytes : (given : List Token) (start at : ℕ) (name more : List ℕ) → list_all is_text_byte more ≡ true
    → after_bytes (configuration given start at (InString name)) (quotes_doubled more) ≡ configuration given start (at + length (quotes_doubled more)) (InString (name ++ more))
string_bytes given start at name [] h = rw append-nil (ap (λ n. configuration given start n (InString name)) (omega arith))
string_bytes given start at name (b ∷ more) h =
    let parts = and_parts (is_text_byte b) (list_all is_text_byte more) h in
    let goal : List ℕ → Type 0 = λ xs. after_bytes (configuration given start at (InString name)) xs ≡ configuration given start (at + length xs) (InString (name ++ b ∷ more)) in
    cond_both (b == 34) (34 ∷ 34 ∷ quotes_doubled more) (b ∷ quotes_doubled more) goal
    (λ yes.
    let here : (at + 1 + 1) + length (quotes_doubled more) ≡ at + length (34 ∷ 34 ∷ quotes_doubled more) = omega arith in
    ap (λ g. after_bytes (configuration g start (at + 1 + 1) (InString (name ++ 34 ∷ []))) (quotes_doubled more)) (append-nil (given ++ []) ∙ append-nil given)
    ∙ (string_bytes given start (at + 1 + 1) (name ++ 34 ∷ []) more parts.1
    ∙ ap (λ n. configuration given start n (InString ((name ++ 34 ∷ []) ++ more))) here
    ∙ ap (λ xs. configuration given start (at + length (34 ∷ 34 ∷ quotes_doubled more)) (InString xs)) (append_assoc name (34 ∷ []) more ∙ ap (λ x. name ++ x ∷ more) (sym (eqb-true b 34 yes)))))
    (λ no.
    let here : (at + 1) + length (quotes_doubled more) ≡ at + length (b ∷ quotes_doubled more) = omega arith in
    ap (λ r. after_bytes r (quotes_doubled more)) (step_without_token given start at (InString name) (InString (name ++ b ∷ [])) b (rw (no, parts.0) refl))
    ∙ (string_bytes given start (at + 1) (name ++ b ∷ []) more parts.1
    ∙ ap (λ n. configuration given start n (InString ((name ++ b ∷ []) ++ more))) here
    ∙ ap (λ xs. configuration given start (at + length (b ∷ quotes_doubled more)) (InString xs)) (append_assoc name (b ∷ []) more)))

-- the name of a quoted symbol
quoted_symbol_bytes : (given : List Token) (start at : ℕ) (name more : List ℕ) → list_all is_quoted_byte more ≡ true
    → after_bytes (configuration given start at (InQuotedSymbol name)) more ≡ configuration given start (at + length more) (InQuotedSymbol (name ++ more))
quoted_symbol_bytes given start at name [] h = rw append-nil (ap (λ n. configuration given start n (InQuotedSymbol name)) (omega arith))
quoted_symbol_bytes given start at name (b ∷ more) h =
    let parts = and_parts (is_quoted_byte b) (list_all is_quoted_byte more) h in
    let first = and_parts (not (b == 124)) (not (b == 92) && is_text_byte b) parts.0 in
    let second = and_parts (not (b == 92)) (is_text_byte b) first.1 in
    let here : (at + 1) + length more ≡ at + length (b ∷ more) = omega arith in
    rw (step_without_token given start at (InQuotedSymbol name) (InQuotedSymbol (name ++ b ∷ [])) b (rw (not-true (b == 124) first.0, not-true (b == 92) second.0, second.1) refl))
    (quoted_symbol_bytes given start (at + 1) (name ++ b ∷ []) more parts.1
    ∙ ap (λ n. configuration given start n (InQuotedSymbol ((name ++ b ∷ []) ++ more))) here
    ∙ ap (λ xs. configuration given start (at + length (b ∷ more)) (InQuotedSymbol xs)) (append_assoc name (b ∷ []) more))

-- how each lexeme begins
pub begin_comment : (at : ℕ) → begin_lexeme at 59 ≡ continues at at InComment
unfolding is_word_byte is_white_space is_symbol_byte is_digit is_letter is_symbol_mark
begin_comment at = refl

pub begin_string : (at : ℕ) → begin_lexeme at 34 ≡ continues at at (InString [])
unfolding is_word_byte is_white_space is_symbol_byte is_digit is_letter is_symbol_mark
begin_string at = refl

pub begin_quoted_symbol : (at : ℕ) → begin_lexeme at 124 ≡ continues at at (InQuotedSymbol [])
unfolding is_word_byte is_white_space is_symbol_byte is_digit is_letter is_symbol_mark
begin_quoted_symbol at = refl

pub begin_open : (at : ℕ) → begin_lexeme at 40 ≡ emits Open [] at (continues (at + 1) at Between)
unfolding is_word_byte is_white_space is_symbol_byte is_digit is_letter is_symbol_mark
begin_open at = refl

pub begin_close : (at : ℕ) → begin_lexeme at 41 ≡ emits Close [] at (continues (at + 1) at Between)
unfolding is_word_byte is_white_space is_symbol_byte is_digit is_letter is_symbol_mark
begin_close at = refl

white_is_no_word_byte : (b : ℕ) → is_white_space b ≡ true → is_word_byte b ≡ false
unfolding is_word_byte is_white_space is_symbol_byte is_digit is_letter is_symbol_mark
white_is_no_word_byte b h =
    let out : (k : ℕ) → (b == k) ≡ true → is_word_byte k ≡ false → is_word_byte b ≡ false = λ k e no. ap is_word_byte (eqb-true b k e) ∙ no in
    elim (or_cases ((b == 9) || (b == 10) || (b == 13)) (b == 32) h) [
      | inl h3 ↦ elim (or_cases ((b == 9) || (b == 10)) (b == 13) h3) [
        | inl h2 ↦ elim (or_cases (b == 9) (b == 10) h2) [ inl e ↦ out 9 e refl | inr e ↦ out 10 e refl ]
        | inr e ↦ out 13 e refl
      ]
      | inr e ↦ out 32 e refl
    ]

pub begin_white : (at b : ℕ) → is_white_space b ≡ true → begin_lexeme at b ≡ continues (at + 1) at Between
begin_white at b h = rw (white_is_no_word_byte b h, h) refl

pub begin_word : (at b : ℕ) → is_word_byte b ≡ true → begin_lexeme at b ≡ continues at at (InWord (next_class Empty b) (b ∷ []))
begin_word at b h = rw h refl

pub partial_live : (bs : List ℕ) → IsPartialLexeme (PartialWord bs) → is_live (class_from Empty bs) ≡ true
partial_live bs (inl h) = spells_live h.0 bs h.1
partial_live bs (inr h) = (class_unfinished bs h).0

-- the first byte of a lexeme, and the others
abbrev tail : List ℕ → List ℕ
tail [] = []
tail (b ∷ bs) = bs

abbrev head : List ℕ → ℕ
head [] = 0
head (b ∷ bs) = b

abbrev pub IsSome' : PartialLexeme → Type 0
IsSome' NoLexeme = ⊥
IsSome' partial = Unit {0}

pub partial_bytes : (given : List Token) (at : ℕ) (partial : PartialLexeme) → IsPartialLexeme partial → IsSome' partial
    → after_bytes (after_step given (begin_lexeme at (head (partial_text partial)))) (tail (partial_text partial)) ≡ configuration given at (at + length (partial_text partial)) (mode_of partial)
partial_bytes given at NoLexeme h s = absurd s
partial_bytes given at (PartialComment bs) h s =
    let here : (at + 1) + length bs ≡ at + length (59 ∷ bs) = omega arith in
    rw (begin_comment at, append-nil) (comment_bytes given at (at + 1) bs h ∙ ap (λ n. configuration given at n InComment) here)
partial_bytes given at (PartialWord []) h s = let k = partial_live [] h in cc
partial_bytes given at (PartialWord (b ∷ bs)) h s =
    let live = partial_live (b ∷ bs) h in
    let ok = live_next Empty b bs live in
    let here : (at + 1) + length bs ≡ at + length (b ∷ bs) = omega arith in
    rw (begin_word at b ok.1, append-nil) (word_bytes given at (at + 1) (next_class Empty b) (b ∷ []) bs live ∙ ap (λ n. configuration given at n (InWord (class_from Empty (b ∷ bs)) (b ∷ bs))) here)
partial_bytes given at (PartialString name) h s =
    let here : (at + 1) + length (quotes_doubled name) ≡ at + length (34 ∷ quotes_doubled name) = omega arith in
    rw (begin_string at, append-nil) (string_bytes given at (at + 1) [] name h ∙ ap (λ n. configuration given at n (InString name)) here)
partial_bytes given at (ClosedString name) h s =
    let here : (at + 1) + length (quotes_doubled name) + 1 ≡ at + length (34 ∷ (quotes_doubled name ++ 34 ∷ [])) = omega (arith, length-append (quotes_doubled name) (34 ∷ [])) in
    rw (begin_string at, append-nil, after_bytes-append (configuration given at (at + 1) (InString [])) (quotes_doubled name) (34 ∷ []), string_bytes given at (at + 1) [] name h)
    (step_without_token given at ((at + 1) + length (quotes_doubled name)) (InString name) (AfterQuote name) 34 refl ∙ ap (λ n. configuration given at n (AfterQuote name)) here)
partial_bytes given at (PartialQuotedSymbol name) h s =
    let here : (at + 1) + length name ≡ at + length (124 ∷ name) = omega arith in
    rw (begin_quoted_symbol at, append-nil) (quoted_symbol_bytes given at (at + 1) [] name h ∙ ap (λ n. configuration given at n (InQuotedSymbol name)) here)

-- the configuration after these lexemes
abbrev pub configuration_after : List Lexeme → Configuration
configuration_after [] = initial
configuration_after (WhiteSpace b ∷ ps) = configuration (lexeme_tokens ps) (length (joined_text ps ++ b ∷ [])) (length (joined_text ps ++ b ∷ [])) Between
configuration_after (Comment bs ∷ ps) = configuration (lexeme_tokens ps) (length (joined_text ps)) (length (joined_text ps ++ 59 ∷ bs)) InComment
configuration_after (OpenParen ∷ ps) = configuration (lexeme_tokens (OpenParen ∷ ps)) (length (joined_text ps ++ 40 ∷ [])) (length (joined_text ps ++ 40 ∷ [])) Between
configuration_after (CloseParen ∷ ps) = configuration (lexeme_tokens (CloseParen ∷ ps)) (length (joined_text ps ++ 41 ∷ [])) (length (joined_text ps ++ 41 ∷ [])) Between
configuration_after (Word kind bs ∷ ps) = configuration (lexeme_tokens ps) (length (joined_text ps)) (length (joined_text ps ++ bs)) (InWord (class_from Empty bs) bs)
configuration_after (StringLiteral name ∷ ps) = configuration (lexeme_tokens ps) (length (joined_text ps)) (length (joined_text ps ++ 34 ∷ (quotes_doubled name ++ 34 ∷ []))) (AfterQuote name)
configuration_after (QuotedSymbol name ∷ ps) = configuration (lexeme_tokens (QuotedSymbol name ∷ ps)) (length (joined_text ps ++ 124 ∷ (name ++ 124 ∷ []))) (length (joined_text ps ++ 124 ∷ (name ++ 124 ∷ []))) Between

-- a token given, and then a step
after_emits : (given : List Token) (kind : TokKind) (name : List ℕ) (start : ℕ) (t : Step)
    → after_step given (emits kind name start t) ≡ after_step (given ++ record { kind = kind; name = name; at = start } ∷ []) t
after_emits given kind name start t =
    ap (λ g. record { given = g; state = t.next }) (sym (append_assoc given (record { kind = kind; name = name; at = start } ∷ []) t.out))

-- after whole lexemes, a byte that may follow begins a lexeme
pub step_begins : (ps : List Lexeme) (b : ℕ) (more : List ℕ) → AreLexemes ps → last_complete ps (b ∷ more) ≡ true
    → after_step (configuration_after ps).given (step (configuration_after ps).state b) ≡ after_step (lexeme_tokens ps) (begin_lexeme (length (joined_text ps)) b)
step_begins [] b more w h = refl
step_begins (WhiteSpace c ∷ ps) b more w h = refl
step_begins (Comment bs ∷ ps) b more w h = rw h refl
step_begins (OpenParen ∷ ps) b more w h = refl
step_begins (CloseParen ∷ ps) b more w h = refl
step_begins (Word kind bs ∷ ps) b more w h =
    let no = not-true (is_word_byte b) h in
    let at = length (joined_text ps ++ bs) in
    let step : step_in (InWord (class_from Empty bs) bs) (length (joined_text ps)) at b ≡ emits kind bs (length (joined_text ps)) (begin_lexeme at b) =
    cond-false (is_word_byte b) _ _ no ∙ ap (λ k. after_word k bs (length (joined_text ps)) at b) (class_spells kind bs w.0) in
    ap (after_step (lexeme_tokens ps)) step ∙ after_emits (lexeme_tokens ps) kind bs (length (joined_text ps)) (begin_lexeme at b)
step_begins (StringLiteral name ∷ ps) b more w h =
    let at = length (joined_text ps ++ 34 ∷ (quotes_doubled name ++ 34 ∷ [])) in
    let step : step_in (AfterQuote name) (length (joined_text ps)) at b ≡ emits Str name (length (joined_text ps)) (begin_lexeme at b) =
    cond-false (b == 34) _ _ (not-true (b == 34) h) in
    ap (after_step (lexeme_tokens ps)) step ∙ after_emits (lexeme_tokens ps) Str name (length (joined_text ps)) (begin_lexeme at b)
step_begins (QuotedSymbol name ∷ ps) b more w h = refl

-- lexemes, and then the beginning of one more
partial_after : (ps : List Lexeme) (partial : PartialLexeme) → AreLexemes ps → IsPartialLexeme partial → IsSome' partial → last_complete ps (partial_text partial) ≡ true
    → after_bytes (configuration_after ps) (partial_text partial) ≡ configuration (lexeme_tokens ps) (length (joined_text ps)) (length (joined_text ps ++ partial_text partial)) (mode_of partial)
partial_after ps NoLexeme w h s o = absurd s
partial_after ps (PartialWord []) w h s o = let k = partial_live [] h in cc
partial_after ps (PartialWord (b ∷ bs)) w h s o =
    ap (λ r. after_bytes r bs) (step_begins ps b bs w o)
    ∙ partial_bytes (lexeme_tokens ps) (length (joined_text ps)) (PartialWord (b ∷ bs)) h tt
    ∙ ap (λ n. configuration (lexeme_tokens ps) (length (joined_text ps)) n (mode_of (PartialWord (b ∷ bs)))) (sym (length-append (joined_text ps) (b ∷ bs)))
partial_after ps (PartialComment bs) w h s o =
    ap (λ r. after_bytes r bs) (step_begins ps 59 bs w o)
    ∙ partial_bytes (lexeme_tokens ps) (length (joined_text ps)) (PartialComment bs) h tt
    ∙ ap (λ n. configuration (lexeme_tokens ps) (length (joined_text ps)) n InComment) (sym (length-append (joined_text ps) (59 ∷ bs)))
partial_after ps (PartialString name) w h s o =
    ap (λ r. after_bytes r (quotes_doubled name)) (step_begins ps 34 (quotes_doubled name) w o)
    ∙ partial_bytes (lexeme_tokens ps) (length (joined_text ps)) (PartialString name) h tt
    ∙ ap (λ n. configuration (lexeme_tokens ps) (length (joined_text ps)) n (InString name)) (sym (length-append (joined_text ps) (34 ∷ quotes_doubled name)))
partial_after ps (ClosedString name) w h s o =
    ap (λ r. after_bytes r (quotes_doubled name ++ 34 ∷ [])) (step_begins ps 34 (quotes_doubled name ++ 34 ∷ []) w o)
    ∙ partial_bytes (lexeme_tokens ps) (length (joined_text ps)) (ClosedString name) h tt
    ∙ ap (λ n. configuration (lexeme_tokens ps) (length (joined_text ps)) n (AfterQuote name)) (sym (length-append (joined_text ps) (34 ∷ (quotes_doubled name ++ 34 ∷ []))))
partial_after ps (PartialQuotedSymbol name) w h s o =
    ap (λ r. after_bytes r name) (step_begins ps 124 name w o)
    ∙ partial_bytes (lexeme_tokens ps) (length (joined_text ps)) (PartialQuotedSymbol name) h tt
    ∙ ap (λ n. configuration (lexeme_tokens ps) (length (joined_text ps)) n (InQuotedSymbol name)) (sym (length-append (joined_text ps) (124 ∷ name)))

-- only the first byte that follows counts
pub complete_first : (ps : List Lexeme) (b : ℕ) (xs ys : List ℕ) → last_complete ps (b ∷ xs) ≡ last_complete ps (b ∷ ys)
complete_first [] b xs ys = refl
complete_first (WhiteSpace c ∷ ps) b xs ys = refl
complete_first (Comment bs ∷ ps) b xs ys = refl
complete_first (OpenParen ∷ ps) b xs ys = refl
complete_first (CloseParen ∷ ps) b xs ys = refl
complete_first (Word kind bs ∷ ps) b xs ys = refl
complete_first (StringLiteral name ∷ ps) b xs ys = refl
complete_first (QuotedSymbol name ∷ ps) b xs ys = refl

lexeme_bytes : (p : Lexeme) (ps : List Lexeme) → AreLexemes (p ∷ ps) → after_bytes (configuration_after ps) (lexeme_text p) ≡ configuration_after (p ∷ ps)
lexeme_bytes (WhiteSpace b) ps w =
    let n : length (joined_text ps) + 1 ≡ length (joined_text ps ++ b ∷ []) = sym (length-append (joined_text ps) (b ∷ [])) in
    step_begins ps b [] w.2 w.1 ∙ ap (after_step (lexeme_tokens ps)) (begin_white (length (joined_text ps)) b w.0)
    ∙ ap (λ g. configuration g (length (joined_text ps) + 1) (length (joined_text ps) + 1) Between) (append-nil (lexeme_tokens ps))
    ∙ ap (λ n. configuration (lexeme_tokens ps) n n Between) n
lexeme_bytes (Comment bs) ps w = partial_after ps (PartialComment bs) w.2 w.0 tt w.1
lexeme_bytes OpenParen ps w =
    let n : length (joined_text ps) + 1 ≡ length (joined_text ps ++ 40 ∷ []) = sym (length-append (joined_text ps) (40 ∷ [])) in
    step_begins ps 40 [] w.2 w.1 ∙ ap (after_step (lexeme_tokens ps)) (begin_open (length (joined_text ps)))
    ∙ ap (λ n. configuration (lexeme_tokens (OpenParen ∷ ps)) n n Between) n
lexeme_bytes CloseParen ps w =
    let n : length (joined_text ps) + 1 ≡ length (joined_text ps ++ 41 ∷ []) = sym (length-append (joined_text ps) (41 ∷ [])) in
    step_begins ps 41 [] w.2 w.1 ∙ ap (after_step (lexeme_tokens ps)) (begin_close (length (joined_text ps)))
    ∙ ap (λ n. configuration (lexeme_tokens (CloseParen ∷ ps)) n n Between) n
lexeme_bytes (Word kind bs) ps w = partial_after ps (PartialWord bs) w.2 (inl (kind, w.0)) tt w.1
lexeme_bytes (StringLiteral name) ps w = partial_after ps (ClosedString name) w.2 w.0 tt w.1
lexeme_bytes (QuotedSymbol name) ps w =
    let complete = complete_first ps 124 name (name ++ 124 ∷ []) ∙ w.1 in
    let here : length (joined_text ps ++ 124 ∷ name) + 1 ≡ length (joined_text ps ++ 124 ∷ (name ++ 124 ∷ [])) =
    omega (arith, length-append (joined_text ps) (124 ∷ name), length-append (joined_text ps) (124 ∷ (name ++ 124 ∷ [])), length-append name (124 ∷ [])) in
    after_bytes-append (configuration_after ps) (124 ∷ name) (124 ∷ [])
    ∙ ap (λ r. after_bytes r (124 ∷ [])) (partial_after ps (PartialQuotedSymbol name) w.2 w.0 tt complete)
    ∙ ap (λ n. configuration (lexeme_tokens (QuotedSymbol name ∷ ps)) n n Between) here

pub lexemes_bytes : (ps : List Lexeme) → AreLexemes ps → after_bytes initial (joined_text ps) ≡ configuration_after ps
lexemes_bytes [] w = refl
lexemes_bytes (p ∷ ps) w =
    after_bytes-append initial (joined_text ps) (lexeme_text p) ∙ ap (λ r. after_bytes r (lexeme_text p)) (lexemes_bytes ps w.2) ∙ lexeme_bytes p ps w

-- after lexemes that are complete where nothing follows, no lexeme is open
between_lexemes : (ps : List Lexeme) → last_complete ps [] ≡ true → configuration_after ps ≡ configuration (lexeme_tokens ps) (length (joined_text ps)) (length (joined_text ps)) Between
between_lexemes [] h = refl
between_lexemes (WhiteSpace b ∷ ps) h = refl
between_lexemes (Comment bs ∷ ps) h = cc
between_lexemes (OpenParen ∷ ps) h = refl
between_lexemes (CloseParen ∷ ps) h = refl
between_lexemes (Word kind bs ∷ ps) h = cc
between_lexemes (StringLiteral name ∷ ps) h = cc
between_lexemes (QuotedSymbol name ∷ ps) h = refl

-- no lexeme is open, or one is
cases_partial : (partial : PartialLexeme) → (partial ≡ NoLexeme) ⊎ IsSome' partial
cases_partial NoLexeme = inl refl
cases_partial (PartialComment bs) = inr tt
cases_partial (PartialWord bs) = inr tt
cases_partial (PartialString name) = inr tt
cases_partial (ClosedString name) = inr tt
cases_partial (PartialQuotedSymbol name) = inr tt

-- the configuration after bytes with a segmentation
pub segmentation_bytes : (ps : List Lexeme) (partial : PartialLexeme) → AreLexemes ps → IsPartialLexeme partial → last_complete ps (partial_text partial) ≡ true
    → after_bytes initial (joined_text ps ++ partial_text partial) ≡ configuration (lexeme_tokens ps) (length (joined_text ps)) (length (joined_text ps ++ partial_text partial)) (mode_of partial)
segmentation_bytes ps partial w h o = elim (cases_partial partial) [
  | inl e ↦ (let P : PartialLexeme → Type 0 = λ partial. last_complete ps (partial_text partial) ≡ true → after_bytes initial (joined_text ps ++ partial_text partial) ≡ configuration (lexeme_tokens ps) (length (joined_text ps)) (length (joined_text ps ++ partial_text partial)) (mode_of partial) in
      subst P (sym e) (λ o. rw append-nil (lexemes_bytes ps w ∙ between_lexemes ps o)) o)
  | inr some ↦ after_bytes-append initial (joined_text ps) (partial_text partial) ∙ ap (λ r. after_bytes r (partial_text partial)) (lexemes_bytes ps w) ∙ partial_after ps partial w h some o
]
