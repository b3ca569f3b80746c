-- The clauses of the calls, from the steps that they make.
use Rattle.std.proofs.Common.{◌≡◌, ℕ, ◌+◌, true, false, List, [], ◌∷◌, ◌++◌, length, refl, sym, ◌∙◌, ap, subst, arith, map, length-append, append-nil, append_assoc, Option, Some, None, Result, Ok, Err, IfSome, IfOk, IfErr, OnOk, get_or, ◌<◌, ◌==◌}
use Rattle.lex_core.specs.declared.lexer.State.TheVariants as state
use Rattle.std.proofs.lemmas.Bool.{cond_both}
use Rattle.std.proofs.lemmas.List.{map-append, get_or_append_left}
use Rattle.lex_core.proofs.LexingLaws.{end_lexes}
use Rattle.lex_core.proofs.StepFaults.{end_faults, fault_in_longer, step_faults, step_not_viable}
use Rattle.lex_core.proofs.StepsToSegmentation.{step_segmentation}
use Rattle.lex_core.specs.Bytes.{is_line_end, is_text_byte, is_white_space, is_word_byte}
use Rattle.lex_core.specs.Faults.{HasFaultAt, ShowsFault}
use Rattle.lex_core.specs.Lexeme.{Lexes}
use Rattle.lex_core.specs.LexerCalls.{AllGivenInterned, AnswersOnly, DecidesViable, ExtendsTable, HasLexed, HasRead, IfFault, IsEnding, IsInMode, IsStep, IsWordToken, KeepsTexts, after_tokens, mode_in, state_with, taken}
use Rattle.lex_core.specs.LexerSteps.{AfterQuote, Between, End, Ended, Failed, Faulty, InComment, InQuotedSymbol, InString, InWord, IsStateAfter, LexerState, Mode, Step, after_word, begin_lexeme, continues, end_of, is_running, step, step_in}
use Rattle.lex_core.specs.Segmentation.{Viable}
use Rattle.lex_core.specs.Spelling.{is_reserved}
use Rattle.lex_core.specs.Token.{AllInterned, IsInterned, Token, fed_tokens, option_items, option_tokens, token_of}
use Rattle.lex_core.specs.WordClasses.{is_live, kind_at, next_class}
use Rattle.lex_core.specs.declared.lexer.Fed.{Fed}
use Rattle.lex_core.specs.declared.lexer.LexError.{LexError}
use Rattle.lex_core.specs.declared.lexer.LexError.TheVariants.{Fault, NoMemory}
use Rattle.lex_core.specs.declared.lexer.LexFault.{LexFault}
use Rattle.lex_core.specs.declared.lexer.State.{State}
use Rattle.lex_core.specs.declared.token.Tok.{Tok}
use Rattle.lex_core.specs.declared.token.TokKind.{TokKind}
use Rattle.lex_core.specs.declared.token.TokKind.TheVariants.{Reserved, Symbol}
use Rattle.lex_core.specs.declared.word.WordClass.{WordClass}
use Rattle.lex_core.specs.declared.word.WordClass.TheVariants.{SymbolBytes}

-- a byte that begins a lexeme and completes no token after the one before it
pub begun_without_token : (texts : List (List ℕ)) (before : Option Tok) (old : Option LexerState) (mode : Option Mode) (start at start' b : ℕ) (mode' : Mode) (fed : Fed)
    → state_with mode start at ≡ old → begin_lexeme at b ≡ continues start' at mode' → is_running mode' ≡ true
    → fed_tokens texts fed ≡ option_tokens texts before ++ [] → IsInterned texts fed.first × IsInterned texts fed.second
    → IfSome old (λ p. IsStep texts (after_tokens (option_tokens texts before) (begin_lexeme p.at b)) (Some (record { start = start'; at = at + 1; mode = mode' })) (Ok fed))
begun_without_token texts before old None start at start' b mode' fed e begun going tokens interned = rw (← e) tt
begun_without_token texts before old (Some mode) start at start' b mode' fed e begun going tokens interned = rw (← e, begun) (refl, going, tokens, interned.0, interned.1)

pub reserved_is_word_token : (texts : List (List ℕ)) (id : ℕ) (text : List ℕ) (at : ℕ) → is_reserved text ≡ true → get_or texts id [] ≡ text → id < length texts
    → IsWordToken texts (Some (record { kind = Reserved; name = id; at = at })) (kind_at SymbolBytes text) text at
reserved_is_word_token texts id text at h here interned = rw h (ap (λ name. record { kind = Reserved; name = name; at = at }) here, interned)

pub symbol_is_word_token : (texts : List (List ℕ)) (id : ℕ) (text : List ℕ) (at : ℕ) → is_reserved text ≡ false → get_or texts id [] ≡ text → id < length texts
    → IsWordToken texts (Some (record { kind = Symbol; name = id; at = at })) (kind_at SymbolBytes text) text at
symbol_is_word_token texts id text at h here interned = rw h (ap (λ name. record { kind = Symbol; name = name; at = at }) here, interned)

-- a lexer in a word has the text of its fields
in_word_mode : (state : State) (text : List ℕ) (start at : ℕ) (old : Option LexerState) (class : WordClass) → state_with (mode_in state text) start at ≡ old → IsInMode (InWord class) old
    → old ≡ Some (record { start = start; at = at; mode = InWord class text })
in_word_mode state text start at None class e h = absurd h
in_word_mode state.Between text start at (Some p) class e h = cc
in_word_mode state.Comment text start at (Some p) class e h = cc
in_word_mode (state.Word c) text start at (Some p) class e h =
    let here : record { start = start; at = at; mode = InWord c text } ≡ p = cc in
    let mode : InWord c text ≡ InWord class h.0 = ap (λ q. q.mode) here ∙ h.1 in
    let same : c ≡ class = cc in
    sym e ∙ ap (λ k. Some (record { start = start; at = at; mode = InWord k text })) same
in_word_mode state.StringLiteral text start at (Some p) class e h = cc
in_word_mode state.AfterQuote text start at (Some p) class e h = cc
in_word_mode state.QuotedSymbol text start at (Some p) class e h = cc
in_word_mode (state.Failed place) text start at (Some p) class e h = cc
in_word_mode state.OutOfMemory text start at (Some p) class e h = cc

word_given : (texts : List (List ℕ)) (tok : Tok) (kind : Option TokKind) (text : List ℕ) (start at b : ℕ) (new : Option LexerState) (result : Result Fed LexError) → IsWordToken texts (Some tok) kind text start
    → IsStep texts (after_tokens (option_tokens texts (Some tok)) (begin_lexeme at b)) new result → IsStep texts (after_word kind text start at b) new result
word_given texts tok None text start at b new result token begun = absurd token
word_given texts tok (Some kind) text start at b new result token begun =
    subst (λ t. IsStep texts (after_tokens (t ∷ []) (begin_lexeme at b)) new result) token.0 begun

-- the token of a word, and then a byte that begins a lexeme
pub word_step : (texts : List (List ℕ)) (state : State) (text : List ℕ) (start at : ℕ) (old : Option LexerState) (class : WordClass) (tok : Tok) (b : ℕ) (new : Option LexerState) (result : Result Fed LexError)
    → state_with (mode_in state text) start at ≡ old → IsInMode (InWord class) old → is_word_byte b ≡ false → IsWordToken texts (Some tok) (kind_at class text) text start
    → IfSome old (λ p. IsStep texts (after_tokens (option_tokens texts (Some tok)) (begin_lexeme p.at b)) new result) → IfSome old (λ p. IsStep texts (step p b) new result)
word_step texts state text start at old class tok b new result e h out token begun =
    let here = in_word_mode state text start at old class e h in
    let next = begin_lexeme at b in
    let begun_at : IsStep texts (after_tokens (option_tokens texts (Some tok)) next) new result =
    subst (λ o. IfSome o (λ p. IsStep texts (after_tokens (option_tokens texts (Some tok)) (begin_lexeme p.at b)) new result)) here begun in
    subst (λ o. IfSome o (λ p. IsStep texts (step p b) new result)) (sym here)
    (rw out (word_given texts tok (kind_at class text) text start at b new result token begun_at))

-- the clauses of a byte
pub fed_has_read : (texts : List (List ℕ)) (old new : Option LexerState) (b : ℕ) (fed : Fed) → IfSome old (λ p. IsStep texts (step p b) new (Ok fed))
    → (bytes : List ℕ) (tokens : List Token) → HasRead bytes tokens old → HasRead (bytes ++ b ∷ []) (tokens ++ fed_tokens texts fed) new
fed_has_read texts None new b fed t bytes tokens r = absurd r
fed_has_read texts (Some p) new b fed t bytes tokens r =
    rw (t.0, t.2) (step_segmentation bytes tokens p b r t.1)

pub fed_fault : (texts : List (List ℕ)) (old new : Option LexerState) (b : ℕ) (fault : LexFault) → IfSome old (λ p. IsStep texts (step p b) new (Err (Fault fault)))
    → (bytes : List ℕ) (tokens : List Token) → HasRead bytes tokens old → ShowsFault (bytes ++ b ∷ []) (tokens ++ option_tokens texts fault.before) false fault.place.at fault.place.code
fed_fault texts None new b fault t bytes tokens r = absurd r
fed_fault texts (Some p) new b fault t bytes tokens r =
    rw (t.2) (step_faults bytes tokens p b fault.place.at fault.place.code r t.1 false)

pub feed_tokens : (texts : List (List ℕ)) (old new : Option LexerState) (b : ℕ) (result : Result Fed LexError) → IfSome old (λ p. IsStep texts (step p b) new result)
    → IfOk result (λ fed. (bytes : List ℕ) (tokens : List Token) → HasRead bytes tokens old → HasRead (bytes ++ b ∷ []) (tokens ++ fed_tokens texts fed) new)
feed_tokens texts old new b (Ok fed) t = fed_has_read texts old new b fed t
feed_tokens texts old new b (Err e) t = tt

pub feed_fault : (texts : List (List ℕ)) (old new : Option LexerState) (b : ℕ) (result : Result Fed LexError) → IfSome old (λ p. IsStep texts (step p b) new result)
    → IfErr result (λ e. IfFault e (λ fault. (bytes : List ℕ) (tokens : List Token) → HasRead bytes tokens old
    → ShowsFault (bytes ++ b ∷ []) (tokens ++ option_tokens texts fault.before) false fault.place.at fault.place.code))
feed_fault texts old new b (Ok fed) t = tt
feed_fault texts old new b (Err (Fault fault)) t = fed_fault texts old new b fault t
feed_fault texts old new b (Err NoMemory) t = tt

-- the end
left_tokens : (texts : List (List ℕ)) (p : LexerState) (end : End) (new : Option LexerState) (left : Option Tok) → end ≡ end_of p.mode p.start → IsEnding texts end new (Ok left)
    → (bytes : List ℕ) (tokens : List Token) → IsStateAfter bytes tokens p → Lexes bytes (tokens ++ option_tokens texts left)
left_tokens texts p (Ended ts) new left e f bytes tokens a = rw (f.0) (end_lexes bytes tokens ts p a (sym e))
left_tokens texts p (Faulty place code) new left e f bytes tokens a = absurd f

pub finish_lexes : (texts : List (List ℕ)) (old new : Option LexerState) (result : Result (Option Tok) LexError) → IfSome old (λ p. IsEnding texts (end_of p.mode p.start) new result)
    → IfOk result (λ left. (bytes : List ℕ) (tokens : List Token) → HasRead bytes tokens old → Lexes bytes (tokens ++ option_tokens texts left))
finish_lexes texts None new (Ok left) f = λ bytes tokens r. absurd r
finish_lexes texts (Some p) new (Ok left) f = λ bytes tokens r. left_tokens texts p (end_of p.mode p.start) new left refl f bytes tokens r
finish_lexes texts None new (Err e) f = tt
finish_lexes texts (Some p) new (Err e) f = tt

end_fault : (texts : List (List ℕ)) (p : LexerState) (end : End) (new : Option LexerState) (fault : LexFault) → end ≡ end_of p.mode p.start → IsEnding texts end new (Err (Fault fault))
    → (bytes : List ℕ) (tokens : List Token) → IsStateAfter bytes tokens p → ShowsFault bytes tokens true fault.place.at fault.place.code
end_fault texts p (Ended ts) new fault e f bytes tokens a = absurd f
end_fault texts p (Faulty place code) new fault e f bytes tokens a = rw (f.0) (end_faults bytes tokens p place code a (sym e))

pub finish_fault : (texts : List (List ℕ)) (old new : Option LexerState) (result : Result (Option Tok) LexError) → IfSome old (λ p. IsEnding texts (end_of p.mode p.start) new result)
    → IfErr result (λ e. IfFault e (λ fault. (bytes : List ℕ) (tokens : List Token) → HasRead bytes tokens old → ShowsFault bytes tokens true fault.place.at fault.place.code))
finish_fault texts None new (Ok left) f = tt
finish_fault texts (Some p) new (Ok left) f = tt
finish_fault texts None new (Err (Fault fault)) f = λ bytes tokens r. absurd r
finish_fault texts (Some p) new (Err (Fault fault)) f = λ bytes tokens r. end_fault texts p (end_of p.mode p.start) new fault refl f bytes tokens r
finish_fault texts None new (Err NoMemory) f = tt
finish_fault texts (Some p) new (Err NoMemory) f = tt

failing_at : (texts : List (List ℕ)) (p : LexerState) (new : Option LexerState) (b : ℕ) (result : Result Fed LexError) → IsStep texts (step p b) new result → IfErr result (λ e. AnswersOnly e new)
failing_at texts p new b (Ok fed) t = tt
failing_at texts p new b (Err (Fault fault)) t = rw (t.0) (t.1)
failing_at texts p new b (Err NoMemory) t = t

pub feed_failing : (texts : List (List ℕ)) (old new : Option LexerState) (b : ℕ) (result : Result Fed LexError) → IfSome old (λ p. IsStep texts (step p b) new result)
    → (old ≡ None → (result ≡ Err NoMemory) × (new ≡ old)) → IfErr result (λ e. AnswersOnly e new)
feed_failing texts None new b result t gone = rw ((gone refl).0) ((gone refl).1)
feed_failing texts (Some p) new b result t gone = failing_at texts p new b result t

interned_at : (texts : List (List ℕ)) (p : LexerState) (new : Option LexerState) (b : ℕ) (result : Result Fed LexError) → IsStep texts (step p b) new result → AllGivenInterned texts result
interned_at texts p new b (Ok fed) t = (t.3, t.4)
interned_at texts p new b (Err (Fault fault)) t = t.3
interned_at texts p new b (Err NoMemory) t = tt

pub feed_interned : (texts : List (List ℕ)) (old new : Option LexerState) (b : ℕ) (result : Result Fed LexError) → IfSome old (λ p. IsStep texts (step p b) new result)
    → (old ≡ None → (result ≡ Err NoMemory) × (new ≡ old)) → AllGivenInterned texts result
feed_interned texts None new b result t gone = rw ((gone refl).0) tt
feed_interned texts (Some p) new b result t gone = interned_at texts p new b result t

-- each step that goes on takes one byte
begin_at : (at b : ℕ) → (begin_lexeme at b).next.at ≡ at + 1
begin_at at b =
    let P : Step → Type 0 = λ t. t.next.at ≡ at + 1 in
    cond_both (is_word_byte b) _ _ P (λ _. refl) λ _.
    cond_both (is_white_space b) _ _ P (λ _. refl) λ _.
    cond_both (b == 40) _ _ P (λ _. refl) λ _.
    cond_both (b == 41) _ _ P (λ _. refl) λ _.
    cond_both (b == 59) _ _ P (λ _. refl) λ _.
    cond_both (b == 34) _ _ P (λ _. refl) λ _.
    cond_both (b == 124) _ _ P (λ _. refl) λ _. refl

after_word_at : (kind : Option TokKind) (bs : List ℕ) (start at b : ℕ) → (after_word kind bs start at b).next.at ≡ at + 1
after_word_at None bs start at b = refl
after_word_at (Some kind) bs start at b = begin_at at b

step_at : (mode : Mode) (start at b : ℕ) → is_running (step_in mode start at b).next.mode ≡ true → (step_in mode start at b).next.at ≡ at + 1
step_at Between start at b run = begin_at at b
step_at InComment start at b run = cond_both (is_line_end b) _ _ (λ (t : Step). t.next.at ≡ at + 1) (λ _. begin_at at b) (λ _. refl)
step_at (InWord class bs) start at b run =
    let P : Step → Type 0 = λ t. t.next.at ≡ at + 1 in
    cond_both (is_word_byte b) _ _ P (λ _. cond_both (is_live (next_class class b)) _ _ P (λ _. refl) (λ _. refl)) (λ _. after_word_at (kind_at class bs) bs start at b)
step_at (InString name) start at b run =
    let P : Step → Type 0 = λ t. t.next.at ≡ at + 1 in
    cond_both (b == 34) _ _ P (λ _. refl) (λ _. cond_both (is_text_byte b) _ _ P (λ _. refl) (λ _. refl))
step_at (AfterQuote name) start at b run = cond_both (b == 34) _ _ (λ (t : Step). t.next.at ≡ at + 1) (λ _. refl) (λ _. begin_at at b)
step_at (InQuotedSymbol name) start at b run =
    let P : Step → Type 0 = λ t. t.next.at ≡ at + 1 in
    cond_both (b == 124) _ _ P (λ _. refl) (λ _. cond_both (b == 92) _ _ P (λ _. refl) (λ _. cond_both (is_text_byte b) _ _ P (λ _. refl) (λ _. refl)))
step_at (Failed place code) start at b run = cc

taken_at : (texts : List (List ℕ)) (p : LexerState) (new : Option LexerState) (b : ℕ) (result : Result Fed LexError) → IsStep texts (step p b) new result → OnOk result (taken new ≡ p.at + 1)
taken_at texts p new b (Ok fed) t = ap taken t.0 ∙ step_at p.mode p.start p.at b t.1
taken_at texts p new b (Err e) t = tt

pub feed_taken : (texts : List (List ℕ)) (old new : Option LexerState) (b : ℕ) (result : Result Fed LexError) → IfSome old (λ p. IsStep texts (step p b) new result)
    → (old ≡ None → (result ≡ Err NoMemory) × (new ≡ old)) → OnOk result (taken new ≡ taken old + 1)
feed_taken texts None new b result t gone = rw ((gone refl).0) tt
feed_taken texts (Some p) new b result t gone = taken_at texts p new b result t

pub read_viable : (bytes : List ℕ) (tokens : List Token) (lexer : Option LexerState) → HasRead bytes tokens lexer → Viable bytes
read_viable bytes tokens None r = absurd r
read_viable bytes tokens (Some p) r = (r.lexemes, r.partial, r.segmentation)

fault_not_viable : (texts : List (List ℕ)) (old new : Option LexerState) (b : ℕ) (fault : LexFault) → IfSome old (λ p. IsStep texts (step p b) new (Err (Fault fault)))
    → (bytes : List ℕ) (tokens : List Token) → HasRead bytes tokens old → Viable (bytes ++ b ∷ []) → ⊥
fault_not_viable texts None new b fault t bytes tokens r = absurd r
fault_not_viable texts (Some p) new b fault t bytes tokens r = step_not_viable bytes tokens p b fault.place.at fault.place.code r t.1

pub feed_viable : (texts : List (List ℕ)) (old new : Option LexerState) (b : ℕ) (result : Result Fed LexError) → IfSome old (λ p. IsStep texts (step p b) new result) → DecidesViable old b result
feed_viable texts old new b (Ok fed) t = λ bytes tokens r. read_viable (bytes ++ b ∷ []) (tokens ++ fed_tokens texts fed) new (fed_has_read texts old new b fed t bytes tokens r)
feed_viable texts old new b (Err (Fault fault)) t = fault_not_viable texts old new b fault t
feed_viable texts old new b (Err NoMemory) t = tt

ending_failing : (texts : List (List ℕ)) (end : End) (new : Option LexerState) (result : Result (Option Tok) LexError) → IsEnding texts end new result → IfErr result (λ e. AnswersOnly e new)
ending_failing texts end new (Ok left) f = tt
ending_failing texts (Ended left) new (Err (Fault fault)) f = absurd f
ending_failing texts (Faulty place code) new (Err (Fault fault)) f = rw (f.0) (f.1)
ending_failing texts end new (Err NoMemory) f = f

pub finish_failing : (texts : List (List ℕ)) (old new : Option LexerState) (result : Result (Option Tok) LexError) → IfSome old (λ p. IsEnding texts (end_of p.mode p.start) new result)
    → (old ≡ None → (new ≡ None) × (result ≡ Err NoMemory)) → IfErr result (λ e. AnswersOnly e new)
finish_failing texts None new result f gone = rw ((gone refl).1) ((gone refl).0)
finish_failing texts (Some p) new result f gone = ending_failing texts (end_of p.mode p.start) new result f

-- the loop over the bytes of a text: a list of tokens whose names are in a table that grows
pub extends_none : (texts : List (List ℕ)) → ExtendsTable texts texts
extends_none texts = ([], sym (append-nil texts))

pub extends_once : (old new : List (List ℕ)) → KeepsTexts old new → ExtendsTable old new
extends_once old new k = (k.0, k.2)

pub extends_more : (old texts new : List (List ℕ)) → ExtendsTable old texts → KeepsTexts texts new → ExtendsTable old new
extends_more old texts new e k = (e.0 ++ k.0, k.2 ∙ ap (λ xs. xs ++ k.0) e.1 ∙ append_assoc old e.0 k.0)

-- a number keeps its text
pub text_kept : (old new : List (List ℕ)) (id : ℕ) → ExtendsTable old new → id < length old → get_or new id [] ≡ get_or old id []
text_kept old new id e h = rw (e.1) (get_or_append_left old e.0 [] id h)

pub number_kept : (old new : List (List ℕ)) (id : ℕ) → ExtendsTable old new → id < length old → id < length new
number_kept old new id e h = rw (e.1) (omega (arith, length-append old e.0))

-- a token stays the same token
pub token_kept : (old new : List (List ℕ)) (tok : Tok) → ExtendsTable old new → tok.name < length old → token_of new tok ≡ token_of old tok
token_kept old new tok e h = ap (λ name. record { kind = tok.kind; name = name; at = tok.at }) (text_kept old new tok.name e h)

pub tokens_kept : (old new : List (List ℕ)) (toks : List Tok) → ExtendsTable old new → AllInterned old toks → map (token_of new) toks ≡ map (token_of old) toks
tokens_kept old new [] e h = refl
tokens_kept old new (tok ∷ toks) e h =
    let same : token_of new tok ≡ token_of old tok = token_kept old new tok e h.0 in
    let others : map (token_of new) toks ≡ map (token_of old) toks = tokens_kept old new toks e h.1 in cc

pub interned_kept : (old new : List (List ℕ)) (toks : List Tok) → ExtendsTable old new → AllInterned old toks → AllInterned new toks
interned_kept old new [] e h = tt
interned_kept old new (tok ∷ toks) e h = (number_kept old new tok.name e h.0, interned_kept old new toks e h.1)

interned_append : (texts : List (List ℕ)) (xs ys : List Tok) → AllInterned texts xs → AllInterned texts ys → AllInterned texts (xs ++ ys)
interned_append texts [] ys h k = k
interned_append texts (x ∷ xs) ys h k = (h.0, interned_append texts xs ys h.1 k)

option_interned : (texts : List (List ℕ)) (tok : Option Tok) → IsInterned texts tok → AllInterned texts (option_items tok)
option_interned texts None h = tt
option_interned texts (Some tok) h = (h, tt)

option_items_tokens : (texts : List (List ℕ)) (tok : Option Tok) → map (token_of texts) (option_items tok) ≡ option_tokens texts tok
option_items_tokens texts None = refl
option_items_tokens texts (Some tok) = refl

-- one more byte
pub lexed_more : (old new : List (List ℕ)) (bytes : List ℕ) (toks : List Tok) (b : ℕ) (fed : Fed) (lexer lexer' : Option LexerState) → KeepsTexts old new → HasLexed old bytes toks lexer
    → (HasRead bytes (map (token_of old) toks) lexer → HasRead (bytes ++ b ∷ []) (map (token_of old) toks ++ fed_tokens new fed) lexer') → IsInterned new fed.first × IsInterned new fed.second
    → HasLexed new (bytes ++ b ∷ []) ((toks ++ option_items fed.first) ++ option_items fed.second) lexer'
lexed_more old new bytes toks b fed lexer lexer' k r step interned =
    let all : map (token_of new) ((toks ++ option_items fed.first) ++ option_items fed.second) ≡ map (token_of old) toks ++ fed_tokens new fed =
    map-append (token_of new) (toks ++ option_items fed.first) (option_items fed.second)
    ∙ ap (λ xs. xs ++ map (token_of new) (option_items fed.second)) (map-append (token_of new) toks (option_items fed.first))
    ∙ append_assoc (map (token_of new) toks) (map (token_of new) (option_items fed.first)) (map (token_of new) (option_items fed.second))
    ∙ ap (λ xs. xs ++ (map (token_of new) (option_items fed.first) ++ map (token_of new) (option_items fed.second))) (tokens_kept old new toks (extends_once old new k) r.interned)
    ∙ ap (λ xs. map (token_of old) toks ++ (xs ++ map (token_of new) (option_items fed.second))) (option_items_tokens new fed.first)
    ∙ ap (λ xs. map (token_of old) toks ++ (option_tokens new fed.first ++ xs)) (option_items_tokens new fed.second) in
    record {
      read = rw all (step r.read);
      interned = interned_append new (toks ++ option_items fed.first) (option_items fed.second)
          (interned_append new toks (option_items fed.first) (interned_kept old new toks (extends_once old new k) r.interned) (option_interned new fed.first interned.0)) (option_interned new fed.second interned.1);
    }

-- the end
pub lexed_end : (old new : List (List ℕ)) (bytes : List ℕ) (toks : List Tok) (left : Option Tok) (lexer : Option LexerState) → KeepsTexts old new → HasLexed old bytes toks lexer
    → (HasRead bytes (map (token_of old) toks) lexer → Lexes bytes (map (token_of old) toks ++ option_tokens new left)) → Lexes bytes (map (token_of new) (toks ++ option_items left))
lexed_end old new bytes toks left lexer k r end =
    let all : map (token_of new) (toks ++ option_items left) ≡ map (token_of old) toks ++ option_tokens new left =
    map-append (token_of new) toks (option_items left) ∙ ap (λ xs. xs ++ map (token_of new) (option_items left)) (tokens_kept old new toks (extends_once old new k) r.interned)
    ∙ ap (λ xs. map (token_of old) toks ++ xs) (option_items_tokens new left) in
    rw all (end r.read)

pub lexed_end_interned : (old new : List (List ℕ)) (bytes : List ℕ) (toks : List Tok) (left : Option Tok) (lexer : Option LexerState) → KeepsTexts old new → HasLexed old bytes toks lexer
    → IsInterned new left → AllInterned new (toks ++ option_items left)
lexed_end_interned old new bytes toks left lexer k r named =
    interned_append new toks (option_items left) (interned_kept old new toks (extends_once old new k) r.interned) (option_interned new left named)

-- a fault at the next byte is one of the whole text
pub text_fault : (texts new : List (List ℕ)) (bytes more all : List ℕ) (toks : List Tok) (b : ℕ) (lexer : Option LexerState) (e : LexError) → HasLexed texts bytes toks lexer → (bytes ++ b ∷ []) ++ more ≡ all
    → IfFault e (λ fault. (bytes : List ℕ) (tokens : List Token) → HasRead bytes tokens lexer
    → ShowsFault (bytes ++ b ∷ []) (tokens ++ option_tokens new fault.before) false fault.place.at fault.place.code)
    → IfFault e (λ fault. HasFaultAt all fault.place.at fault.place.code)
text_fault texts new bytes more all toks b lexer (Fault fault) r whole shown =
    let tokens = map (token_of texts) toks ++ option_tokens new fault.before in (
      tokens,
      subst (λ xs. ShowsFault xs tokens true fault.place.at fault.place.code) whole
          (fault_in_longer (bytes ++ b ∷ []) more tokens fault.place.at fault.place.code (shown bytes (map (token_of texts) toks) r.read)),
    )
text_fault texts new bytes more all toks b lexer NoMemory r whole shown = tt

-- or one at its end
pub text_end_fault : (texts : List (List ℕ)) (bytes : List ℕ) (toks : List Tok) (lexer : Option LexerState) (e : LexError) → HasLexed texts bytes toks lexer
    → IfFault e (λ fault. (bytes : List ℕ) (tokens : List Token) → HasRead bytes tokens lexer → ShowsFault bytes tokens true fault.place.at fault.place.code)
    → IfFault e (λ fault. HasFaultAt bytes fault.place.at fault.place.code)
text_end_fault texts bytes toks lexer (Fault fault) r shown = (map (token_of texts) toks, shown bytes (map (token_of texts) toks) r.read)
text_end_fault texts bytes toks lexer NoMemory r shown = tt

-- a lexer has taken the bytes that it has read, so a caller that counts them knows that there is room
pub taken-HasRead : (bytes : List ℕ) (tokens : List Token) (lexer : Option LexerState) → HasRead bytes tokens lexer → taken lexer ≡ length bytes
taken-HasRead bytes tokens None r = absurd r
taken-HasRead bytes tokens (Some p) r = ap (λ q. q.at) r.here
