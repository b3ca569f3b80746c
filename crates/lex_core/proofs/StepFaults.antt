-- Where the lexer fails, the bytes are no more viable, and the place and the code are those of the lexicon.
use Rattle.std.proofs.Common.{◌≡◌, ℕ, ◌+◌, Bool, true, false, ◌==◌, List, [], ◌∷◌, ◌++◌, length, refl, sym, ◌∙◌, ap, subst, append_assoc, append-nil, Some, None, inl, inr}
use Rattle.std.proofs.lemmas.Bool.{cond_both, eqb-true, not_from_false}
use Rattle.lex_core.proofs.LexingLaws.{segmentation_configuration, viable_running}
use Rattle.lex_core.proofs.SegmentationToSteps.{after_bytes-append, partial_live}
use Rattle.lex_core.proofs.StepsToSegmentation.{cases_kind, complete_any}
use Rattle.lex_core.proofs.WordClassSpelling.{class_from-append, class_unfinished, spells_live, word_spells, word_unfinished}
use Rattle.lex_core.specs.Bytes.{is_line_end, is_text_byte, is_white_space, is_word_byte}
use Rattle.lex_core.specs.Faults.{AtByte, AtEnd, EndFault, FaultsAt, Inside, Outside, PartialFault, ShowsFault}
use Rattle.lex_core.specs.Lexeme.{AreLexemes, Comment, Lexeme, StringLiteral, Word, joined_text, last_complete, lexeme_tokens}
use Rattle.lex_core.specs.LexerSteps.{Between, Failed, Faulty, IsStateAfter, LexerState, Step, after_bytes, after_step, after_word, begin_lexeme, emits, end_of, initial, is_running, mode_of, step, step_in, word_end}
use Rattle.lex_core.specs.Segmentation.{ClosedString, IsPartialLexeme, IsSegmentation, NoLexeme, PartialComment, PartialLexeme, PartialQuotedSymbol, PartialString, PartialWord, Viable, partial_text}
use Rattle.lex_core.specs.Token.{Token}
use Rattle.lex_core.specs.WordClasses.{class_from, is_live, kind_at, next_class}
use Rattle.lex_core.specs.declared.token.TokKind.{TokKind}
use Rattle.lex_core.specs.declared.token.TokKind.TheVariants.{Str}
use Rattle.lex_core.specs.declared.word.WordClass.TheVariants.{Empty}
use Rattle.sig_table.specs.declared.code.Code.{Code}
use Rattle.sig_table.specs.declared.code.Code.TheVariants.{BackslashInQuotedSymbol, MalformedWord, UnexpectedByte}

abbrev FaultsIfFailed : List ℕ → ℕ → List Token → Step → Type 0
FaultsIfFailed front b given t = (place : ℕ) (code : Code) → t.next.mode ≡ Failed place code → FaultsAt front b (given ++ t.out) place code

begin_faults : (ps : List Lexeme) (b : ℕ) → AreLexemes ps → last_complete ps (b ∷ []) ≡ true → FaultsIfFailed (joined_text ps) b (lexeme_tokens ps) (begin_lexeme (length (joined_text ps)) b)
begin_faults ps b w o =
    let P : Step → Type 0 = FaultsIfFailed (joined_text ps) b (lexeme_tokens ps) in
    cond_both (is_word_byte b) _ _ P (λ yes place code e. cc) λ no_word_byte.
    cond_both (is_white_space b) _ _ P (λ yes place code e. cc) λ no_white.
    cond_both (b == 40) _ _ P (λ yes place code e. cc) λ no40.
    cond_both (b == 41) _ _ P (λ yes place code e. cc) λ no41.
    cond_both (b == 59) _ _ P (λ yes place code e. cc) λ no59.
    cond_both (b == 34) _ _ P (λ yes place code e. cc) λ no34.
    cond_both (b == 124) _ _ P (λ yes place code e. cc) λ no124 place code e.
    let at : place ≡ length (joined_text ps) = cc in
    let is : code ≡ UnexpectedByte = cc in
    Outside ps w refl o (record { no_word_byte = no_word_byte; no_white = no_white; no_delimiter = rw (no40, no41, no59, no34, no124) refl }) (append-nil (lexeme_tokens ps)) at is

-- what is open is a lexeme, and the byte begins none
lexeme_faults : (ps : List Lexeme) (p : Lexeme) (kind : TokKind) (name : List ℕ) (b : ℕ) → AreLexemes (p ∷ ps) → last_complete (p ∷ ps) (b ∷ []) ≡ true
    → lexeme_tokens (p ∷ ps) ≡ lexeme_tokens ps ++ record { kind = kind; name = name; at = length (joined_text ps) } ∷ []
    → FaultsIfFailed (joined_text (p ∷ ps)) b (lexeme_tokens ps) (emits kind name (length (joined_text ps)) (begin_lexeme (length (joined_text (p ∷ ps))) b))
lexeme_faults ps p kind name b w o in_order place code e =
    let t = begin_lexeme (length (joined_text (p ∷ ps))) b in
    subst (λ ts. FaultsAt (joined_text (p ∷ ps)) b ts place code)
    (ap (λ ts. ts ++ t.out) in_order ∙ append_assoc (lexeme_tokens ps) (record { kind = kind; name = name; at = length (joined_text ps) } ∷ []) t.out)
    (begin_faults (p ∷ ps) b w o place code e)

inside_faults : (ps : List Lexeme) (partial : PartialLexeme) (b at : ℕ) (code : Code) (next : LexerState) → IsSegmentation (joined_text ps ++ partial_text partial) ps partial
    → PartialFault partial b (length (joined_text ps)) (length (joined_text ps ++ partial_text partial)) at code
    → FaultsIfFailed (joined_text ps ++ partial_text partial) b (lexeme_tokens ps) (record { out = []; next = record next { mode = Failed at code } })
inside_faults ps partial b at code next c f place code' e =
    let a : at ≡ place = cc in let d : code ≡ code' = cc in
    subst (λ place. FaultsAt (joined_text ps ++ partial_text partial) b (lexeme_tokens ps ++ []) place code') a
    (subst (λ code. FaultsAt (joined_text ps ++ partial_text partial) b (lexeme_tokens ps ++ []) at code) d (Inside ps partial c (append-nil (lexeme_tokens ps)) f))

step_faults_in : (ps : List Lexeme) (partial : PartialLexeme) (b : ℕ) → IsSegmentation (joined_text ps ++ partial_text partial) ps partial
    → FaultsIfFailed (joined_text ps ++ partial_text partial) b (lexeme_tokens ps) (step_in (mode_of partial) (length (joined_text ps)) (length (joined_text ps ++ partial_text partial)) b)
step_faults_in ps NoLexeme b c =
    subst (λ xs. FaultsIfFailed xs b (lexeme_tokens ps) (begin_lexeme (length xs) b)) (sym (append-nil (joined_text ps))) (begin_faults ps b c.whole (complete_any ps b c.complete))
step_faults_in ps (PartialComment bs) b c =
    cond_both (is_line_end b) _ _ (FaultsIfFailed (joined_text ps ++ partial_text (PartialComment bs)) b (lexeme_tokens ps))
    (λ yes. begin_faults (Comment bs ∷ ps) b (c.possible, c.complete, c.whole) yes) (λ no place code e. cc)
step_faults_in ps (PartialWord bs) b c =
    let P : Step → Type 0 = FaultsIfFailed (joined_text ps ++ bs) b (lexeme_tokens ps) in
    let start = length (joined_text ps) in let n = length (joined_text ps ++ bs) in
    cond_both (is_word_byte b) _ _ P
    (λ yes. cond_both (is_live (next_class (class_from Empty bs) b)) _ _ P (λ live place code e. cc)
    (λ dead. let same : is_live (class_from Empty (bs ++ b ∷ [])) ≡ false = ap is_live (class_from-append Empty bs (b ∷ [])) ∙ dead in
    inside_faults ps (PartialWord bs) b start MalformedWord (record { start = start; at = n + 1; mode = Between }) c
    (inl (yes, record { no_token = λ kind s. (let k = spells_live kind (bs ++ b ∷ []) s in cc); no_start = λ u. (let k = (class_unfinished (bs ++ b ∷ []) u).0 in cc) }), refl, refl)))
    (λ no. elim (cases_kind (kind_at (class_from Empty bs) bs)) [
      | inl some ↦ subst (λ k. P (after_word k bs start n b)) (sym some.1)
          (lexeme_faults ps (Word some.0 bs) some.0 bs b (word_spells bs some.0 some.1, c.complete, c.whole) (not_from_false (is_word_byte b) no) refl)
      | inr none ↦ subst (λ k. P (after_word k bs start n b)) (sym none)
          (inside_faults ps (PartialWord bs) b start MalformedWord (record { start = start; at = n + 1; mode = Between }) c (inr (no, word_unfinished bs (partial_live bs c.possible) none), refl, refl))
    ])
step_faults_in ps (PartialString name) b c =
    let P : Step → Type 0 = FaultsIfFailed (joined_text ps ++ partial_text (PartialString name)) b (lexeme_tokens ps) in
    let n = length (joined_text ps ++ partial_text (PartialString name)) in
    cond_both (b == 34) _ _ P (λ yes place code e. cc) λ no.
    cond_both (is_text_byte b) _ _ P (λ yes place code e. cc)
    (λ no_text. inside_faults ps (PartialString name) b n UnexpectedByte (record { start = length (joined_text ps); at = n + 1; mode = Between }) c (no_text, refl, refl))
step_faults_in ps (ClosedString name) b c =
    cond_both (b == 34) _ _ (FaultsIfFailed (joined_text ps ++ partial_text (ClosedString name)) b (lexeme_tokens ps)) (λ yes place code e. cc)
    (λ no. lexeme_faults ps (StringLiteral name) Str name b (c.possible, c.complete, c.whole) (not_from_false (b == 34) no) refl)
step_faults_in ps (PartialQuotedSymbol name) b c =
    let P : Step → Type 0 = FaultsIfFailed (joined_text ps ++ partial_text (PartialQuotedSymbol name)) b (lexeme_tokens ps) in
    let n = length (joined_text ps ++ partial_text (PartialQuotedSymbol name)) in
    let next : LexerState = record { start = length (joined_text ps); at = n + 1; mode = Between } in
    cond_both (b == 124) _ _ P (λ yes place code e. cc) λ no124.
    cond_both (b == 92) _ _ P (λ yes. inside_faults ps (PartialQuotedSymbol name) b n BackslashInQuotedSymbol next c (inl (eqb-true b 92 yes, refl), refl)) λ no92.
    cond_both (is_text_byte b) _ _ P (λ yes place code e. cc)
    (λ no_text. inside_faults ps (PartialQuotedSymbol name) b n UnexpectedByte next c (inr (no_text, refl), refl))

-- a fault at a byte is there whatever follows
pub fault_in_longer : (bytes more : List ℕ) (tokens : List Token) (place : ℕ) (code : Code) → ShowsFault bytes tokens false place code → ShowsFault (bytes ++ more) tokens true place code
fault_in_longer bytes more tokens place code (AtByte front b rest e out s) =
    AtByte front b (rest ++ more) (ap (λ xs. xs ++ more) e ∙ append_assoc front (b ∷ rest) more) out s

-- where the lexer fails at a byte, no continuation lexes
pub step_not_viable : (bytes : List ℕ) (tokens : List Token) (p : LexerState) (b place : ℕ) (code : Code) → IsStateAfter bytes tokens p → (step p b).next.mode ≡ Failed place code
    → Viable (bytes ++ b ∷ []) → ⊥
step_not_viable bytes tokens p b place code a failed v =
    let run = viable_running (bytes ++ b ∷ []) v in
    let e : after_bytes initial (bytes ++ b ∷ []) ≡ after_step tokens (step p b) = after_bytes-append initial bytes (b ∷ []) ∙ ap (λ r. after_step r.given (step r.state b)) (segmentation_configuration bytes tokens p a) in
    let going : is_running (step p b).next.mode ≡ true = ap (λ r. is_running r.state.mode) (sym e) ∙ run in
    let stopped : is_running (step p b).next.mode ≡ false = ap is_running failed in cc

pub step_faults : (bytes : List ℕ) (tokens : List Token) (p : LexerState) (b place : ℕ) (code : Code) → IsStateAfter bytes tokens p → (step p b).next.mode ≡ Failed place code
    → (ended : Bool) → ShowsFault (bytes ++ b ∷ []) (tokens ++ (step p b).out) ended place code
step_faults bytes tokens p b place code a failed ended =
    let n = length (joined_text a.lexemes) in
    let front = joined_text a.lexemes ++ partial_text a.partial in
    let P : LexerState → List ℕ → List Token → Type 0 = λ p bytes tokens. FaultsIfFailed bytes b tokens (step p b) in
    let segmentation : IsSegmentation front a.lexemes a.partial = record { spelled = refl; whole = a.segmentation.whole; complete = a.segmentation.complete; possible = a.segmentation.possible } in
    let stops : P p bytes tokens =
    subst (λ p. P p bytes tokens) (sym a.here)
    (subst (λ bytes. P (record { start = n; at = length bytes; mode = mode_of a.partial }) bytes tokens) (sym a.segmentation.spelled)
    (subst (λ tokens. P (record { start = n; at = length front; mode = mode_of a.partial }) front tokens) (sym a.in_order)
    (step_faults_in a.lexemes a.partial b segmentation))) in
    AtByte bytes b [] refl (step_not_viable bytes tokens p b place code a failed) (stops place code failed)

-- and so it is whatever comes after it
pub step_faults_more : (bytes : List ℕ) (tokens : List Token) (p : LexerState) (b : ℕ) (more : List ℕ) (place : ℕ) (code : Code) → IsStateAfter bytes tokens p → (step p b).next.mode ≡ Failed place code
    → ShowsFault (bytes ++ b ∷ more) (tokens ++ (step p b).out) true place code
step_faults_more bytes tokens p b more place code a failed =
    subst (λ xs. ShowsFault xs (tokens ++ (step p b).out) true place code) (append_assoc bytes (b ∷ []) more)
    (fault_in_longer (bytes ++ b ∷ []) more (tokens ++ (step p b).out) place code (step_faults bytes tokens p b place code a failed false))

-- the end
end_faults_in : (ps : List Lexeme) (partial : PartialLexeme) (place : ℕ) (code : Code) → IsPartialLexeme partial → end_of (mode_of partial) (length (joined_text ps)) ≡ Faulty place code → EndFault partial (length (joined_text ps)) place code
end_faults_in ps NoLexeme place code h e = cc
end_faults_in ps (PartialComment bs) place code h e = cc
end_faults_in ps (PartialWord bs) place code h e = elim (cases_kind (kind_at (class_from Empty bs) bs)) [
  | inl some ↦ (let k : word_end (Some some.0) bs (length (joined_text ps)) ≡ Faulty place code = ap (λ k. word_end k bs (length (joined_text ps))) (sym some.1) ∙ e in cc)
  | inr none ↦ (let k : word_end None bs (length (joined_text ps)) ≡ Faulty place code = ap (λ k. word_end k bs (length (joined_text ps))) (sym none) ∙ e in
      (word_unfinished bs (partial_live bs h) none, cc, cc))
]
end_faults_in ps (PartialString name) place code h e = (cc, cc)
end_faults_in ps (ClosedString name) place code h e = cc
end_faults_in ps (PartialQuotedSymbol name) place code h e = (cc, cc)

pub end_faults : (bytes : List ℕ) (tokens : List Token) (p : LexerState) (place : ℕ) (code : Code) → IsStateAfter bytes tokens p → end_of p.mode p.start ≡ Faulty place code → ShowsFault bytes tokens true place code
end_faults bytes tokens p place code a e =
    AtEnd a.lexemes a.partial a.segmentation a.in_order (end_faults_in a.lexemes a.partial place code a.segmentation.possible (ap (λ p. end_of p.mode p.start) (sym a.here) ∙ e))
