-- A fault is determined by the bytes, and excludes that they lex.
use Rattle.std.proofs.Common.{◌≡◌, ℕ, Bool, true, false, ◌==◌, not, List, [], ◌∷◌, ◌++◌, ◌⊎◌, length, refl, sym, ◌∙◌, ap, subst, append_assoc, append-nil, inl, inr}
use Rattle.std.specs.List.{list_all}
use Rattle.std.proofs.lemmas.Bool.{and_parts, cases_Bool, false_from_ne_true, not-true}
use Rattle.lex_core.proofs.LexingLaws.{end_lexes, initial_state, lexes_ended, mode_running, segmentation_configuration, viable_running}
use Rattle.lex_core.proofs.SegmentationToSteps.{after_bytes-append, lexemes_bytes, segmentation_bytes, step_begins}
use Rattle.lex_core.proofs.StepFaults.{end_faults, step_faults_more}
use Rattle.lex_core.proofs.StepsToSegmentation.{live_partial, quote_is_text, step_segmentation}
use Rattle.lex_core.proofs.WordClassSpelling.{class_from-append, class_unfinished, not_out}
use Rattle.lex_core.specs.Bytes.{is_printable, is_text_byte, is_white_space}
use Rattle.lex_core.specs.Faults.{AtByte, AtEnd, BeginsNoLexeme, EndFault, FaultsAt, HasFault, HasTokens, Inside, Outside, PartialFault, ShowsFault}
use Rattle.lex_core.specs.Lexeme.{Lexeme, Lexes, joined_text, lexeme_tokens}
use Rattle.lex_core.specs.LexerSteps.{AfterQuote, Between, Configuration, End, Ended, Failed, Faulty, InComment, InQuotedSymbol, InString, InWord, IsStateAfter, LexerState, Mode, Step, after_bytes, after_step, begin_lexeme, continues, end_of, initial, is_running, mode_of, step, step_in}
use Rattle.lex_core.specs.Segmentation.{ClosedString, IsPartialLexeme, NoLexeme, PartialComment, PartialLexeme, PartialQuotedSymbol, PartialString, PartialWord, partial_text}
use Rattle.lex_core.specs.Token.{Token}
use Rattle.lex_core.specs.WordClasses.{class_from, is_live, next_class}
use Rattle.lex_core.specs.declared.word.WordClass.TheVariants.{Empty}
use Rattle.sig_table.specs.declared.code.Code.{Code}
use Rattle.sig_table.specs.declared.code.Code.TheVariants.{UnexpectedByte}

not_delimiter : (b : ℕ) → list_all (λ mark. not (b == mark)) (40 ∷ 41 ∷ 59 ∷ 34 ∷ 124 ∷ []) ≡ true
    → ((b == 40) ≡ false) × ((b == 41) ≡ false) × ((b == 59) ≡ false) × ((b == 34) ≡ false) × ((b == 124) ≡ false)
not_delimiter b h =
    let a = and_parts (not (b == 40)) _ h in
    let c = and_parts (not (b == 41)) _ a.1 in
    let d = and_parts (not (b == 59)) _ c.1 in
    let e = and_parts (not (b == 34)) _ d.1 in
    let f = and_parts (not (b == 124)) _ e.1 in
    (not-true (b == 40) a.0, not-true (b == 41) c.0, not-true (b == 59) d.0, not-true (b == 34) e.0, not-true (b == 124) f.0)

begin_no_lexeme : (at b : ℕ) → BeginsNoLexeme b → begin_lexeme at b ≡ continues at at (Failed at UnexpectedByte)
begin_no_lexeme at b h =
    let m = not_delimiter b h.no_delimiter in
    rw (h.no_word_byte, h.no_white, m.0, m.1, m.2, m.3, m.4) refl

bar_is_text : is_text_byte 124 ≡ true
unfolding is_text_byte is_white_space is_printable
bar_is_text = refl

backslash_is_text : is_text_byte 92 ≡ true
unfolding is_text_byte is_white_space is_printable
backslash_is_text = refl

-- the lexer fails where what is open cannot go on
partial_fails : (partial : PartialLexeme) (b start n at : ℕ) (code : Code) → IsPartialLexeme partial → PartialFault partial b start n at code → step_in (mode_of partial) start n b ≡ continues start n (Failed at code)
partial_fails NoLexeme b start n at code h f = absurd f
partial_fails (PartialComment bs) b start n at code h f = absurd f
partial_fails (PartialWord bs) b start n at code h f = elim (f.0) [
  | inl beyond ↦ (let dead : is_live (next_class (class_from Empty bs) b) ≡ false = false_from_ne_true (is_live (next_class (class_from Empty bs) b))
      (λ live. let live : is_live (class_from Empty (bs ++ b ∷ [])) ≡ true = ap is_live (class_from-append Empty bs (b ∷ [])) ∙ live in
      elim (live_partial (bs ++ b ∷ []) live) [ inl spelled ↦ beyond.1.no_token spelled.0 spelled.1 | inr open' ↦ beyond.1.no_start open' ]) in
      rw (beyond.0, dead, f.1, f.2) refl)
  | inr short ↦ (let none = (class_unfinished bs short.1).1 in rw (short.0, none, f.1, f.2) refl)
]
partial_fails (PartialString name) b start n at code h f =
    rw (not_out is_text_byte b 34 f.0 quote_is_text, f.0, f.1, f.2) refl
partial_fails (ClosedString name) b start n at code h f = absurd f
partial_fails (PartialQuotedSymbol name) b start n at code h f = elim (f.0) [
  | inl slash ↦ rw (slash.0, slash.1, f.1) refl
  | inr other ↦ rw (not_out is_text_byte b 124 other.0 bar_is_text, not_out is_text_byte b 92 other.0 backslash_is_text, other.0, other.1, f.1) refl
]

-- the lexer has failed, after these tokens
abbrev pub FailsAfter : Configuration → List Token → ℕ → Code → Type 0
FailsAfter r tokens at code = (r.given ≡ tokens) × (r.state.mode ≡ Failed at code)

fails_after : (tokens : List Token) (start n at : ℕ) (code : Code) (r : Configuration) (next : Step) → r ≡ after_step tokens next → next ≡ continues start n (Failed at code) → FailsAfter r tokens at code
fails_after tokens start n at code r next read fails =
    (ap (λ r. r.given) read ∙ ap (λ (t : Step). tokens ++ t.out) fails ∙ append-nil tokens, ap (λ r. r.state.mode) read ∙ ap (λ (t : Step). t.next.mode) fails)

byte_fails : (front : List ℕ) (b : ℕ) (tokens : List Token) (at : ℕ) (code : Code) → FaultsAt front b tokens at code → FailsAfter (after_bytes initial (front ++ b ∷ [])) tokens at code
byte_fails front b tokens at code (Outside ps w e o nothing in_order place is) =
    let read = after_bytes-append initial (joined_text ps) (b ∷ []) ∙ ap (λ r. after_bytes r (b ∷ [])) (lexemes_bytes ps w) ∙ step_begins ps b [] w o in
    let n = length (joined_text ps) in
    rw (is, place, e, in_order) (fails_after (lexeme_tokens ps) n n n UnexpectedByte (after_bytes initial (joined_text ps ++ b ∷ [])) (begin_lexeme n b) read (begin_no_lexeme n b nothing))
byte_fails front b tokens at code (Inside ps partial segmentation in_order f) =
    let start = length (joined_text ps) in let n = length (joined_text ps ++ partial_text partial) in
    let read = after_bytes-append initial (joined_text ps ++ partial_text partial) (b ∷ []) ∙ ap (λ r. after_bytes r (b ∷ [])) (segmentation_bytes ps partial segmentation.whole segmentation.possible segmentation.complete) in
    let fails = partial_fails partial b start n at code segmentation.possible (rw (segmentation.spelled) at f) in
    rw (segmentation.spelled, in_order) (fails_after (lexeme_tokens ps) start n at code (after_bytes initial ((joined_text ps ++ partial_text partial) ++ b ∷ [])) (step_in (mode_of partial) start n b) read fails)

-- a lexer that has failed stays so
failed_same : (r : Configuration) (bs : List ℕ) (tokens : List Token) (at : ℕ) (code : Code) → FailsAfter r tokens at code → FailsAfter (after_bytes r bs) tokens at code
failed_same r [] tokens at code h = h
failed_same r (b ∷ bs) tokens at code h =
    let none : (step r.state b).out ≡ [] = ap (λ m. (step_in m r.state.start r.state.at b).out) h.1 in
    failed_same (after_step r.given (step r.state b)) bs tokens at code
    (ap (λ out. r.given ++ out) none ∙ append-nil r.given ∙ h.0, ap (λ m. (step_in m r.state.start r.state.at b).next.mode) h.1)

-- what the lexer does where there is a fault
abbrev pub IsFailed : List ℕ → List Token → ℕ → Code → Type 0
IsFailed bytes tokens at code = let r = after_bytes initial bytes in
    (r.given ≡ tokens) × ((r.state.mode ≡ Failed at code) ⊎ ((is_running r.state.mode ≡ true) × (end_of r.state.mode r.state.start ≡ Faulty at code)))

end_is_faulty : (ps : List Lexeme) (partial : PartialLexeme) (at : ℕ) (code : Code) → EndFault partial (length (joined_text ps)) at code → end_of (mode_of partial) (length (joined_text ps)) ≡ Faulty at code
end_is_faulty ps NoLexeme at code f = absurd f
end_is_faulty ps (PartialComment bs) at code f = absurd f
end_is_faulty ps (PartialWord bs) at code f = rw ((class_unfinished bs f.0).1, f.1, f.2) refl
end_is_faulty ps (PartialString name) at code f = rw (f.0, f.1) refl
end_is_faulty ps (ClosedString name) at code f = absurd f
end_is_faulty ps (PartialQuotedSymbol name) at code f = rw (f.0, f.1) refl

shows_failed : (bytes : List ℕ) (tokens : List Token) (ended : Bool) (at : ℕ) (code : Code) → ShowsFault bytes tokens ended at code → IsFailed bytes tokens at code
shows_failed bytes tokens ended at code (AtByte front b more e out s) =
    let here = byte_fails front b tokens at code s in
    let split : bytes ≡ (front ++ b ∷ []) ++ more = e ∙ sym (append_assoc front (b ∷ []) more) in
    let all = ap (after_bytes initial) split ∙ after_bytes-append initial (front ++ b ∷ []) more in
    let stays = failed_same (after_bytes initial (front ++ b ∷ [])) more tokens at code here in
    (ap (λ r. r.given) all ∙ stays.0, inl (ap (λ r. r.state.mode) all ∙ stays.1))
shows_failed bytes tokens ended at code (AtEnd ps partial segmentation in_order f) =
    let read = ap (after_bytes initial) segmentation.spelled ∙ segmentation_bytes ps partial segmentation.whole segmentation.possible segmentation.complete in (
      ap (λ r. r.given) read ∙ sym in_order,
      inr (ap (λ r. is_running r.state.mode) read ∙ mode_running partial, ap (λ r. end_of r.state.mode r.state.start) read ∙ end_is_faulty ps partial at code f),
    )

unique_failure : (mode : Mode) (start at at' : ℕ) (code code' : Code)
    → (mode ≡ Failed at code) ⊎ ((is_running mode ≡ true) × (end_of mode start ≡ Faulty at code))
    → (mode ≡ Failed at' code') ⊎ ((is_running mode ≡ true) × (end_of mode start ≡ Faulty at' code')) → (at ≡ at') × (code ≡ code')
unique_failure mode start at at' code code' (inl f) (inl g) = let e : Failed at code ≡ Failed at' code' = sym f ∙ g in (cc, cc)
unique_failure mode start at at' code code' (inl f) (inr g) = let e : is_running (Failed at code) ≡ true = ap is_running (sym f) ∙ g.0 in cc
unique_failure mode start at at' code code' (inr f) (inl g) = let e : is_running (Failed at' code') ≡ true = ap is_running (sym g) ∙ f.0 in cc
unique_failure mode start at at' code code' (inr f) (inr g) = let e : Faulty at code ≡ Faulty at' code' = sym f.1 ∙ g.1 in (cc, cc)

-- the bytes fix the tokens before a fault, its place and its code
pub unique_fault : (bytes : List ℕ) (s t : List Token) (ended ended' : Bool) (at at' : ℕ) (code code' : Code)
    → ShowsFault bytes s ended at code → ShowsFault bytes t ended' at' code' → (s ≡ t) × (at ≡ at') × (code ≡ code')
unique_fault bytes s t ended ended' at at' code code' f g =
    let p = (after_bytes initial bytes).state in
    let first = shows_failed bytes s ended at code f in let second = shows_failed bytes t ended' at' code' g in
    let same = unique_failure p.mode p.start at at' code code' first.1 second.1 in
    (sym first.0 ∙ second.0, same.0, same.1)

-- bytes with a fault do not lex
pub fault_excludes_lexes : (bytes : List ℕ) (s t : List Token) (ended : Bool) (at : ℕ) (code : Code) → ShowsFault bytes s ended at code → Lexes bytes t → ⊥
fault_excludes_lexes bytes s t ended at code f l =
    let a = lexes_ended bytes t l in
    let read = segmentation_configuration bytes a.given a.state a.after in
    let going : is_running (after_bytes initial bytes).state.mode ≡ true = viable_running bytes (a.after.lexemes, a.after.partial, a.after.segmentation) in
    let ends : end_of (after_bytes initial bytes).state.mode (after_bytes initial bytes).state.start ≡ Ended a.left = ap (λ r. end_of r.state.mode r.state.start) read ∙ a.ends in
    elim ((shows_failed bytes s ended at code f).1) [
      | inl failed ↦ (let k : is_running (Failed at code) ≡ true = ap is_running (sym failed) ∙ going in cc)
      | inr faulty ↦ (let k : Ended a.left ≡ Faulty at code = sym ends ∙ faulty.1 in cc)
    ]

-- a lexer that is not running has failed
pub failed_at : (mode : Mode) → is_running mode ≡ false → (at : ℕ) × (code : Code) × (mode ≡ Failed at code)
failed_at Between h = cc
failed_at InComment h = cc
failed_at (InWord class bs) h = cc
failed_at (InString name) h = cc
failed_at (AfterQuote name) h = cc
failed_at (InQuotedSymbol name) h = cc
failed_at (Failed at code) h = (at, code, refl)

end_cases : (bytes : List ℕ) (tokens : List Token) (p : LexerState) (end : End) → IsStateAfter bytes tokens p → end_of p.mode p.start ≡ end → HasTokens bytes ⊎ HasFault bytes
end_cases bytes tokens p (Ended left) a e = inl (tokens ++ left, end_lexes bytes tokens left p a e)
end_cases bytes tokens p (Faulty at code) a e = inr (at, code, (tokens, end_faults bytes tokens p at code a e))

decides_from : (bytes : List ℕ) (tokens : List Token) (p : LexerState) (more : List ℕ) → IsStateAfter bytes tokens p → HasTokens (bytes ++ more) ⊎ HasFault (bytes ++ more)
decides_from bytes tokens p [] a = rw append-nil (end_cases bytes tokens p (end_of p.mode p.start) a refl)
decides_from bytes tokens p (b ∷ more) a = elim (cases_Bool (is_running (step p b).next.mode)) [
  | inl going ↦ subst (λ xs. HasTokens xs ⊎ HasFault xs) (append_assoc bytes (b ∷ []) more)
      (decides_from (bytes ++ b ∷ []) (tokens ++ (step p b).out) (step p b).next more (step_segmentation bytes tokens p b a going))
  | inr stops ↦ (let f = failed_at (step p b).next.mode stops in
      inr (f.0, f.1, (tokens ++ (step p b).out, step_faults_more bytes tokens p b more f.0 f.1 a f.2)))
]

-- each text lexes or has a fault
pub lexes_or_fault : (bytes : List ℕ) → HasTokens bytes ⊎ HasFault bytes
lexes_or_fault bytes = decides_from [] [] (record { start = 0; at = 0; mode = Between }) bytes initial_state
