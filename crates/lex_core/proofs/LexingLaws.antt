-- Viable bytes are those that some continuation makes lex, and the tokens are determined.
use Rattle.std.proofs.Common.{◌≡◌, ℕ, true, false, List, [], ◌∷◌, ◌++◌, length, refl, sym, ◌∙◌, ap, subst, append_assoc, append-nil, None, inl, inr}
use Rattle.std.proofs.lemmas.Bool.{true_from_ne_false}
use Rattle.lex_core.proofs.SegmentationToSteps.{after_bytes-append, complete_first, configuration, partial_live, segmentation_bytes}
use Rattle.lex_core.proofs.StepsToSegmentation.{cases_kind, step_segmentation}
use Rattle.lex_core.proofs.WordClassSpelling.{class_spells, word_spells}
use Rattle.lex_core.specs.Bytes.{is_binary_digit, is_digit, is_hex_digit, is_letter, is_symbol_byte}
use Rattle.lex_core.specs.Lexeme.{AreLexemes, CloseParen, Comment, IsLexeme, Lexeme, Lexes, OpenParen, QuotedSymbol, StringLiteral, WhiteSpace, Word, joined_text, last_complete, lexeme_text, lexeme_tokens, quotes_doubled}
use Rattle.lex_core.specs.LexerSteps.{AfterQuote, Between, Configuration, Ended, Failed, InComment, InQuotedSymbol, InString, InWord, IsStateAfter, LexerState, Mode, after_bytes, after_step, end_of, initial, is_running, mode_of, step, step_in, word_end}
use Rattle.lex_core.specs.Segmentation.{ClosedString, IsPartialLexeme, IsSegmentation, NoLexeme, PartialComment, PartialLexeme, PartialQuotedSymbol, PartialString, PartialWord, Viable, partial_text}
use Rattle.lex_core.specs.Spelling.{WordSpells}
use Rattle.lex_core.specs.Token.{Token}
use Rattle.lex_core.specs.WordClasses.{class_from, kind_at}
use Rattle.lex_core.specs.declared.token.TokKind.{TokKind}
use Rattle.lex_core.specs.declared.token.TokKind.TheVariants.{Binary, Decimal, Hexadecimal, Keyword, Str}
use Rattle.lex_core.specs.declared.word.WordClass.TheVariants.{Empty}

-- the bytes determine the configuration of the lexer
pub segmentation_configuration : (bytes : List ℕ) (tokens : List Token) (p : LexerState) → IsStateAfter bytes tokens p → after_bytes initial bytes ≡ record { given = tokens; state = p }
segmentation_configuration bytes tokens p a =
    let e = ap (after_bytes initial) a.segmentation.spelled ∙ segmentation_bytes a.lexemes a.partial a.segmentation.whole a.segmentation.possible a.segmentation.complete in
    let at = ap length a.segmentation.spelled in
    e ∙ ap (λ n. configuration (lexeme_tokens a.lexemes) (length (joined_text a.lexemes)) n (mode_of a.partial)) (sym at)
    ∙ ap (λ p. record { given = lexeme_tokens a.lexemes; state = p }) (sym a.here) ∙ ap (λ ts. record { given = ts; state = p }) (sym a.in_order)

pub failed_step : (mode : Mode) (start at b : ℕ) → is_running mode ≡ false → is_running (step_in mode start at b).next.mode ≡ false
failed_step Between start at b h = cc
failed_step InComment start at b h = cc
failed_step (InWord class bs) start at b h = cc
failed_step (InString name) start at b h = cc
failed_step (AfterQuote name) start at b h = cc
failed_step (InQuotedSymbol name) start at b h = cc
failed_step (Failed place code) start at b h = refl

failed_stays : (r : Configuration) (bs : List ℕ) → is_running r.state.mode ≡ false → is_running (after_bytes r bs).state.mode ≡ false
failed_stays r [] h = h
failed_stays r (b ∷ bs) h = failed_stays (after_step r.given (step r.state b)) bs (failed_step r.state.mode r.state.start r.state.at b h)

running_from : (bytes : List ℕ) (tokens : List Token) (p : LexerState) (more : List ℕ) → IsStateAfter bytes tokens p → let r = after_bytes (record { given = tokens; state = p }) more in
    is_running r.state.mode ≡ true → IsStateAfter (bytes ++ more) r.given r.state
running_from bytes tokens p [] a go = rw append-nil a
running_from bytes tokens p (b ∷ more) a go =
    let here : is_running (step p b).next.mode ≡ true = true_from_ne_false (is_running (step p b).next.mode)
    (λ no. let k = failed_stays (after_step tokens (step p b)) more no in cc) in
    subst (λ xs. IsStateAfter xs (after_bytes (after_step tokens (step p b)) more).given (after_bytes (after_step tokens (step p b)) more).state) (append_assoc bytes (b ∷ []) more)
    (running_from (bytes ++ b ∷ []) (tokens ++ (step p b).out) (step p b).next more (step_segmentation bytes tokens p b a here) go)

pub initial_state : IsStateAfter [] [] (record { start = 0; at = 0; mode = Between })
initial_state = record { lexemes = []; partial = NoLexeme; segmentation = record { spelled = refl; whole = tt; complete = refl; possible = tt }; in_order = refl; here = refl }

-- the state of a lexer that has not failed
pub running_state : (bytes : List ℕ) → is_running (after_bytes initial bytes).state.mode ≡ true → IsStateAfter bytes (after_bytes initial bytes).given (after_bytes initial bytes).state
running_state bytes go = running_from [] [] (record { start = 0; at = 0; mode = Between }) bytes initial_state go

pub mode_running : (partial : PartialLexeme) → is_running (mode_of partial) ≡ true
mode_running NoLexeme = refl
mode_running (PartialComment bs) = refl
mode_running (PartialWord bs) = refl
mode_running (PartialString name) = refl
mode_running (ClosedString name) = refl
mode_running (PartialQuotedSymbol name) = refl

-- viable bytes are those that the lexer takes
pub viable_running : (bytes : List ℕ) → Viable bytes → is_running (after_bytes initial bytes).state.mode ≡ true
viable_running bytes v =
    rw (v.2.spelled, segmentation_bytes v.0 v.1 v.2.whole v.2.possible v.2.complete) (mode_running v.1)

pub running_viable : (bytes : List ℕ) → is_running (after_bytes initial bytes).state.mode ≡ true → Viable bytes
running_viable bytes go = let a = running_state bytes go in (a.lexemes, a.partial, a.segmentation)

-- the bytes so far fix the tokens that are complete, and the state
pub unique_state : (bytes : List ℕ) (s t : List Token) (p q : LexerState) → IsStateAfter bytes s p → IsStateAfter bytes t q → (s ≡ t) × (p ≡ q)
unique_state bytes s t p q a b =
    let e : record { given = s; state = p } ≡ record { given = t; state = q } = sym (segmentation_configuration bytes s p a) ∙ segmentation_configuration bytes t q b in
    (ap (λ r. r.given) e, ap (λ r. r.state) e)

-- the bytes end in a state that has no fault at the end, with these tokens
pub record IsEnd (bytes : List ℕ) (tokens : List Token) : Type 0 where
  pub given : List Token
  pub left : List Token
  pub state : LexerState
  pub after : IsStateAfter bytes given state
  pub ends : end_of state.mode state.start ≡ Ended left
  pub in_order : tokens ≡ given ++ left

ends_at : (bytes : List ℕ) (tokens left : List Token) (ps : List Lexeme) (partial : PartialLexeme) → IsSegmentation bytes ps partial
    → end_of (mode_of partial) (length (joined_text ps)) ≡ Ended left → tokens ≡ lexeme_tokens ps ++ left → IsEnd bytes tokens
ends_at bytes tokens left ps partial segmentation ends in_order = record {
  given = lexeme_tokens ps;
  left = left;
  state = record { start = length (joined_text ps); at = length bytes; mode = mode_of partial };
  after = record { lexemes = ps; partial = partial; segmentation = segmentation; in_order = refl; here = refl };
  ends = ends;
  in_order = in_order;
}

lexes_end : (bytes : List ℕ) (tokens : List Token) (ps : List Lexeme) → bytes ≡ joined_text ps → AreLexemes ps → tokens ≡ lexeme_tokens ps → IsEnd bytes tokens
lexes_end bytes tokens [] e w t = ends_at bytes tokens [] [] NoLexeme (record { spelled = e; whole = w; complete = refl; possible = tt }) refl t
lexes_end bytes tokens (WhiteSpace b ∷ ps) e w t =
    ends_at bytes tokens [] (WhiteSpace b ∷ ps) NoLexeme (record { spelled = e ∙ sym (append-nil (joined_text ps ++ b ∷ [])); whole = w; complete = refl; possible = tt }) refl (t ∙ sym (append-nil (lexeme_tokens ps)))
lexes_end bytes tokens (Comment bs ∷ ps) e w t =
    ends_at bytes tokens [] ps (PartialComment bs) (record { spelled = e; whole = w.2; complete = w.1; possible = w.0 }) refl (t ∙ sym (append-nil (lexeme_tokens ps)))
lexes_end bytes tokens (OpenParen ∷ ps) e w t =
    ends_at bytes tokens [] (OpenParen ∷ ps) NoLexeme (record { spelled = e ∙ sym (append-nil (joined_text (OpenParen ∷ ps))); whole = w; complete = refl; possible = tt }) refl (t ∙ sym (append-nil (lexeme_tokens (OpenParen ∷ ps))))
lexes_end bytes tokens (CloseParen ∷ ps) e w t =
    ends_at bytes tokens [] (CloseParen ∷ ps) NoLexeme (record { spelled = e ∙ sym (append-nil (joined_text (CloseParen ∷ ps))); whole = w; complete = refl; possible = tt }) refl (t ∙ sym (append-nil (lexeme_tokens (CloseParen ∷ ps))))
lexes_end bytes tokens (Word kind bs ∷ ps) e w t =
    ends_at bytes tokens (record { kind = kind; name = bs; at = length (joined_text ps) } ∷ []) ps (PartialWord bs)
    (record { spelled = e; whole = w.2; complete = w.1; possible = inl (kind, w.0) }) (ap (λ k. word_end k bs (length (joined_text ps))) (class_spells kind bs w.0)) t
lexes_end bytes tokens (StringLiteral name ∷ ps) e w t =
    ends_at bytes tokens (record { kind = Str; name = name; at = length (joined_text ps) } ∷ []) ps (ClosedString name) (record { spelled = e; whole = w.2; complete = w.1; possible = w.0 }) refl t
lexes_end bytes tokens (QuotedSymbol name ∷ ps) e w t =
    ends_at bytes tokens [] (QuotedSymbol name ∷ ps) NoLexeme (record { spelled = e ∙ sym (append-nil (joined_text (QuotedSymbol name ∷ ps))); whole = w; complete = refl; possible = tt }) refl (t ∙ sym (append-nil (lexeme_tokens (QuotedSymbol name ∷ ps))))

ended_same : (xs ys : List Token) → Ended xs ≡ Ended ys → xs ≡ ys
ended_same xs ys e = cc

-- and back
end_lexes_at : (bytes : List ℕ) (left : List Token) (ps : List Lexeme) (partial : PartialLexeme) → IsSegmentation bytes ps partial → end_of (mode_of partial) (length (joined_text ps)) ≡ Ended left → Lexes bytes (lexeme_tokens ps ++ left)
end_lexes_at bytes left ps NoLexeme c e = record { lexemes = ps; spelled = c.spelled ∙ append-nil (joined_text ps); whole = c.whole; in_order = rw (← ended_same [] left e) (append-nil (lexeme_tokens ps)) }
end_lexes_at bytes left ps (PartialComment bs) c e = record { lexemes = Comment bs ∷ ps; spelled = c.spelled; whole = (c.possible, c.complete, c.whole); in_order = rw (← ended_same [] left e) (append-nil (lexeme_tokens ps)) }
end_lexes_at bytes left ps (PartialWord bs) c e = elim (cases_kind (kind_at (class_from Empty bs) bs)) [
  | inl some ↦ record {
    lexemes = Word some.0 bs ∷ ps;
    spelled = c.spelled;
    whole = (word_spells bs some.0 some.1, c.complete, c.whole);
    in_order = rw (← ended_same (record { kind = some.0; name = bs; at = length (joined_text ps) } ∷ []) left (ap (λ k. word_end k bs (length (joined_text ps))) (sym some.1) ∙ e)) refl;
  }
  | inr none ↦ (let k : word_end None bs (length (joined_text ps)) ≡ Ended left = ap (λ k. word_end k bs (length (joined_text ps))) (sym none) ∙ e in cc)
]
end_lexes_at bytes left ps (PartialString name) c e = cc
end_lexes_at bytes left ps (ClosedString name) c e = record {
  lexemes = StringLiteral name ∷ ps;
  spelled = c.spelled;
  whole = (c.possible, c.complete, c.whole);
  in_order = rw (← ended_same (record { kind = Str; name = name; at = length (joined_text ps) } ∷ []) left e) refl;
}
end_lexes_at bytes left ps (PartialQuotedSymbol name) c e = cc

pub end_lexes : (bytes : List ℕ) (tokens left : List Token) (p : LexerState) → IsStateAfter bytes tokens p → end_of p.mode p.start ≡ Ended left → Lexes bytes (tokens ++ left)
end_lexes bytes tokens left p a e =
    rw (a.in_order) (end_lexes_at bytes left a.lexemes a.partial a.segmentation (ap (λ p. end_of p.mode p.start) (sym a.here) ∙ e))

pub lexes_ended : (bytes : List ℕ) (tokens : List Token) → Lexes bytes tokens → IsEnd bytes tokens
lexes_ended bytes tokens l = lexes_end bytes tokens l.lexemes l.spelled l.whole l.in_order

-- the bytes fix the tokens
pub unique_tokens : (bytes : List ℕ) (s t : List Token) → Lexes bytes s → Lexes bytes t → s ≡ t
unique_tokens bytes s t l m =
    let a = lexes_ended bytes s l in let b = lexes_ended bytes t m in
    let same = unique_state bytes a.given b.given a.state b.state a.after b.after in
    let left : Ended a.left ≡ Ended b.left = sym a.ends ∙ ap (λ p. end_of p.mode p.start) same.1 ∙ b.ends in
    a.in_order ∙ ap (λ xs. xs ++ a.left) same.0 ∙ ap (λ xs. b.given ++ xs) (ended_same a.left b.left left) ∙ sym b.in_order

-- what lexes in the end is viable so far
pub lexes_viable : (bytes more : List ℕ) (tokens : List Token) → Lexes (bytes ++ more) tokens → Viable bytes
lexes_viable bytes more tokens l =
    let a = lexes_ended (bytes ++ more) tokens l in
    let v : Viable (bytes ++ more) = (a.after.lexemes, a.after.partial, a.after.segmentation) in
    let go = viable_running (bytes ++ more) v in
    running_viable bytes (true_from_ne_false (is_running (after_bytes initial bytes).state.mode)
    λ no. let k = failed_stays (after_bytes initial bytes) more no in let same = ap (λ r. is_running r.state.mode) (after_bytes-append initial bytes more) in cc)

lexes_with : (bytes more : List ℕ) (ps : List Lexeme) (partial : PartialLexeme) (p : Lexeme) → IsSegmentation bytes ps partial → IsLexeme p → partial_text partial ++ more ≡ lexeme_text p → last_complete ps (lexeme_text p) ≡ true
    → Lexes (bytes ++ more) (lexeme_tokens (p ∷ ps))
lexes_with bytes more ps partial p c h e o = record {
  lexemes = p ∷ ps;
  spelled = ap (λ xs. xs ++ more) c.spelled ∙ append_assoc (joined_text ps) (partial_text partial) more ∙ ap (λ xs. joined_text ps ++ xs) e;
  whole = (h, o, c.whole);
  in_order = refl;
}

-- a partial word has a continuation that spells a token
word_completion : (bs : List ℕ) → IsPartialLexeme (PartialWord bs) → (more : List ℕ) × (kind : TokKind) × WordSpells kind (bs ++ more)
unfolding is_hex_digit is_binary_digit is_digit is_symbol_byte is_letter
word_completion bs (inl h) = ([], h.0, rw append-nil (h.1))
word_completion bs (inr (inl e)) = (120 ∷ 48 ∷ [], Hexadecimal, (48 ∷ [], ap (λ xs. xs ++ 120 ∷ 48 ∷ []) e, refl))
word_completion bs (inr (inr (inl e))) = (48 ∷ [], Hexadecimal, (48 ∷ [], ap (λ xs. xs ++ 48 ∷ []) e, refl))
word_completion bs (inr (inr (inr (inl e)))) = (48 ∷ [], Binary, (48 ∷ [], ap (λ xs. xs ++ 48 ∷ []) e, refl))
word_completion bs (inr (inr (inr (inr (inl e))))) = (97 ∷ [], Keyword, (97 ∷ [], ap (λ xs. xs ++ 97 ∷ []) e, refl))
word_completion bs (inr (inr (inr (inr (inr h))))) = (48 ∷ [], Decimal, (h.0, 48 ∷ [], ap (λ xs. xs ++ 48 ∷ []) h.1 ∙ append_assoc h.0 (46 ∷ []) (48 ∷ []), h.2, refl))

complete_more : (ps : List Lexeme) (bs more : List ℕ) → IsPartialLexeme (PartialWord bs) → last_complete ps bs ≡ true → last_complete ps (bs ++ more) ≡ true
complete_more ps [] more h o = let k = partial_live [] h in cc
complete_more ps (b ∷ bs) more h o = complete_first ps b (bs ++ more) bs ∙ o

has_continuation : (bytes : List ℕ) (ps : List Lexeme) (partial : PartialLexeme) → IsSegmentation bytes ps partial → (more : List ℕ) × (tokens : List Token) × Lexes (bytes ++ more) tokens
has_continuation bytes ps NoLexeme c = ([], lexeme_tokens ps, record { lexemes = ps; spelled = append-nil bytes ∙ c.spelled ∙ append-nil (joined_text ps); whole = c.whole; in_order = refl })
has_continuation bytes ps (PartialComment bs) c = ([], lexeme_tokens (Comment bs ∷ ps), lexes_with bytes [] ps (PartialComment bs) (Comment bs) c c.possible (append-nil (59 ∷ bs)) c.complete)
has_continuation bytes ps (PartialWord bs) c =
    let m = word_completion bs c.possible in
    (m.0, lexeme_tokens (Word m.1 (bs ++ m.0) ∷ ps), lexes_with bytes m.0 ps (PartialWord bs) (Word m.1 (bs ++ m.0)) c m.2 refl (complete_more ps bs m.0 c.possible c.complete))
has_continuation bytes ps (PartialString name) c =
    (34 ∷ [], lexeme_tokens (StringLiteral name ∷ ps), lexes_with bytes (34 ∷ []) ps (PartialString name) (StringLiteral name) c c.possible refl (complete_first ps 34 (quotes_doubled name ++ 34 ∷ []) (quotes_doubled name) ∙ c.complete))
has_continuation bytes ps (ClosedString name) c = ([], lexeme_tokens (StringLiteral name ∷ ps), lexes_with bytes [] ps (ClosedString name) (StringLiteral name) c c.possible (append-nil (34 ∷ (quotes_doubled name ++ 34 ∷ []))) c.complete)
has_continuation bytes ps (PartialQuotedSymbol name) c =
    (124 ∷ [], lexeme_tokens (QuotedSymbol name ∷ ps), lexes_with bytes (124 ∷ []) ps (PartialQuotedSymbol name) (QuotedSymbol name) c c.possible refl (complete_first ps 124 (name ++ 124 ∷ []) name ∙ c.complete))

-- viable bytes have a continuation that lexes
pub viable_lexes : (bytes : List ℕ) → Viable bytes → (more : List ℕ) × (tokens : List Token) × Lexes (bytes ++ more) tokens
viable_lexes bytes v = has_continuation bytes v.0 v.1 v.2
