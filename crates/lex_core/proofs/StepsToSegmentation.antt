-- The bytes that the lexer has read have a segmentation.
use Rattle.std.proofs.Common.{◌≡◌, ℕ, ◌+◌, true, ◌==◌, ◌&&◌, not, if◌then◌else◌, List, [], ◌∷◌, ◌++◌, ◌⊎◌, length, refl, sym, ◌∙◌, ap, subst, append_assoc, append-nil, length-append, Option, Some, None, inl, inr}
use Rattle.std.proofs.lemmas.Bool.{cond_both, and_from, eqb-true, cond-false, not_from_false}
use Rattle.lex_core.proofs.SegmentationToSteps.{complete_first, partial_live}
use Rattle.lex_core.proofs.WordClassSpelling.{all_push, class_from-append, word_spells, word_unfinished}
use Rattle.lex_core.specs.Bytes.{is_digit, is_line_end, is_printable, is_symbol_byte, is_text_byte, is_white_space, is_word_byte}
use Rattle.lex_core.specs.Lexeme.{AreLexemes, CloseParen, Comment, Lexeme, OpenParen, QuotedSymbol, StringLiteral, WhiteSpace, Word, is_quoted_byte, joined_text, last_complete, lexeme_tokens, quotes_doubled}
use Rattle.lex_core.specs.LexerSteps.{Between, InComment, InQuotedSymbol, InString, InWord, IsStateAfter, LexerState, Step, after_word, begin_lexeme, continues, emits, is_running, mode_of, step, step_in}
use Rattle.lex_core.specs.Segmentation.{ClosedString, IsPartialLexeme, NoLexeme, PartialComment, PartialLexeme, PartialQuotedSymbol, PartialString, PartialWord, partial_text}
use Rattle.lex_core.specs.Token.{Token}
use Rattle.lex_core.specs.WordClasses.{class_from, is_live, kind_at, next_class}
use Rattle.lex_core.specs.declared.token.TokKind.{TokKind}
use Rattle.lex_core.specs.declared.token.TokKind.TheVariants.{Str}
use Rattle.lex_core.specs.declared.word.WordClass.TheVariants.{Empty}

pub cases_kind : (o : Option TokKind) → ((kind : TokKind) × (o ≡ Some kind)) ⊎ (o ≡ None)
cases_kind (Some kind) = inl (kind, refl)
cases_kind None = inr refl

-- a word that is live is a partial lexeme
pub live_partial : (bs : List ℕ) → is_live (class_from Empty bs) ≡ true → IsPartialLexeme (PartialWord bs)
live_partial bs h = elim (cases_kind (kind_at (class_from Empty bs) bs)) [
  | inl some ↦ inl (some.0, word_spells bs some.0 some.1)
  | inr none ↦ inr (word_unfinished bs h none)
]

-- a word byte may begin a word
pub word_begins : (b : ℕ) → is_word_byte b ≡ true → is_live (next_class Empty b) ≡ true
unfolding is_word_byte
word_begins b h =
    cond_both (b == 48) _ _ (λ class. is_live class ≡ true) (λ yes. refl) λ _.
    cond_both (is_digit b) _ _ (λ class. is_live class ≡ true) (λ yes. refl) λ _.
    cond_both (b == 35) _ _ (λ class. is_live class ≡ true) (λ yes. refl) λ no35.
    cond_both (b == 58) _ _ (λ class. is_live class ≡ true) (λ yes. refl) λ no58.
    cond_both (is_symbol_byte b) _ _ (λ class. is_live class ≡ true) (λ yes. refl) λ no. (let k = rw (no, no58, no35) at h in cc)

abbrev IsBegun : List Lexeme → ℕ → Step → Type 0
IsBegun ps b t = is_running t.next.mode ≡ true → IsStateAfter (joined_text ps ++ b ∷ []) (lexeme_tokens ps ++ t.out) t.next

-- a byte where no lexeme is open
begin_segmentation : (ps : List Lexeme) (b : ℕ) → AreLexemes ps → last_complete ps (b ∷ []) ≡ true → IsBegun ps b (begin_lexeme (length (joined_text ps)) b)
begin_segmentation ps b w o =
    let n : length (joined_text ps) + 1 ≡ length (joined_text ps ++ b ∷ []) = sym (length-append (joined_text ps) (b ∷ [])) in
    cond_both (is_word_byte b) _ _ (IsBegun ps b) (λ yes go. record {
      lexemes = ps;
      partial = PartialWord (b ∷ []);
      segmentation = record { spelled = refl; whole = w; complete = o; possible = live_partial (b ∷ []) (word_begins b yes) };
      in_order = append-nil (lexeme_tokens ps);
      here = ap (λ n. record { start = length (joined_text ps); at = n; mode = mode_of (PartialWord (b ∷ [])) }) n;
    }) λ _.
    cond_both (is_white_space b) _ _ (IsBegun ps b) (λ yes go. record {
      lexemes = WhiteSpace b ∷ ps;
      partial = NoLexeme;
      segmentation = record { spelled = sym (append-nil (joined_text ps ++ b ∷ [])); whole = (yes, o, w); complete = refl; possible = tt };
      in_order = append-nil (lexeme_tokens ps);
      here = ap (λ n. record { start = n; at = n; mode = Between }) n;
    }) λ _.
    cond_both (b == 40) _ _ (IsBegun ps b) (λ yes go.
    let e = eqb-true b 40 yes in let at = length-append (joined_text ps) (40 ∷ []) in record {
      lexemes = OpenParen ∷ ps;
      partial = NoLexeme;
      segmentation = record { spelled = ap (λ x. joined_text ps ++ x ∷ []) e ∙ sym (append-nil (joined_text ps ++ 40 ∷ [])); whole = (tt, subst (λ x. last_complete ps (x ∷ []) ≡ true) e o, w); complete = refl; possible = tt };
      in_order = refl;
      here = rw (e, at) refl;
    }) λ _.
    cond_both (b == 41) _ _ (IsBegun ps b) (λ yes go.
    let e = eqb-true b 41 yes in let at = length-append (joined_text ps) (41 ∷ []) in record {
      lexemes = CloseParen ∷ ps;
      partial = NoLexeme;
      segmentation = record { spelled = ap (λ x. joined_text ps ++ x ∷ []) e ∙ sym (append-nil (joined_text ps ++ 41 ∷ [])); whole = (tt, subst (λ x. last_complete ps (x ∷ []) ≡ true) e o, w); complete = refl; possible = tt };
      in_order = refl;
      here = rw (e, at) refl;
    }) λ _.
    cond_both (b == 59) _ _ (IsBegun ps b) (λ yes go.
    let e = eqb-true b 59 yes in record {
      lexemes = ps;
      partial = PartialComment [];
      segmentation = record { spelled = ap (λ x. joined_text ps ++ x ∷ []) e; whole = w; complete = subst (λ x. last_complete ps (x ∷ []) ≡ true) e o; possible = refl };
      in_order = append-nil (lexeme_tokens ps);
      here = ap (λ n. record { start = length (joined_text ps); at = n; mode = InComment }) n;
    }) λ _.
    cond_both (b == 34) _ _ (IsBegun ps b) (λ yes go.
    let e = eqb-true b 34 yes in record {
      lexemes = ps;
      partial = PartialString [];
      segmentation = record { spelled = ap (λ x. joined_text ps ++ x ∷ []) e; whole = w; complete = subst (λ x. last_complete ps (x ∷ []) ≡ true) e o; possible = refl };
      in_order = append-nil (lexeme_tokens ps);
      here = ap (λ n. record { start = length (joined_text ps); at = n; mode = InString [] }) n;
    }) λ _.
    cond_both (b == 124) _ _ (IsBegun ps b) (λ yes go.
    let e = eqb-true b 124 yes in record {
      lexemes = ps;
      partial = PartialQuotedSymbol [];
      segmentation = record { spelled = ap (λ x. joined_text ps ++ x ∷ []) e; whole = w; complete = subst (λ x. last_complete ps (x ∷ []) ≡ true) e o; possible = refl };
      in_order = append-nil (lexeme_tokens ps);
      here = ap (λ n. record { start = length (joined_text ps); at = n; mode = InQuotedSymbol [] }) n;
    }) λ _.
    λ go. cc

pub quote_is_text : is_text_byte 34 ≡ true
unfolding is_text_byte is_white_space is_printable
quote_is_text = refl

-- one byte after a segmentation
abbrev IsStepped : List Lexeme → PartialLexeme → ℕ → Step → Type 0
IsStepped ps partial b t = is_running t.next.mode ≡ true → IsStateAfter ((joined_text ps ++ partial_text partial) ++ b ∷ []) (lexeme_tokens ps ++ t.out) t.next

-- what is open goes on by this byte
partial_continues : (ps : List Lexeme) (partial partial' : PartialLexeme) (b : ℕ) → AreLexemes ps → IsPartialLexeme partial' → last_complete ps (partial_text partial') ≡ true → partial_text partial ++ b ∷ [] ≡ partial_text partial'
    → IsStepped ps partial b (continues (length (joined_text ps)) (length (joined_text ps ++ partial_text partial)) (mode_of partial'))
partial_continues ps partial partial' b w h o e go = record {
  lexemes = ps;
  partial = partial';
  segmentation = record { spelled = append_assoc (joined_text ps) (partial_text partial) (b ∷ []) ∙ ap (λ xs. joined_text ps ++ xs) e; whole = w; complete = o; possible = h };
  in_order = append-nil (lexeme_tokens ps);
  here = ap (λ n. record { start = length (joined_text ps); at = n; mode = mode_of partial' }) (sym (length-append (joined_text ps ++ partial_text partial) (b ∷ [])));
}

-- what is open is a lexeme, and the byte begins another
lexeme_closes : (ps : List Lexeme) (p : Lexeme) (kind : TokKind) (name : List ℕ) (b : ℕ) → AreLexemes (p ∷ ps) → last_complete (p ∷ ps) (b ∷ []) ≡ true
    → lexeme_tokens (p ∷ ps) ≡ lexeme_tokens ps ++ record { kind = kind; name = name; at = length (joined_text ps) } ∷ []
    → let t = emits kind name (length (joined_text ps)) (begin_lexeme (length (joined_text (p ∷ ps))) b) in
    is_running t.next.mode ≡ true → IsStateAfter (joined_text (p ∷ ps) ++ b ∷ []) (lexeme_tokens ps ++ t.out) t.next
lexeme_closes ps p kind name b w o in_order go =
    let t = begin_lexeme (length (joined_text (p ∷ ps))) b in
    subst (λ ts. IsStateAfter (joined_text (p ∷ ps) ++ b ∷ []) ts t.next)
    (ap (λ ts. ts ++ t.out) in_order ∙ append_assoc (lexeme_tokens ps) (record { kind = kind; name = name; at = length (joined_text ps) } ∷ []) t.out)
    (begin_segmentation (p ∷ ps) b w o go)

pub complete_any : (ps : List Lexeme) (b : ℕ) → last_complete ps [] ≡ true → last_complete ps (b ∷ []) ≡ true
complete_any [] b h = refl
complete_any (WhiteSpace c ∷ ps) b h = refl
complete_any (Comment bs ∷ ps) b h = cc
complete_any (OpenParen ∷ ps) b h = refl
complete_any (CloseParen ∷ ps) b h = refl
complete_any (Word kind bs ∷ ps) b h = cc
complete_any (StringLiteral name ∷ ps) b h = cc
complete_any (QuotedSymbol name ∷ ps) b h = refl

pub quotes_doubled_push : (name : List ℕ) (b : ℕ) → quotes_doubled (name ++ b ∷ []) ≡ quotes_doubled name ++ quotes_doubled (b ∷ [])
quotes_doubled_push [] b = refl
quotes_doubled_push (c ∷ name) b =
    cond_both (c == 34) (34 ∷ 34 ∷ quotes_doubled name) (c ∷ quotes_doubled name)
    (λ xs. (if c == 34 then 34 ∷ 34 ∷ quotes_doubled (name ++ b ∷ []) else c ∷ quotes_doubled (name ++ b ∷ [])) ≡ xs ++ quotes_doubled (b ∷ []))
    (λ yes. rw yes (ap (λ xs. 34 ∷ 34 ∷ xs) (quotes_doubled_push name b)))
    (λ no. rw no (ap (λ xs. c ∷ xs) (quotes_doubled_push name b)))

step_segmentation_in : (ps : List Lexeme) (partial : PartialLexeme) (b : ℕ) → AreLexemes ps → IsPartialLexeme partial → last_complete ps (partial_text partial) ≡ true
    → IsStepped ps partial b (step_in (mode_of partial) (length (joined_text ps)) (length (joined_text ps ++ partial_text partial)) b)
step_segmentation_in ps NoLexeme b w h o =
    subst (λ xs. let t = begin_lexeme (length xs) b in is_running t.next.mode ≡ true → IsStateAfter (xs ++ b ∷ []) (lexeme_tokens ps ++ t.out) t.next)
    (sym (append-nil (joined_text ps))) (begin_segmentation ps b w (complete_any ps b o))
step_segmentation_in ps (PartialComment bs) b w h o =
    cond_both (is_line_end b) _ _ (IsStepped ps (PartialComment bs) b)
    (λ yes. begin_segmentation (Comment bs ∷ ps) b (h, o, w) yes)
    (λ no. partial_continues ps (PartialComment bs) (PartialComment (bs ++ b ∷ [])) b w (all_push (λ c. not (is_line_end c)) bs b h (not_from_false (is_line_end b) no)) (complete_first ps 59 (bs ++ b ∷ []) bs ∙ o) refl)
step_segmentation_in ps (PartialWord []) b w h o = let k = partial_live [] h in cc
step_segmentation_in ps (PartialWord (c ∷ cs)) b w h o =
    let bs = c ∷ cs in
    cond_both (is_word_byte b) _ _ (IsStepped ps (PartialWord bs) b)
    (λ yes. cond_both (is_live (next_class (class_from Empty bs) b)) _ _ (IsStepped ps (PartialWord bs) b)
    (λ live. let e : class_from Empty (bs ++ b ∷ []) ≡ next_class (class_from Empty bs) b = class_from-append Empty bs (b ∷ []) in
    subst (λ class. IsStepped ps (PartialWord bs) b (continues (length (joined_text ps)) (length (joined_text ps ++ bs)) (InWord class (bs ++ b ∷ [])))) e
    (partial_continues ps (PartialWord bs) (PartialWord (bs ++ b ∷ [])) b w (live_partial (bs ++ b ∷ []) (ap is_live e ∙ live)) (complete_first ps c (cs ++ b ∷ []) cs ∙ o) refl))
    (λ dead go. cc))
    (λ no. elim (cases_kind (kind_at (class_from Empty bs) bs)) [
      | inl some ↦ subst (λ k. IsStepped ps (PartialWord bs) b (after_word k bs (length (joined_text ps)) (length (joined_text ps ++ bs)) b)) (sym some.1)
          (lexeme_closes ps (Word some.0 bs) some.0 bs b (word_spells bs some.0 some.1, o, w) (not_from_false (is_word_byte b) no) refl)
      | inr none ↦ subst (λ k. IsStepped ps (PartialWord bs) b (after_word k bs (length (joined_text ps)) (length (joined_text ps ++ bs)) b)) (sym none) (λ go. cc)
    ])
step_segmentation_in ps (PartialString name) b w h o =
    cond_both (b == 34) _ _ (IsStepped ps (PartialString name) b)
    (λ yes. partial_continues ps (PartialString name) (ClosedString name) b w h (complete_first ps 34 (quotes_doubled name ++ 34 ∷ []) (quotes_doubled name) ∙ o) (ap (λ x. 34 ∷ (quotes_doubled name ++ x ∷ [])) (eqb-true b 34 yes))) λ no.
    cond_both (is_text_byte b) _ _ (IsStepped ps (PartialString name) b)
    (λ yes. partial_continues ps (PartialString name) (PartialString (name ++ b ∷ [])) b w (all_push is_text_byte name b h yes) (complete_first ps 34 (quotes_doubled (name ++ b ∷ [])) (quotes_doubled name) ∙ o)
    (ap (λ xs. 34 ∷ xs) (sym (quotes_doubled_push name b ∙ ap (λ xs. quotes_doubled name ++ xs) (cond-false (b == 34) _ _ no)))))
    (λ _ go. cc)
step_segmentation_in ps (ClosedString name) b w h o =
    cond_both (b == 34) _ _ (IsStepped ps (ClosedString name) b)
    (λ yes. partial_continues ps (ClosedString name) (PartialString (name ++ 34 ∷ [])) b w (all_push is_text_byte name 34 h quote_is_text) (complete_first ps 34 (quotes_doubled (name ++ 34 ∷ [])) (quotes_doubled name ++ 34 ∷ []) ∙ o)
    (ap (λ xs. 34 ∷ xs) (append_assoc (quotes_doubled name) (34 ∷ []) (b ∷ []) ∙ ap (λ x. quotes_doubled name ++ 34 ∷ x ∷ []) (eqb-true b 34 yes) ∙ sym (quotes_doubled_push name 34))))
    (λ no. lexeme_closes ps (StringLiteral name) Str name b (h, o, w) (not_from_false (b == 34) no) refl)
step_segmentation_in ps (PartialQuotedSymbol name) b w h o =
    cond_both (b == 124) _ _ (IsStepped ps (PartialQuotedSymbol name) b)
    (λ yes go.
    let e = eqb-true b 124 yes in
    let spelled : (joined_text ps ++ 124 ∷ name) ++ b ∷ [] ≡ joined_text (QuotedSymbol name ∷ ps) =
    append_assoc (joined_text ps) (124 ∷ name) (b ∷ []) ∙ ap (λ x. joined_text ps ++ 124 ∷ (name ++ x ∷ [])) e in
    let here : length (joined_text ps ++ 124 ∷ name) + 1 ≡ length (joined_text (QuotedSymbol name ∷ ps)) =
    sym (length-append (joined_text ps ++ 124 ∷ name) (b ∷ [])) ∙ ap length spelled in record {
      lexemes = QuotedSymbol name ∷ ps;
      partial = NoLexeme;
      segmentation = record { spelled = spelled ∙ sym (append-nil (joined_text (QuotedSymbol name ∷ ps))); whole = (h, complete_first ps 124 (name ++ 124 ∷ []) name ∙ o, w); complete = refl; possible = tt };
      in_order = refl;
      here = ap (λ n. record { start = n; at = n; mode = Between }) here ∙ ap (λ n. record { start = length (joined_text (QuotedSymbol name ∷ ps)); at = n; mode = Between }) (sym (ap length spelled));
    }) λ no124.
    cond_both (b == 92) _ _ (IsStepped ps (PartialQuotedSymbol name) b) (λ yes go. cc) λ no92.
    cond_both (is_text_byte b) _ _ (IsStepped ps (PartialQuotedSymbol name) b)
    (λ yes. partial_continues ps (PartialQuotedSymbol name) (PartialQuotedSymbol (name ++ b ∷ [])) b w (all_push is_quoted_byte name b h (and_from (not (b == 124)) (not (b == 92) && is_text_byte b) (not_from_false (b == 124) no124) (and_from (not (b == 92)) (is_text_byte b) (not_from_false (b == 92) no92) yes))) (complete_first ps 124 (name ++ b ∷ []) name ∙ o) refl)
    (λ _ go. cc)

pub step_segmentation : (bytes : List ℕ) (tokens : List Token) (p : LexerState) (b : ℕ) → IsStateAfter bytes tokens p → is_running (step p b).next.mode ≡ true
    → IsStateAfter (bytes ++ b ∷ []) (tokens ++ (step p b).out) (step p b).next
step_segmentation bytes tokens p b a go =
    let n = length (joined_text a.lexemes) in
    let P : LexerState → List ℕ → List Token → Type 0 = λ p bytes tokens. is_running (step p b).next.mode ≡ true → IsStateAfter (bytes ++ b ∷ []) (tokens ++ (step p b).out) (step p b).next in
    subst (λ p. P p bytes tokens) (sym a.here)
    (subst (λ bytes. P (record { start = n; at = length bytes; mode = mode_of a.partial }) bytes tokens) (sym a.segmentation.spelled)
    (subst (λ tokens. P (record { start = n; at = length (joined_text a.lexemes ++ partial_text a.partial); mode = mode_of a.partial }) (joined_text a.lexemes ++ partial_text a.partial) tokens) (sym a.in_order)
    (step_segmentation_in a.lexemes a.partial b a.segmentation.whole a.segmentation.possible a.segmentation.complete))) go
