-- The tokens of a text are fixed, and those of a longer text begin with them.
use Rattle.std.proofs.Common.{◌≡◌, ℕ, Bool, true, false, List, [], ◌∷◌, ◌++◌, length, Option, None, Some, refl, sym, ◌∙◌, ap, subst, append_assoc, append-nil, inl, inr}
use Rattle.std.proofs.lemmas.Bool.{cases_Bool}
use Rattle.lex_core.proofs.FaultLaws.{failed_at, fault_excludes_lexes, unique_fault}
use Rattle.lex_core.proofs.LexingLaws.{end_lexes, initial_state, lexes_viable, unique_state, unique_tokens, viable_lexes}
use Rattle.lex_core.proofs.StepFaults.{end_faults, step_faults}
use Rattle.lex_core.proofs.StepsToSegmentation.{step_segmentation}
use Rattle.lex_core.specs.Faults.{AtByte, AtEnd, ShowsFault}
use Rattle.lex_core.specs.Lexeme.{Lexes, joined_text}
use Rattle.lex_core.specs.LexerSteps.{Between, End, Ended, Faulty as Failing, IsStateAfter, LexerState, end_of, is_running, mode_of, step}
use Rattle.lex_core.specs.Segmentation.{Viable}
use Rattle.lex_core.specs.Token.{Token}
use Rattle.lex_core.specs.declared.place.Place.{Place}
use Rattle.sig_table.specs.declared.code.Code.{Code}
use Rattle.script_core.specs.Text.{AreComplete, HasTokens, Whole, GoesOn, Faulty}

-- tokens that are complete, and the state of a lexer there
pub complete_state : (bytes : List ℕ) (tokens : List Token) → AreComplete bytes tokens → (p : LexerState) × IsStateAfter bytes tokens p
complete_state bytes tokens c = (
  record { start = length (joined_text c.lexemes); at = length bytes; mode = mode_of c.partial },
  record { lexemes = c.lexemes; partial = c.partial; segmentation = c.segmentation; in_order = c.in_order; here = refl },
)

pub state_complete : (bytes : List ℕ) (tokens : List Token) (p : LexerState) → IsStateAfter bytes tokens p → AreComplete bytes tokens
state_complete bytes tokens p a = record { lexemes = a.lexemes; partial = a.partial; segmentation = a.segmentation; in_order = a.in_order }

-- what is viable is so at each byte
viable_front : (bytes front : List ℕ) (b : ℕ) (more : List ℕ) → bytes ≡ front ++ b ∷ more → Viable bytes → Viable (front ++ b ∷ [])
viable_front bytes front b more e v =
    let l = viable_lexes bytes v in
    let split : bytes ++ l.0 ≡ (front ++ b ∷ []) ++ (more ++ l.0) =
    ap (λ xs. xs ++ l.0) (e ∙ sym (append_assoc front (b ∷ []) more)) ∙ append_assoc (front ++ b ∷ []) more l.0 in
    lexes_viable (front ++ b ∷ []) (more ++ l.0) l.1 (subst (λ (xs : List ℕ). Lexes xs l.1) split l.2)

-- bytes that may go on show no fault before their end
complete_no_fault : (bytes : List ℕ) (s t : List Token) (ended : Bool) (at : ℕ) (code : Code) → ended ≡ false → AreComplete bytes s → ShowsFault bytes t ended at code → ⊥
complete_no_fault bytes s t ended at code not_ended c (AtByte front b more e out stops) = out (viable_front bytes front b more e (c.lexemes, c.partial, c.segmentation))
complete_no_fault bytes s t ended at code not_ended c (AtEnd lexemes partial segmentation in_order fault) = let k : true ≡ false = not_ended in cc

pub same_place : (p q : Place) → p.code ≡ q.code → p.at ≡ q.at → p ≡ q
same_place p q e f =
    let one : p ≡ record p { code = q.code } = ap (λ (c : Code). record p { code = c }) e in
    one ∙ ap (λ (n : ℕ). record p { code = q.code; at = n }) f

-- the bytes and whether their end was seen fix the tokens, and the fault
pub tokens_once : (bytes : List ℕ) (s t : List Token) (ended closed : Bool) (f g : Option Place) → ended ≡ closed → HasTokens bytes s ended f → HasTokens bytes t closed g → (s ≡ t) × (f ≡ g)
tokens_once bytes s t ended closed f g e (Whole l) (Whole m) = (unique_tokens bytes s t l m, refl)
tokens_once bytes s t ended closed f g e (Whole l) (GoesOn c) = let k : true ≡ false = e in cc
tokens_once bytes s t ended closed f g e (Whole l) (Faulty place shows) = absurd (fault_excludes_lexes bytes t s closed place.at place.code shows l)
tokens_once bytes s t ended closed f g e (GoesOn c) (Whole m) = let k : false ≡ true = e in cc
tokens_once bytes s t ended closed f g e (GoesOn c) (GoesOn d) =
    let p = complete_state bytes s c in let q = complete_state bytes t d in ((unique_state bytes s t p.0 q.0 p.1 q.1).0, refl)
tokens_once bytes s t ended closed f g e (GoesOn c) (Faulty place shows) = absurd (complete_no_fault bytes s t closed place.at place.code (sym e) c shows)
tokens_once bytes s t ended closed f g e (Faulty place shows) (Whole m) = absurd (fault_excludes_lexes bytes s t ended place.at place.code shows m)
tokens_once bytes s t ended closed f g e (Faulty place shows) (GoesOn d) = absurd (complete_no_fault bytes t s ended place.at place.code e d shows)
tokens_once bytes s t ended closed f g e (Faulty place shows) (Faulty other also) =
    let same = unique_fault bytes s t ended closed place.at other.at place.code other.code shows also in
    (same.0, ap Some (same_place place other same.2 same.1))

-- a fault before the end stays where more bytes follow
pub fault_stays : (bytes : List ℕ) (tokens : List Token) (early : Bool) (at : ℕ) (code : Code) (more : List ℕ) (ended : Bool) → early ≡ false
    → ShowsFault bytes tokens early at code → ShowsFault (bytes ++ more) tokens ended at code
fault_stays bytes tokens early at code more ended early_on (AtByte front b rest e out stops) =
    AtByte front b (rest ++ more) (ap (λ xs. xs ++ more) e ∙ append_assoc front (b ∷ rest) more) out stops
fault_stays bytes tokens early at code more ended early_on (AtEnd lexemes partial segmentation in_order fault) = let k : true ≡ false = early_on in cc

-- the tokens of a longer text
pub record TokensFrom (bytes : List ℕ) (tokens : List Token) (more : List ℕ) (ended : Bool) : Type 0 where
  pub later : List Token
  pub fault : Option Place
  pub has_tokens : HasTokens (bytes ++ more) (tokens ++ later) ended fault

at_end : (bytes : List ℕ) (tokens : List Token) (p : LexerState) (end : End) → IsStateAfter bytes tokens p → end_of p.mode p.start ≡ end → TokensFrom bytes tokens [] true
at_end bytes tokens p (Ended left) a e = record {
  later = left;
  fault = None;
  has_tokens = subst (λ (xs : List ℕ). HasTokens xs (tokens ++ left) true None) (sym (append-nil bytes)) (Whole (end_lexes bytes tokens left p a e));
}
at_end bytes tokens p (Failing at code) a e = record {
  later = [];
  fault = Some (record { code = code; at = at });
  has_tokens = subst (λ (xs : List ℕ). HasTokens xs (tokens ++ []) true (Some (record { code = code; at = at }))) (sym (append-nil bytes))
      (subst (λ (ts : List Token). HasTokens bytes ts true (Some (record { code = code; at = at }))) (sym (append-nil tokens))
      (Faulty (record { code = code; at = at }) (end_faults bytes tokens p at code a e)));
}

not_ended : (bytes : List ℕ) (tokens : List Token) (p : LexerState) → IsStateAfter bytes tokens p → TokensFrom bytes tokens [] false
not_ended bytes tokens p a = record {
  later = [];
  fault = None;
  has_tokens = subst (λ (xs : List ℕ). HasTokens xs (tokens ++ []) false None) (sym (append-nil bytes))
      (subst (λ (ts : List Token). HasTokens bytes ts false None) (sym (append-nil tokens)) (GoesOn (state_complete bytes tokens p a)));
}

after_byte : (bytes : List ℕ) (tokens out : List Token) (b : ℕ) (more : List ℕ) (ended : Bool) → TokensFrom (bytes ++ b ∷ []) (tokens ++ out) more ended → TokensFrom bytes tokens (b ∷ more) ended
after_byte bytes tokens out b more ended t = record {
  later = out ++ t.later;
  fault = t.fault;
  has_tokens = subst (λ (xs : List ℕ). HasTokens xs (tokens ++ (out ++ t.later)) ended t.fault) (append_assoc bytes (b ∷ []) more)
      (subst (λ (ts : List Token). HasTokens ((bytes ++ b ∷ []) ++ more) ts ended t.fault) (append_assoc tokens out t.later) t.has_tokens);
}

stopped : (bytes : List ℕ) (tokens out : List Token) (b : ℕ) (more : List ℕ) (ended : Bool) (at : ℕ) (code : Code) → ShowsFault (bytes ++ b ∷ []) (tokens ++ out) false at code → TokensFrom bytes tokens (b ∷ more) ended
stopped bytes tokens out b more ended at code shows = record {
  later = out;
  fault = Some (record { code = code; at = at });
  has_tokens = Faulty (record { code = code; at = at })
      (subst (λ (xs : List ℕ). ShowsFault xs (tokens ++ out) ended at code) (append_assoc bytes (b ∷ []) more)
      (fault_stays (bytes ++ b ∷ []) (tokens ++ out) false at code more ended refl shows));
}

pub tokens_from : (more bytes : List ℕ) (tokens : List Token) (p : LexerState) (ended : Bool) → IsStateAfter bytes tokens p → TokensFrom bytes tokens more ended
tokens_from [] bytes tokens p true a = at_end bytes tokens p (end_of p.mode p.start) a refl
tokens_from [] bytes tokens p false a = not_ended bytes tokens p a
tokens_from (b ∷ more) bytes tokens p ended a = elim (cases_Bool (is_running (step p b).next.mode)) [
  | inl going ↦ after_byte bytes tokens (step p b).out b more ended
      (tokens_from more (bytes ++ b ∷ []) (tokens ++ (step p b).out) (step p b).next ended (step_segmentation bytes tokens p b a going))
  | inr stops ↦ let f = failed_at (step p b).next.mode stops in
      stopped bytes tokens (step p b).out b more ended f.0 f.1 (step_faults bytes tokens p b f.0 f.1 a f.2 false)
]

-- every text has tokens
pub some_tokens : (bytes : List ℕ) (ended : Bool) → TokensFrom [] [] bytes ended
some_tokens bytes ended = tokens_from bytes [] [] (record { start = 0; at = 0; mode = Between }) ended initial_state
