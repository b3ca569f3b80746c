-- From a checker that takes bytes to what is said of the text.
use Rattle.std.proofs.Common.{◌≡◌, ℕ, ◌+◌, ◌<◌, ◌≤◌, ◌^◌, Bool, true, false, List, [], ◌∷◌, ◌++◌, length, take, drop, get_or, Err, sym, ◌∙◌, ap, subst, append_assoc, append-nil, arith}
use Rattle.std.proofs.lemmas.List.{length-append, length-take-le, take_more, take-append-drop}
use Rattle.term_store.specs.Command.{PlainCommand}
use Rattle.script_core.specs.declared.checker.Checker.{Checker}
use Rattle.script_core.specs.declared.refusal.Stop.{Stop}
use Rattle.script_core.specs.declared.refusal.Stop.TheVariants.{Refused, NoMemory}
use Rattle.script_core.specs.Acceptance.{Refuses, Sofar}
use Rattle.script_core.specs.Checking.{ExitsByte, ExitsBytes, HasExited, HasTaken, IfRefused, RefusesByte, RefusesBytes, TakesByte, TakesBytes, accepted_by}
use Rattle.script_core.specs.Judging.{Answers}
use Rattle.script_core.specs.SessionState.{IsGiven, SessionState, Stands}

pub takes_nothing : (c : Checker) → TakesBytes c [] c
takes_nothing c bytes h = subst (λ (xs : List ℕ). HasTaken xs c) (sym (append-nil bytes)) h

-- a byte of the chunk is within the bytes that may be given
pub room_left : (bytes piece : List ℕ) (i : ℕ) → i < length piece → length bytes + length piece ≤ 2 ^ 30 → length (bytes ++ take i piece) < 2 ^ 30
room_left bytes piece i inside few = omega (arith, length-append bytes (take i piece), length-take-le i piece (omega (arith, inside)), inside, few)

-- one more byte of the chunk
pub takes_more : (old c new : Checker) (piece : List ℕ) (i : ℕ) → i < length piece → TakesBytes old (take i piece) c → TakesByte c (get_or piece i 0) new
    → TakesBytes old (take (i + 1) piece) new
takes_more old c new piece i inside before next bytes h =
    let same : (bytes ++ take i piece) ++ get_or piece i 0 ∷ [] ≡ bytes ++ take (i + 1) piece =
    append_assoc bytes (take i piece) (get_or piece i 0 ∷ []) ∙ ap (λ (xs : List ℕ). bytes ++ xs) (sym (take_more piece i 0 inside)) in
    subst (λ (xs : List ℕ). HasTaken xs new) same (next (bytes ++ take i piece) (before bytes h))

-- the chunk, as the bytes before one of them, that one and those after it
split_at : (bytes piece more : List ℕ) (i : ℕ) → i < length piece → ((bytes ++ take i piece) ++ get_or piece i 0 ∷ []) ++ (drop (i + 1) piece ++ more) ≡ (bytes ++ piece) ++ more
split_at bytes piece more i inside =
    let whole : take i piece ++ get_or piece i 0 ∷ drop (i + 1) piece ≡ piece =
    sym (append_assoc (take i piece) (get_or piece i 0 ∷ []) (drop (i + 1) piece)) ∙ ap (λ (xs : List ℕ). xs ++ drop (i + 1) piece) (sym (take_more piece i 0 inside)) ∙ take-append-drop (i + 1) piece in
    append_assoc (bytes ++ take i piece) (get_or piece i 0 ∷ []) (drop (i + 1) piece ++ more)
    ∙ sym (append_assoc (bytes ++ take i piece) (get_or piece i 0 ∷ drop (i + 1) piece) more)
    ∙ ap (λ (xs : List ℕ). xs ++ more) (append_assoc bytes (take i piece) (get_or piece i 0 ∷ drop (i + 1) piece) ∙ ap (λ (xs : List ℕ). bytes ++ xs) whole)

-- a byte of the chunk is the first that shows a fault
pub byte_refused : (old c : Checker) (piece : List ℕ) (i : ℕ) (commands : List PlainCommand) (stop : Stop) → i < length piece → TakesBytes old (take i piece) c
    → IfRefused stop (RefusesByte c (get_or piece i 0) commands) → IfRefused stop (RefusesBytes old piece commands)
byte_refused old c piece i commands NoMemory inside before refuses = tt
byte_refused old c piece i commands (Refused refusal) inside before refuses = λ bytes more ended h.
    subst (λ (xs : List ℕ). Refuses xs ended commands refusal) (split_at bytes piece more i inside) (refuses (bytes ++ take i piece) (drop (i + 1) piece ++ more) ended (before bytes h))

-- a byte of the chunk ends the script
pub byte_ends : (old c : Checker) (piece : List ℕ) (i : ℕ) (commands : List PlainCommand) → i < length piece → TakesBytes old (take i piece) c → ExitsByte c (get_or piece i 0) commands → ExitsBytes old piece commands
byte_ends old c piece i commands inside before ends bytes h more ended =
    subst (λ (xs : List ℕ). Sofar xs ended commands) (split_at bytes piece more i inside) (ends (bytes ++ take i piece) (before bytes h) (drop (i + 1) piece ++ more) ended)

-- the answer to a chunk that is refused
pub feed_refused : (A : Type 0) (bytes piece : List ℕ) (c : Checker) (commands : List PlainCommand) (stop : Stop) → HasTaken bytes c
    → IfRefused stop (RefusesBytes c piece commands) → Answers {A = A} (bytes ++ piece) false commands (Err stop)
feed_refused A bytes piece c commands NoMemory h refuses = tt
feed_refused A bytes piece c commands (Refused refusal) h refuses =
    subst (λ (xs : List ℕ). Refuses xs false commands refusal) (append-nil (bytes ++ piece)) (refuses bytes [] false h)

-- what was accepted up to an `exit` stays so where more bytes come
pub exited_more : (bytes piece : List ℕ) (commands : List PlainCommand) → HasExited bytes commands → HasExited (bytes ++ piece) commands
exited_more bytes piece commands x more ended = subst (λ (xs : List ℕ). Sofar xs ended commands) (sym (append_assoc bytes piece more)) (x (piece ++ more) ended)

pub exited_now : (bytes : List ℕ) (ended : Bool) (commands : List PlainCommand) → HasExited bytes commands → Sofar bytes ended commands
exited_now bytes ended commands x = subst (λ (xs : List ℕ). Sofar xs ended commands) (append-nil bytes) (x [] ended)

-- before an `exit` a session stands where its checker does, and after one where the script ended
pub stands_taken : (ended : Bool) (bytes : List ℕ) (c : Checker) → ended ≡ false → Stands ended bytes c → HasTaken bytes c
stands_taken ended bytes c e s = subst (λ (b : Bool). Stands b bytes c) e s

pub taken_stands : (ended : Bool) (bytes : List ℕ) (c : Checker) → ended ≡ false → HasTaken bytes c → Stands ended bytes c
taken_stands ended bytes c e h = subst (λ (b : Bool). Stands b bytes c) (sym e) h

pub stands_exited : (ended : Bool) (bytes : List ℕ) (c : Checker) → ended ≡ true → Stands ended bytes c → HasExited bytes (accepted_by c)
stands_exited ended bytes c e s = subst (λ (b : Bool). Stands b bytes c) e s

-- what stands of the fields of a session
pub given_stands : (fields session : SessionState) (bytes : List ℕ) → fields ≡ session → IsGiven bytes session → Stands fields.ended bytes fields.checker
given_stands fields session bytes e g = subst (λ (s : SessionState). Stands s.ended bytes s.checker) (sym e) g.stands
