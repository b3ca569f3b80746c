-- The parts of a list that are judged one after the other, where a state goes on from one part to the next. The code makes each
-- value as something that stands for it.
use Rattle.std.proofs.Common.{◌≡◌, ℕ, List, [], ◌∷◌, ◌++◌, map, Ok, Err, refl, ap, sym, ◌∙◌, subst}
use Rattle.std.proofs.lemmas.List.{map-append}
use Rattle.judgement.specs.Judging.{Judging, Outcome, ◌>>=◌, done, well_sorted}
use Rattle.dt_rules.specs.Answers.{Answers}
use Rattle.dt_rules.specs.declared.error.TyError.{TyError}
use Rattle.typer.proofs.ListSteps.{Begins, Leads, leads_end, leads_fault, leads_on, onward_all}
use Rattle.typer.proofs.TermSteps.{fault_answers, meets}

-- the parts that are left lead to what all do, after the values so far
abbrev pub Onward : {T : Type 0} → Judging (List T) → Judging (List T) → List T → Type 0
Onward whole left made = (before : List ℕ) → Leads whole left made before before

module _ {T : Type 0} where
  -- a part, and the others after it
  pub answers_on : (whole left : Judging (List T)) (each : Judging T) (rest : T → Judging (List T)) (made : List T) → Begins left each rest → Onward whole left made → (t : T) → Answers (Ok t) each → Onward whole (rest t) (made ++ t ∷ [])
  answers_on whole left each rest made begins onward t h before = leads_on whole left each rest made before before begins (onward before) t before (meets (Ok t) each before before refl h)

  pub answers_fault : (whole left : Judging (List T)) (each : Judging T) (rest : T → Judging (List T)) (made : List T) → Begins left each rest → Onward whole left made → (e : TyError) → Answers {A = T} (Err e) each → Answers {A = List T} (Err e) whole
  answers_fault whole left each rest made begins onward e h =
      fault_answers e whole (λ before. leads_fault whole left each rest made before before begins (onward before) e before before (meets (Err e) each before before refl h))

  pub answers_end : (whole left : Judging (List T)) (made : List T) → ((before : List ℕ) → left before (well_sorted [] before)) → Onward whole left made → Answers (Ok made) whole
  answers_end whole left made none onward before = leads_end whole left made before before (none before) (onward before)

-- lists whose parts are judged by one judgement that depends on a state
module _ {S T R A : Type 0} (value : R → T) (each : S → A → Judging T) (next : S → T → S) (all : S → List A → Judging (List T))
    (joins : (s : S) (a : A) (rest : List A) (before : List ℕ) (o : Outcome (List T)) → (each s a >>= (λ t. all (next s t) rest >>= (λ ts. done (t ∷ ts)))) before o → all s (a ∷ rest) before o) where
  abbrev pub OnwardIn : S → List A → S → List A → List R → Type 0
  OnwardIn start whole state left made = Onward (all start whole) (all state left) (map value made)

  -- no part is judged yet
  pub none_taken : (start state : S) (whole left : List A) (made : List R) → state ≡ start → left ≡ whole → made ≡ [] → OnwardIn start whole state left made
  none_taken start state whole left made same e none before =
      subst (λ (s : S). Leads (all start whole) (all s left) (map value made) before before) (sym same)
      (subst (λ (rs : List R). Leads (all start whole) (all start left) (map value rs) before before) (sym none) (onward_all (all start) whole left before e))

  module _ (start state : S) (whole left rest : List A) (a : A) (made : List R) (shown : left ≡ a ∷ rest) (onward : OnwardIn start whole state left made) where
    begins : Begins (all state left) (each state a) (λ t. all (next state t) rest)
    begins before o h = subst (λ z. all state z before o) (sym shown) (joins state a rest before o h)

    pub one_taken : (r : R) (new : List R) (later : S) (after : List A) → Answers (Ok (value r)) (each state a) → new ≡ made ++ r ∷ [] → later ≡ next state (value r) → after ≡ rest → OnwardIn start whole later after new
    one_taken r new later after h put e f before =
        subst (λ (z : List A). Leads (all start whole) (all later z) (map value new) before before) (sym f)
        (subst (λ (s : S). Leads (all start whole) (all s rest) (map value new) before before) (sym e)
        (subst (λ (ts : List T). Leads (all start whole) (all (next state (value r)) rest) ts before before) (sym (ap (map value) put ∙ map-append value made (r ∷ [])))
        (answers_on (all start whole) (all state left) (each state a) (λ t. all (next state t) rest) (map value made) begins onward (value r) h before)))

    pub one_broken : (e : TyError) → Answers {A = T} (Err e) (each state a) → Answers {A = List T} (Err e) (all start whole)
    one_broken e h = answers_fault (all start whole) (all state left) (each state a) (λ t. all (next state t) rest) (map value made) begins onward e h

  pub all_taken : (start state : S) (whole left : List A) (made : List R) → ((before : List ℕ) → all state [] before (well_sorted [] before)) → left ≡ [] → OnwardIn start whole state left made → Answers (Ok (map value made)) (all start whole)
  all_taken start state whole left made none empty onward =
      answers_end (all start whole) (all state left) (map value made) (λ before. subst (λ z. all state z before (well_sorted [] before)) (sym empty) (none before)) onward
