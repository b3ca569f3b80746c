-- The parts of a list that are judged one after the other, where a state, as an environment, goes on from one part to the next, and
-- each part may declare names. The code makes each value as something that stands for it.
use Rattle.std.proofs.Common.{◌≡◌, ℕ, List, [], ◌∷◌, ◌++◌, map, Err, Ok, refl, ap, sym, ◌∙◌, subst, inl, inr, append_assoc, append-nil}
use Rattle.std.proofs.lemmas.List.{map-append}
use Rattle.judgement.specs.Judging.{Judging, Outcome, ◌>>=◌, done, ill_sorted, well_sorted}
use Rattle.typer.proofs.ListSteps.{prefixed}
use Rattle.script_core.specs.declared.scope.StepError.{StepError}
use Rattle.script_core.specs.declared.scope.StepError.TheVariants as error
use Rattle.script_core.specs.Effects.{Meets}

-- What the parts that are left have as outcome after the state and the names so far, all have it with the values so far before it,
-- after the names before them.
abbrev pub Onward : {S T AS : Type 0} → (S → AS → Judging (List T)) → S → AS → S → AS → List T → List ℕ → List ℕ → Type 0
Onward {S} {T} {AS} all start whole state left made before so_far = (o : Outcome (List T)) → all state left so_far o → all start whole before (prefixed made o)

module _ {T : Type 0} where
  prefixed_more : (ts : List T) (t : T) (o : Outcome (List T)) → prefixed ts (prefixed (t ∷ []) o) ≡ prefixed (ts ++ t ∷ []) o
  prefixed_more ts t (well_sorted us after) = ap (λ z. well_sorted z after) (sym (append_assoc ts (t ∷ []) us))
  prefixed_more ts t (ill_sorted place) = refl

  prefixed_none : (o : Outcome (List T)) → o ≡ prefixed [] o
  prefixed_none (well_sorted us after) = refl
  prefixed_none (ill_sorted place) = refl

  -- no part is judged yet
  pub onward_start : {S AS R : Type 0} (value : R → T) (all : S → AS → Judging (List T)) (start : S) (whole left : AS) (made : List R) (before : List ℕ) → left ≡ whole → made ≡ [] → Onward all start whole start left (map value made) before before
  onward_start value all start whole left made before e none o h =
      subst (λ ts. all start whole before (prefixed ts o)) (ap (map value) (sym none)) (subst (λ z. all start whole before z) (prefixed_none o) (subst (λ z. all start z before o) e h))

  -- all parts are judged
  pub onward_end : {S AS R : Type 0} (value : R → T) (all : S → AS → Judging (List T)) (start : S) (whole : AS) (state : S) (left : AS) (made : List R) (before so_far : List ℕ) → all state left so_far (well_sorted [] so_far)
      → Onward all start whole state left (map value made) before so_far → all start whole before (well_sorted (map value made) so_far)
  onward_end value all start whole state left made before so_far none onward = subst (λ ts. all start whole before (well_sorted ts so_far)) (append-nil (map value made)) (onward (well_sorted [] so_far) none)

-- A part among those that are left, where what is judged of it and of the others is judged of them together.
module _ {S T R A AS : Type 0} (value : R → T) (each : S → A → Judging T) (next : S → T → S) (all : S → AS → Judging (List T)) (start : S) (whole : AS) (state : S) (left rest : AS) (a : A) (made : List R) (before so_far : List ℕ)
    (joins : (o : Outcome (List T)) → (each state a >>= (λ t. all (next state t) rest >>= (λ ts. done (t ∷ ts)))) so_far o → all state left so_far o) (onward : Onward all start whole state left (map value made) before so_far) where
  first_step : (t : T) (next_names : List ℕ) (o : Outcome (List T)) → each state a so_far (well_sorted t next_names) → all (next state t) rest next_names o → all state left so_far (prefixed (t ∷ []) o)
  first_step t next_names (well_sorted us after) h k = joins (well_sorted (t ∷ us) after) (t, next_names, h, (us, after, k, (refl, refl)))
  first_step t next_names (ill_sorted place) h k = joins (ill_sorted place) (inr (t, next_names, h, inl k))

  -- it has a value
  pub onward_part : (r : R) (new : List R) (later : S) (after : AS) (next_names : List ℕ) → Meets (each state a) value (Ok r) so_far next_names → new ≡ made ++ r ∷ [] → later ≡ next state (value r) → after ≡ rest
      → Onward all start whole later after (map value new) before next_names
  onward_part r new later after next_names h put e f o k =
      let others = subst (λ z. all z rest next_names o) e (subst (λ z. all later z next_names o) f k) in
      subst (λ ts. all start whole before (prefixed ts o)) (sym (ap (map value) put ∙ map-append value made (r ∷ [])))
      (subst (λ z. all start whole before z) (prefixed_more (map value made) (value r) o) (onward (prefixed (value r ∷ []) o) (first_step (value r) next_names o h others)))

  -- it breaks a rule
  pub onward_fault : {X Y : Type 0} (f : X → T) (g : Y → List T) (e : StepError) (next_names after : List ℕ) → Meets (each state a) f (Err e) so_far next_names → Meets (all start whole) g (Err e) before after
  onward_fault f g (error.Broken place) next_names after h = onward (ill_sorted place) (joins (ill_sorted place) (inl h))
  onward_fault f g error.NoMemory next_names after h = tt
