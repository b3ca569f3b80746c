-- What the outcomes of the parts of a list say of the whole: where each part has a value, the list has these values. The code
-- makes each value as something that stands for it.
use Rattle.std.proofs.Common.{◌≡◌, ℕ, List, [], ◌∷◌, ◌++◌, map, Ok, Err, refl, ap, sym, ◌∙◌, inl, inr, subst, append_assoc, append-nil}
use Rattle.std.proofs.lemmas.List.{map-append}
use Rattle.judgement.specs.Judging.{Judging, Outcome, well_sorted, ill_sorted, done, ◌>>=◌}
use Rattle.dt_rules.specs.declared.error.TyError.{TyError}
use Rattle.dt_rules.specs.declared.error.TyError.TheVariants as error
use Rattle.typer.specs.Answers.{Meets}

-- the outcome with some values before the others
abbrev pub prefixed : {T : Type 0} → List T → Outcome (List T) → Outcome (List T)
prefixed ts (well_sorted us after) = well_sorted (ts ++ us) after
prefixed ts (ill_sorted place) = ill_sorted place

-- the judgement of a list, from those of its first part and of the others
abbrev pub Joins : {T A AS : Type 0} → (A → AS → AS) → (A → Judging T) → (AS → Judging (List T)) → Type 0
Joins {T} {A} {AS} with_first each all =
    (a : A) (rest : AS) (before : List ℕ) (o : Outcome (List T)) → (each a >>= (λ t. all rest >>= (λ ts. done (t ∷ ts)))) before o → all (with_first a rest) before o

-- What the parts that are left have as outcome after these names, all have it with the values so far before it, after the names
-- at the start.
abbrev pub Leads : {T : Type 0} → Judging (List T) → Judging (List T) → List T → List ℕ → List ℕ → Type 0
Leads {T} whole left made start so_far = (o : Outcome (List T)) → left so_far o → whole start (prefixed made o)

abbrev pub Onward : {T AS : Type 0} → (AS → Judging (List T)) → AS → AS → List T → List ℕ → List ℕ → Type 0
Onward {T} {AS} all whole left made start so_far = Leads (all whole) (all left) made start so_far

-- a part, and the others after it, which may depend on its value
abbrev pub Begins : {T : Type 0} → Judging (List T) → Judging T → (T → Judging (List T)) → Type 0
Begins {T} left each rest = (before : List ℕ) (o : Outcome (List T)) → (each >>= (λ t. rest t >>= (λ ts. done (t ∷ ts)))) before o → left before o

module _ {T : Type 0} where
  -- one more value before the others
  prefixed_more : (ts : List T) (t : T) (o : Outcome (List T)) → prefixed ts (prefixed (t ∷ []) o) ≡ prefixed (ts ++ t ∷ []) o
  prefixed_more ts t (well_sorted us after) = ap (λ z. well_sorted z after) (sym (append_assoc ts (t ∷ []) us))
  prefixed_more ts t (ill_sorted place) = refl

  prefixed_none : (o : Outcome (List T)) → prefixed [] o ≡ o
  prefixed_none (well_sorted us after) = refl
  prefixed_none (ill_sorted place) = refl

  pub onward_all : {AS : Type 0} (all : AS → Judging (List T)) (whole left : AS) (start : List ℕ) → left ≡ whole → Onward all whole left [] start start
  onward_all all whole left start e o h = subst (all whole start) (sym (prefixed_none o)) (subst (λ z. all z start o) e h)

-- a turn of a loop over the parts that are left, by the judgements of all, of those left, of the first and of the others
module _ {T : Type 0} (whole left : Judging (List T)) (each : Judging T) (rest : T → Judging (List T)) (made : List T) (start so_far : List ℕ) (begins : Begins left each rest) (leads : Leads whole left made start so_far) where
  begin : (t : T) (later : List ℕ) (o : Outcome (List T)) → Meets (Ok t) each so_far later → rest t later o → left so_far (prefixed (t ∷ []) o)
  begin t later (well_sorted us after) h k = begins so_far (well_sorted (t ∷ us) after) (t, later, h, (us, after, k, (refl, refl)))
  begin t later (ill_sorted place) h k = begins so_far (ill_sorted place) (inr (t, later, h, inl k))

  pub leads_on : (t : T) (later : List ℕ) → Meets (Ok t) each so_far later → Leads whole (rest t) (made ++ t ∷ []) start later
  leads_on t later h o k = subst (λ z. whole start z) (prefixed_more made t o) (leads (prefixed (t ∷ []) o) (begin t later o h k))

  pub leads_fault : (e : TyError) (later after : List ℕ) → Meets {A = T} (Err e) each so_far later → Meets {A = List T} (Err e) whole start after
  leads_fault (error.Fault place) later after h = leads (ill_sorted place) (begins so_far (ill_sorted place) (inl h))
  leads_fault error.NoMemory later after h = tt

-- no part is left
pub leads_end : {T : Type 0} (whole left : Judging (List T)) (made : List T) (start so_far : List ℕ) → left so_far (well_sorted [] so_far) → Leads whole left made start so_far → Meets (Ok made) whole start so_far
leads_end whole left made start so_far none leads = subst (λ ts. whole start (well_sorted ts so_far)) (append-nil made) (leads (well_sorted [] so_far) none)

module _ {T R A AS : Type 0} (value : R → T) (with_first : A → AS → AS) (each : A → Judging T) (all : AS → Judging (List T)) (joins : Joins with_first each all) where
  -- the same of lists whose parts are judged by one judgement
  module _ (whole left rest : AS) (a : A) (made : List R) (start so_far : List ℕ) (shown : left ≡ with_first a rest) (onward : Onward all whole left (map value made) start so_far) where
    begins_with : Begins (all left) (each a) (λ _. all rest)
    begins_with before o h = subst (λ z. all z before o) (sym shown) (joins a rest before o h)

    pub part_step : (next : AS) (new : List R) (r : R) (later : List ℕ) → next ≡ rest → Meets (Ok (value r)) (each a) so_far later → new ≡ made ++ r ∷ [] → Onward all whole next (map value new) start later
    part_step next new r later e h put =
        subst (λ z. Onward all whole z (map value new) start later) (sym e)
        (subst (λ z. Leads (all whole) (all rest) z start later) (sym (ap (map value) put ∙ map-append value made (r ∷ [])))
        (leads_on (all whole) (all left) (each a) (λ _. all rest) (map value made) start so_far begins_with onward (value r) later h))

    pub part_fault : (e : TyError) (later after : List ℕ) → Meets {A = T} (Err e) (each a) so_far later → Meets {A = List T} (Err e) (all whole) start after
    part_fault e later after h = leads_fault (all whole) (all left) (each a) (λ _. all rest) (map value made) start so_far begins_with onward e later after h

pub no_part : {T AS : Type 0} (all : AS → Judging (List T)) (whole left : AS) (made : List T) (start so_far : List ℕ) → all left so_far (well_sorted [] so_far) → Onward all whole left made start so_far
    → Meets (Ok made) (all whole) start so_far
no_part all whole left made start so_far none onward = leads_end (all whole) (all left) made start so_far none onward
