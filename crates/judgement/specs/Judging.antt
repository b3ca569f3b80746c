-- A judgement is a relation between the names that a command has declared so far and an outcome: either a value, with the
-- names declared after it, or a fault. A production has one list of items, put together with `>>=`; an item sees the
-- values of the items before it and the names that they declared. The first item that is not met is the fault.
use Rattle.std.specs.Prelude.{◌≡◌, ℕ, List, [], ◌∷◌, ◌++◌, ◌⊎◌}
use Rattle.sig_table.specs.declared.code.Code.{Code}
use Rattle.lex_core.specs.declared.place.Place.{Place}

-- well sorted with a value, and the names declared after it; or ill sorted, with the code and the byte of the fault
pub data Outcome (A : Type 0) : Type 0 where
  well_sorted : A → List ℕ → Outcome A
  ill_sorted : Place → Outcome A

abbrev pub Judging : Type 0 → Type 1
Judging A = List ℕ → Outcome A → Type 0

-- the value, with no further item
abbrev pub done : {A : Type 0} → A → Judging A
done x before (well_sorted y after) = (y ≡ x) × (after ≡ before)
done x before (ill_sorted place) = ⊥

-- a part, and the items after it
infixl 10 ◌>>=◌
abbrev pub ◌>>=◌ : {A B : Type 0} → Judging A → (A → Judging B) → Judging B
◌>>=◌ {A} part rest before (well_sorted y after) = (x : A) × (between : List ℕ) × part before (well_sorted x between) × rest x between (well_sorted y after)
◌>>=◌ {A} part rest before (ill_sorted place) =
    part before (ill_sorted place) ⊎ ((x : A) × (between : List ℕ) × part before (well_sorted x between) × rest x between (ill_sorted place))

-- a rule that is met, or the fault has this code and stands at this byte
abbrev pub check : Type 0 → Code → ℕ → Judging (Unit {0})
check rule code at before (well_sorted y after) = rule × (after ≡ before)
check rule code at before (ill_sorted place) = (rule → ⊥) × (place ≡ record { code = code; at = at })

-- a rule that is met by one value, or by none, which is the fault
abbrev pub find : {A : Type 0} → (A → Type 0) → Code → ℕ → Judging A
find rule code at before (well_sorted y after) = rule y × (after ≡ before)
find {A} rule code at before (ill_sorted place) = ((x : A) → rule x → ⊥) × (place ≡ record { code = code; at = at })

-- a rule that cannot be met
abbrev pub refuse : {A : Type 0} → Code → ℕ → Judging A
refuse code at before (well_sorted y after) = ⊥
refuse code at before (ill_sorted place) = place ≡ record { code = code; at = at }

-- the names declared so far
abbrev pub names : Judging (List ℕ)
names before (well_sorted y after) = (y ≡ before) × (after ≡ before)
names before (ill_sorted place) = ⊥

-- declares one more name
abbrev pub declare : ℕ → Judging (Unit {0})
declare name before (well_sorted y after) = after ≡ before ++ name ∷ []
declare name before (ill_sorted place) = ⊥

-- exactly one outcome holds
pub record Decided {A : Type 0} (J : Judging A) (before : List ℕ) : Type 0 where
  pub outcome : Outcome A
  pub holds : J before outcome
  pub only : (o : Outcome A) → J before o → o ≡ outcome

-- .. whatever names were declared before
abbrev pub Lawful : {A : Type 0} → Judging A → Type 0
Lawful J = (before : List ℕ) → Decided J before

-- the names play no part: whatever they are, there is the same outcome, and none is declared
abbrev pub KeepsOutcome : {A : Type 0} → Judging A → List ℕ → Outcome A → Type 0
KeepsOutcome J before (well_sorted x after) = (after ≡ before) × ((other : List ℕ) → J other (well_sorted x other))
KeepsOutcome J before (ill_sorted place) = (other : List ℕ) → J other (ill_sorted place)

abbrev pub DeclaresNone : {A : Type 0} → Judging A → Type 0
DeclaresNone {A} J = (before : List ℕ) (o : Outcome A) → J before o → KeepsOutcome J before o
