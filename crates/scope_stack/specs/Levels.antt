-- The levels of one name space. A level is a list of declarations, and a declaration is the number of
-- a name with what the name stands for.
use Rattle.std.specs.Prelude.{ℕ, ◌-◌, Bool, ◌==◌, if◌then◌else◌, List, [], ◌∷◌, ◌++◌, length, take, replicate, Option, flat_map}
use Rattle.std.specs.Map.{lookup}

-- the first level, the levels that were pushed, in their order, and the global declarations
pub record Levels (X : Type 0) : Type 0 where
  pub first : List (ℕ × X)
  pub pushed : List (List (ℕ × X))
  pub globals : List (ℕ × X)

abbrev pub levels_of : {X : Type 0} → List (ℕ × X) → List (List (ℕ × X)) → List (ℕ × X) → Levels X
levels_of first pushed globals = record { first = first; pushed = pushed; globals = globals }

abbrev pub no_levels : {X : Type 0} → Levels X
no_levels = record { first = []; pushed = []; globals = [] }

abbrev pub joined : {X : Type 0} → List (List X) → List X
joined ls = flat_map (λ l. l) ls

-- all levels and the global list joined
abbrev pub live : {X : Type 0} → Levels X → List (ℕ × X)
live s = s.first ++ joined s.pushed ++ s.globals

-- the declaration is of this name
abbrev pub is_name : ℕ → ℕ → Bool
is_name a b = a == b

-- what the name stands for, if it is live
abbrev pub found : {X : Type 0} → ℕ → Levels X → Option X
found name s = lookup (is_name name) (live s)

-- d last in the last of the levels l, ls
abbrev pub add_last : {X : Type 0} → X → List X → List (List X) → List (List X)
add_last d l [] = (l ++ d ∷ []) ∷ []
add_last d l (m ∷ ls) = l ∷ add_last d m ls

abbrev pub with_last : {X : Type 0} → ℕ × X → List (ℕ × X) → List (List (ℕ × X)) → List (ℕ × X) → Levels X
with_last d first [] globals = record { first = first ++ d ∷ []; pushed = []; globals = globals }
with_last d first (l ∷ ls) globals = record { first = first; pushed = add_last d l ls; globals = globals }

-- d last in the global list, or in the present level
abbrev pub declared : {X : Type 0} → Bool → ℕ × X → Levels X → Levels X
declared global d s =
    if global then record { first = s.first; pushed = s.pushed; globals = s.globals ++ d ∷ [] }
    else with_last d s.first s.pushed s.globals

-- after n levels were opened, and after the last n were closed
abbrev pub opened : {X : Type 0} → ℕ → Levels X → Levels X
opened n s = record { first = s.first; pushed = s.pushed ++ replicate n []; globals = s.globals }

abbrev pub closed : {X : Type 0} → ℕ → Levels X → Levels X
closed n s = record { first = s.first; pushed = take (length s.pushed - n) s.pushed; globals = s.globals }

-- what reset-assertions leaves
abbrev pub only_globals : {X : Type 0} → Levels X → Levels X
only_globals s = record { first = []; pushed = []; globals = s.globals }
