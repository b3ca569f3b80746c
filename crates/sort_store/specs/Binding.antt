-- A binding gives some parameters a sort. A schema fits a sort where some sorts for all parameters
-- that agree with the binding make the schema the sort.
use Rattle.std.specs.Prelude.{◌≡◌, ℕ, zero, suc, ◌⊎◌, List, [], ◌∷◌, map, Option, Some, None, slice_get, length}
use Rattle.sort_store.specs.Tree.{Sort, sort, SortList, no_sorts, more_sorts, sorts, NumberedSort, tree}
use Rattle.sort_store.specs.Instance.{param_of, inst}
use Rattle.sort_store.specs.Interned.{IsInterned, AllInterned}

-- the value of a parameter, if it has one
abbrev pub value_at : List (Option NumberedSort) → ℕ → Option NumberedSort
value_at [] i = None
value_at (v ∷ vs) zero = v
value_at (v ∷ vs) (suc i) = value_at vs i

-- the parameter is bound
abbrev pub HasValue : List (Option NumberedSort) → ℕ → Type 0
HasValue binding i = (v : NumberedSort) × (value_at binding i ≡ Some v)

-- one sort for each parameter, and the binding's where it has a value
pub record Agrees (binding : List (Option NumberedSort)) (values : List Sort) : Type 0 where
  pub count : length values ≡ length binding
  pub same : (i : ℕ) (v : NumberedSort) → value_at binding i ≡ Some v → slice_get values i ≡ Some (tree v)

-- some sorts that agree with the binding make the schema the tree
pub record Fits (binding : List (Option NumberedSort)) (schema t : Sort) : Type 0 where
  pub values : List Sort
  pub agree : Agrees binding values
  pub makes : inst values schema ≡ t

-- a parameter is the one that stands there, and hides what is inside
abbrev pub ParamAt : Option ℕ → ℕ → Type 0 → Type 0
ParamAt (Some j) i inside = i ≡ j
ParamAt None i inside = inside

-- the parameter stands in the schema
abbrev mutual
  pub ParamIn : ℕ → Sort → Type 0
  ParamIn i (sort h ts) = ParamAt (param_of h) i (ParamInEach i ts)

  pub ParamInEach : ℕ → SortList → Type 0
  ParamInEach i no_sorts = ⊥
  ParamInEach i (more_sorts t ts) = ParamIn i t ⊎ ParamInEach i ts

-- each value is interned in the store
abbrev pub ValuesInterned : List Sort → List (Option NumberedSort) → Type 0
ValuesInterned store binding = (i : ℕ) (v : NumberedSort) → value_at binding i ≡ Some v → IsInterned store v

-- the binding after the schema was made the sort
pub record Fitted (old new : List (Option NumberedSort)) (schema : Sort) (r : NumberedSort) : Type 0 where
  pub count : length new ≡ length old
  -- it keeps its values
  pub keeps : (i : ℕ) (v : NumberedSort) → value_at old i ≡ Some v → value_at new i ≡ Some v
  -- each parameter of the schema has a value, and these make it the sort
  pub bound : (i : ℕ) → ParamIn i schema → HasValue new i
  pub makes : (values : List Sort) → Agrees new values → inst values schema ≡ tree r
  -- no other parameter has gained one
  pub only : (i : ℕ) → (value_at new i ≡ value_at old i) ⊎ ParamIn i schema
  -- all values that agreed with the old binding and make it the sort agree with this one
  pub most : (values : List Sort) → Agrees old values → inst values schema ≡ tree r → Agrees new values
  -- in a store where the sort and the old values are interned the new values are, too
  pub interned : (store : List Sort) → ValuesInterned store old → IsInterned store r → ValuesInterned store new

-- some sorts that agree with the binding make each schema the tree at its place
pub record FitsEach (binding : List (Option NumberedSort)) (schemas ts : List Sort) : Type 0 where
  pub values : List Sort
  pub agree : Agrees binding values
  pub makes : map (inst values) schemas ≡ ts

-- the parameter stands in one of the schemas
abbrev pub ParamInSome : ℕ → List Sort → Type 0
ParamInSome i schemas = ParamInEach i (sorts schemas)

-- the binding after each of the schemas was made the sort at its place
pub record FittedEach (old new : List (Option NumberedSort)) (schemas : List Sort) (rs : List NumberedSort) : Type 0 where
  pub count : length new ≡ length old
  pub keeps : (i : ℕ) (v : NumberedSort) → value_at old i ≡ Some v → value_at new i ≡ Some v
  pub bound : (i : ℕ) → ParamInSome i schemas → HasValue new i
  pub makes : (values : List Sort) → Agrees new values → map (inst values) schemas ≡ map tree rs
  pub only : (i : ℕ) → (value_at new i ≡ value_at old i) ⊎ ParamInSome i schemas
  pub most : (values : List Sort) → Agrees old values → map (inst values) schemas ≡ map tree rs → Agrees new values
  pub interned : (store : List Sort) → ValuesInterned store old → AllInterned store rs → ValuesInterned store new
