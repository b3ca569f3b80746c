-- The answers of a match, as relations that compose over the arguments of a sort.
use Rattle.std.specs.Prelude.{◌≡◌, ℕ, ◌<◌, ◌⊎◌, Bool, true, false, List, Option, Some, None, length, get_or, set}
use Rattle.sort_store.specs.Tree.{Sort, NumberedSort, nodes, tree, trees}
use Rattle.sort_store.specs.Instance.{inst}
use Rattle.sort_store.specs.Interned.{AllInterned}
use Rattle.sort_store.specs.Binding.{value_at, HasValue, Agrees, Fits, Fitted, ParamIn, ParamInEach, ValuesInterned}

-- for a schema
abbrev pub FitAnswer : Bool → List (Option NumberedSort) → List (Option NumberedSort) → Sort → NumberedSort → Type 0
FitAnswer true old new schema r = Fitted old new schema r
FitAnswer false old new schema r = Fits old schema (tree r) → ⊥

-- the first n schemas are made the sorts
abbrev pub MakesUpTo : List Sort → ℕ → List NumberedSort → List NumberedSort → Type 0
MakesUpTo values n xs ys = (k : ℕ) (d e : NumberedSort) → k < n → inst values (tree (get_or xs k d)) ≡ tree (get_or ys k e)

-- the binding after the first n schemas were made the sorts
pub record FittedUpTo (n : ℕ) (xs ys : List NumberedSort) (old new : List (Option NumberedSort)) : Type 0 where
  pub count : length new ≡ length old
  pub keeps : (i : ℕ) (v : NumberedSort) → value_at old i ≡ Some v → value_at new i ≡ Some v
  pub bound : (k : ℕ) (d : NumberedSort) → k < n → (i : ℕ) → ParamIn i (tree (get_or xs k d)) → HasValue new i
  pub makes : (values : List Sort) → Agrees new values → MakesUpTo values n xs ys
  pub only : (i : ℕ) → (value_at new i ≡ value_at old i) ⊎ ParamInEach i (trees (nodes xs))
  pub most : (values : List Sort) → Agrees old values → MakesUpTo values n xs ys → Agrees new values
  pub interned : (store : List Sort) → ValuesInterned store old → AllInterned store ys → ValuesInterned store new

-- for lists of schemas and sorts
abbrev pub FitAnswerEach : Bool → List (Option NumberedSort) → List (Option NumberedSort) → List NumberedSort → List NumberedSort → Type 0
FitAnswerEach true old new xs ys = FittedUpTo (length xs) xs ys old new
FitAnswerEach false old new xs ys = (values : List Sort) → Agrees old values → MakesUpTo values (length xs) xs ys → ⊥

-- the parameter had the value
pub record FitsValue (old new : List (Option NumberedSort)) (i : ℕ) (r : NumberedSort) : Type 0 where
  pub value : NumberedSort
  pub found : value_at old i ≡ Some value
  pub same : tree value ≡ tree r
  pub unchanged : new ≡ old

-- the parameter had no value and gained it
pub record PutsValue (old new : List (Option NumberedSort)) (i : ℕ) (r : NumberedSort) : Type 0 where
  pub missing : value_at old i ≡ None
  pub puts : new ≡ set old i (Some r)

-- the parameter had another value
pub record HasOther (old : List (Option NumberedSort)) (i : ℕ) (r : NumberedSort) : Type 0 where
  pub value : NumberedSort
  pub found : value_at old i ≡ Some value
  pub other : tree value ≡ tree r → ⊥

-- for a schema that is a parameter
abbrev pub FitAnswerParam : Bool → List (Option NumberedSort) → List (Option NumberedSort) → ℕ → NumberedSort → Type 0
FitAnswerParam true old new i r = FitsValue old new i r ⊎ PutsValue old new i r
FitAnswerParam false old new i r = HasOther old i r
