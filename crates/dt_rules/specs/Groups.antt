-- The datatypes that are declared together (SMT-LIB 2.6, section 4.2.3): a group. Those known in it are its own and those
-- declared before.
use Rattle.std.specs.Prelude.{◌≡◌, ℕ, zero, suc, ◌||◌, ◌==◌, Bool, false, nat_eq, List, [], ◌∷◌, ◌++◌, Option, Some, length}
use Rattle.std.specs.List.{Contains, list_any}
use Rattle.std.specs.List as lists
use Rattle.sort_store.specs.declared.head.Head.{Head}
use Rattle.sort_store.specs.declared.head.Head.TheVariants as head
use Rattle.sort_store.specs.Instance.{inst, ParamsBelow}
use Rattle.sort_store.specs.Tree.{Sort, sort, SortList, no_sorts, more_sorts, sorts}
use Rattle.term_store.specs.Command.{PlainField, PlainConstructor, PlainDatatype}

abbrev pub known : List PlainDatatype → List PlainDatatype → List PlainDatatype
known kept group = group ++ kept

-- the datatype with this number
abbrev pub numbered : List PlainDatatype → ℕ → Option PlainDatatype
numbered ts n = lists.find (λ t. n == t.no.0) ts

-- the sort symbol is a datatype of the group
abbrev pub is_of_group : List PlainDatatype → Head → Bool
is_of_group group (head.Data d n) = list_any (λ t. nat_eq t.no.0 d.0) group
is_of_group group head.Bool = false
is_of_group group head.Int = false
is_of_group group head.Array = false
is_of_group group (head.BitVec m) = false
is_of_group group (head.Free d n) = false
is_of_group group (head.Param i) = false

-- .. so is some sort symbol of the sort
abbrev mutual
  pub mentions : List PlainDatatype → Sort → Bool
  mentions group (sort h ts) = is_of_group group h || each_mentions group ts

  pub each_mentions : List PlainDatatype → SortList → Bool
  each_mentions group no_sorts = false
  each_mentions group (more_sorts t ts) = mentions group t || each_mentions group ts

-- as many parameters, from the first on
abbrev pub param_sorts : ℕ → List Sort
param_sorts zero = []
param_sorts (suc n) = param_sorts n ++ sort (head.Param n) no_sorts ∷ []

-- the datatype applied to its own parameters
abbrev pub own_sort : PlainDatatype → Sort
own_sort t = sort (head.Data t.no t.name) (sorts (param_sorts (length t.params)))

-- .. for one of the datatypes
abbrev pub IsOwnSort : List PlainDatatype → Sort → Type 0
IsOwnSort ts s = (t : PlainDatatype) × Contains ts t × (s ≡ own_sort t)

-- the sort of one of the fields, with the arguments of the datatype put in
abbrev pub IsFieldSort : List PlainField → List Sort → Sort → Type 0
IsFieldSort fields args s = (f : PlainField) × Contains fields f × (s ≡ inst args f.sort)

-- .. of a constructor
abbrev pub IsConstructorFieldSort : List PlainConstructor → List Sort → Sort → Type 0
IsConstructorFieldSort constructors args s = (c : PlainConstructor) × Contains constructors c × IsFieldSort c.fields args s

-- a datatype has as many arguments as parameters
abbrev pub HasArity : List PlainDatatype → Head → ℕ → Type 0
HasArity ts (head.Data d n) count = (t : PlainDatatype) × (numbered ts d.0 ≡ Some t) × (length t.params ≡ count)
HasArity ts head.Bool count = Unit {0}
HasArity ts head.Int count = Unit {0}
HasArity ts head.Array count = Unit {0}
HasArity ts (head.BitVec m) count = Unit {0}
HasArity ts (head.Free d n) count = Unit {0}
HasArity ts (head.Param i) count = Unit {0}

abbrev pub sort_list : SortList → List Sort
sort_list no_sorts = []
sort_list (more_sorts t ts) = t ∷ sort_list ts

-- .. throughout the sort
abbrev mutual
  pub HasArities : List PlainDatatype → Sort → Type 0
  HasArities known (sort h ts) = HasArity known h (length (sort_list ts)) × EachHasArities known ts

  pub EachHasArities : List PlainDatatype → SortList → Type 0
  EachHasArities known no_sorts = Unit {0}
  EachHasArities known (more_sorts t ts) = HasArities known t × EachHasArities known ts

-- a field sort of a datatype with as many parameters
pub record IsReadyField (ts : List PlainDatatype) (count : ℕ) (s : Sort) : Type 0 where
  pub params : ParamsBelow count s
  pub arities : HasArities ts s

-- The numbers of the group are distinct; each datatype in a field sort of a known datatype is known, with as many parameters
-- as it has arguments there; and no field sort has a parameter past its datatype's.
pub record IsReadyGroup (kept group : List PlainDatatype) : Type 0 where
  pub apart : (t : PlainDatatype) → Contains group t → numbered (known kept group) t.no.0 ≡ Some t
  pub fields : (t : PlainDatatype) (c : PlainConstructor) (f : PlainField) → Contains (known kept group) t → Contains t.constructors c → Contains c.fields f
      → IsReadyField (known kept group) (length t.params) f.sort
