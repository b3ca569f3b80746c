-- One step towards the settled members: with a list of those that are not settled so far.
use Rattle.std.specs.Prelude.{◌≡◌, ◌⊎◌, ℕ, ◌<◌, false, List, Some, length, map, slice_get, slice_index_or}
use Rattle.std.specs.List.{Contains}
use Rattle.sort_store.specs.declared.head.Head.{Head}
use Rattle.sort_store.specs.declared.head.Head.TheVariants as head
use Rattle.sort_store.specs.Tree.{Sort, NumberedSort, tree, parts}
use Rattle.sort_store.specs.Tree.{head as head_of}
use Rattle.term_store.specs.Command.{PlainField, PlainConstructor, PlainDatatype}
use Rattle.dt_rules.specs.Groups.{mentions, numbered, IsFieldSort}
use Rattle.dt_rules.specs.Unfolding.{IsMember, IsSettled}

-- no sort of a field is in the list
abbrev pub HasNoFieldSort : List PlainField → List Sort → List Sort → Type 0
HasNoFieldSort fields args unsettled = (s : Sort) → IsFieldSort fields args s → Contains unsettled s → ⊥

-- .. for one of the constructors
abbrev pub HasConstructorWithout : List PlainConstructor → List Sort → List Sort → Type 0
HasConstructorWithout constructors args unsettled = (c : PlainConstructor) × Contains constructors c × HasNoFieldSort c.fields args unsettled

-- the element sort of an array, its second argument, is not in the list
abbrev pub HasElementWithout : List Sort → List Sort → Type 0
HasElementWithout args unsettled = (element : Sort) × (slice_get args 1 ≡ Some element) × (Contains unsettled element → ⊥)

-- a sort with this sort symbol and these arguments is settled where those not in the list are
abbrev pub SettlesBy : List PlainDatatype → Head → List Sort → List Sort → Type 0
SettlesBy known (head.Data d n) args unsettled = (t : PlainDatatype) × (numbered known d.0 ≡ Some t) × HasConstructorWithout t.constructors args unsettled
SettlesBy known head.Array args unsettled = HasElementWithout args unsettled
SettlesBy known (head.Free d n) args unsettled = Unit {0}
SettlesBy known head.Bool args unsettled = ⊥
SettlesBy known head.Int args unsettled = ⊥
SettlesBy known (head.BitVec m) args unsettled = ⊥
SettlesBy known (head.Param i) args unsettled = ⊥

abbrev pub Settles : List PlainDatatype → List PlainDatatype → NumberedSort → List Sort → Type 0
Settles known group r unsettled = (mentions group (tree r) ≡ false) ⊎ SettlesBy known (head_of r) (map tree (parts r)) unsettled

-- the sort at the place in the list settles
abbrev pub SettlesAt : List PlainDatatype → List PlainDatatype → List NumberedSort → ℕ → Type 0
SettlesAt known group rs i = (r : NumberedSort) × (i < length rs) × (r ≡ slice_index_or rs i r) × Settles known group r (map tree rs)

-- none in the list does
abbrev pub NoneSettles : List PlainDatatype → List PlainDatatype → List NumberedSort → Type 0
NoneSettles known group rs = (k : ℕ) (d : NumberedSort) → k < length rs → Settles known group (slice_index_or rs k d) (map tree rs) → ⊥

-- each member is settled or in the list, and not both
abbrev pub HasUnsettled : List PlainDatatype → List PlainDatatype → List Sort → Type 0
HasUnsettled known group unsettled = (s : Sort) → IsMember known group s → (IsSettled known group s ⊎ Contains unsettled s) × (IsSettled known group s → Contains unsettled s → ⊥)
