-- The unfolding of a group of datatypes, and which of its members are settled. A datatype of the group is well-founded (SMT-LIB
-- 2.6, section 4.2.3) where its own instance is settled.
use Rattle.std.specs.Prelude.{◌≡◌, ◌<◌, ◌⊎◌, true, false, ℕ, List, Some, length, map, slice_get}
use Rattle.std.specs.List.{Contains}
use Rattle.sort_store.specs.declared.head.DeclNo.{DeclNo}
use Rattle.sort_store.specs.declared.head.Head.{Head}
use Rattle.sort_store.specs.declared.head.Head.TheVariants as head
use Rattle.sort_store.specs.Interned.{HasNoRepeats}
use Rattle.sort_store.specs.Tree.{Sort, sort, SortList, sorts, node_count, NumberedSort, tree, parts}
use Rattle.sort_store.specs.Tree.{head as head_of}
use Rattle.term_store.specs.Command.{PlainConstructor, PlainDatatype}
use Rattle.dt_rules.specs.Groups.{mentions, numbered, own_sort, IsFieldSort, IsConstructorFieldSort}

-- what a sort adds: an array its index and element sorts, an instance of a datatype the sorts of its fields
abbrev pub Adds : List PlainDatatype → Head → List Sort → Sort → Type 0
Adds known (head.Data d n) args s = (t : PlainDatatype) × (numbered known d.0 ≡ Some t) × IsConstructorFieldSort t.constructors args s
Adds known head.Array args s = Contains args s
Adds known head.Bool args s = ⊥
Adds known head.Int args s = ⊥
Adds known (head.BitVec m) args s = ⊥
Adds known (head.Free d n) args s = ⊥
Adds known (head.Param i) args s = ⊥

-- .. a sort in which a datatype of the group occurs
abbrev pub IsAddedBy : List PlainDatatype → List PlainDatatype → NumberedSort → Sort → Type 0
IsAddedBy known group r s = (mentions group (tree r) ≡ true) × Adds known (head_of r) (map tree (parts r)) s

-- the least set with each datatype of the group at its own parameters, and with what a member adds in which one of them occurs
pub data IsMember (known group : List PlainDatatype) : Sort → Type 0 where
  own : (t : PlainDatatype) → Contains group t → IsMember known group (own_sort t)
  added : (h : Head) (args : List Sort) (s : Sort) → IsMember known group (sort h (sorts args)) → mentions group (sort h (sorts args)) ≡ true → Adds known h args s → IsMember known group s

-- more than 2,000 members, or one of more than 1,000 nodes
pub record HasManyMembers (known group : List PlainDatatype) : Type 0 where
  pub some : List Sort
  pub members : (s : Sort) → Contains some s → IsMember known group s
  pub distinct : HasNoRepeats some
  pub many : 2000 < length some

pub record HasLargeMember (known group : List PlainDatatype) : Type 0 where
  pub its : Sort
  pub member : IsMember known group its
  pub large : 1000 < node_count its

abbrev pub IsTooWide : List PlainDatatype → List PlainDatatype → Type 0
IsTooWide known group = HasManyMembers known group ⊎ HasLargeMember known group

-- The least set with each sort in which no datatype of the group occurs, each sort of a free sort symbol, an array where its
-- element sort, the second argument, is in, and an instance of a datatype where for one constructor all field sorts are.
pub data IsSettled (known group : List PlainDatatype) : Sort → Type 0 where
  outside : (s : Sort) → mentions group s ≡ false → IsSettled known group s
  free : (d : DeclNo) (n : ℕ) (ts : SortList) → IsSettled known group (sort (head.Free d n) ts)
  array : (args : List Sort) (element : Sort) → slice_get args 1 ≡ Some element → IsSettled known group element → IsSettled known group (sort head.Array (sorts args))
  constructed : (d : DeclNo) (n : ℕ) (args : List Sort) (t : PlainDatatype) (c : PlainConstructor) → numbered known d.0 ≡ Some t → Contains t.constructors c
      → ((s : Sort) → IsFieldSort c.fields args s → IsSettled known group s) → IsSettled known group (sort (head.Data d n) (sorts args))
