-- The argument sorts of an application come from one store.
use Rattle.std.specs.Prelude.{List}
use Rattle.sort_store.specs.Tree.{Sort, NumberedSort}
use Rattle.sort_store.specs.Interned.{AllInterned, HasNoRepeats}

-- the sorts are interned in one store without repeats
pub record AreInternedTogether (args : List NumberedSort) : Type 0 where
  pub store : List Sort
  pub distinct : HasNoRepeats store
  pub interned : AllInterned store args
