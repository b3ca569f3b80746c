-- What the code's tests say of argument sorts, and of one of them.
use Rattle.std.specs.Prelude.{◌≡◌, List, [], ◌∷◌, All}
use Rattle.sort_store.specs.Tree.{Sort, sort, SortList, no_sorts, more_sorts}
use Rattle.sort_store.specs.CoreRanks.{bool}
use Rattle.theory_core.specs.declared.sorts.BasicSort.{BasicSort}
use Rattle.theory_core.specs.declared.sorts.BasicSort.TheVariants as basic
use Rattle.theory_core.specs.IntsRanks.{int}
use Rattle.theory_core.specs.ArraysRanks.{array}

abbrev pub basic_sort : BasicSort → Sort
basic_sort basic.Bool = bool
basic_sort basic.Int = int

-- each is this sort
abbrev pub AllAre : Sort → List Sort → Type 0
AllAre s args = All (λ t. t ≡ s) args

abbrev pub AllSame : List Sort → Type 0
AllSame args = (s : Sort) × AllAre s args

abbrev pub IsArray : Sort → Type 0
IsArray t = (index : Sort) × (element : Sort) × (t ≡ array index element)

abbrev pub list_of : SortList → List Sort
list_of no_sorts = []
list_of (more_sorts t ts) = t ∷ list_of ts

-- the arguments of a sort's symbol
abbrev pub arguments_of : Sort → List Sort
arguments_of (sort h ts) = list_of ts
