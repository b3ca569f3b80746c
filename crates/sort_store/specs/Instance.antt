-- A schema is a sort with parameters. Its instance has a sort in the place of each parameter.
use Rattle.std.specs.Prelude.{ℕ, ◌<◌, List, Option, Some, None, slice_index_or}
use Rattle.sort_store.specs.declared.head.Head.{Head}
use Rattle.sort_store.specs.declared.head.Head.TheVariants as H
use Rattle.sort_store.specs.Tree.{Sort, sort, SortList, no_sorts, more_sorts}

-- the parameter that a sort symbol is
abbrev pub param_of : Head → Option ℕ
param_of (H.Param i) = Some i
param_of _ = None

-- the value of a parameter, and the tree itself where there is no parameter
abbrev pub value_or : Option ℕ → List Sort → Sort → Sort
value_or None ss t = t
value_or (Some i) ss t = slice_index_or ss i t

abbrev mutual
  pub inst : List Sort → Sort → Sort
  inst ss (sort h ts) = value_or (param_of h) ss (sort h (insts ss ts))

  pub insts : List Sort → SortList → SortList
  insts ss no_sorts = no_sorts
  insts ss (more_sorts t ts) = more_sorts (inst ss t) (insts ss ts)

abbrev pub IsBelow : ℕ → Option ℕ → Type 0
IsBelow n None = Unit {0}
IsBelow n (Some i) = i < n

-- each parameter of the schema is below the number
abbrev mutual
  pub ParamsBelow : ℕ → Sort → Type 0
  ParamsBelow n (sort h ts) = IsBelow n (param_of h) × EachParamsBelow n ts

  pub EachParamsBelow : ℕ → SortList → Type 0
  EachParamsBelow n no_sorts = Unit {0}
  EachParamsBelow n (more_sorts t ts) = ParamsBelow n t × EachParamsBelow n ts
