-- The ranks of a live function symbol (SMT-LIB 2.6, section 3.6.4): the instances of its declaration.
use Rattle.std.specs.Prelude.{◌≡◌, ℕ, zero, suc, ◌==◌, Bool, false, not, ◌||◌, List, map, length, Option, Some, None}
use Rattle.judgement.specs.Judging.{Judging}
use Rattle.sort_store.specs.Tree.{Sort, sort, SortList, no_sorts, more_sorts, sorts, NumberedSort, nodes, tree, trees}
use Rattle.sort_store.specs.Instance.{param_of, inst, ParamsBelow, EachParamsBelow}
use Rattle.sort_store.specs.Interned.{IsInterned, AllInterned, HasNoRepeats}
use Rattle.scope_stack.specs.declared.entry.FunEntry.{FunEntry}
use Rattle.typer.specs.Declarations.{FunDeclaration}
use Rattle.typer.specs.RankRules.{judge_rank}

-- some values of the parameters make the argument sorts and the result sort of the declaration these
pub record HasInstance (f : FunDeclaration) (args : List Sort) (result : Sort) : Type 0 where
  pub values : List Sort
  pub count : length values ≡ f.params
  pub takes : map (inst values) f.args ≡ args
  pub gives : inst values f.result ≡ result

-- a parameter is the one that stands there, and hides what is inside
abbrev pub occurs_at : Option ℕ → ℕ → Bool → Bool
occurs_at (Some j) i inside = i == j
occurs_at None i inside = inside

-- the parameter stands in the sort
abbrev mutual
  pub occurs_in : ℕ → Sort → Bool
  occurs_in i (sort h ts) = occurs_at (param_of h) i (occurs_in_some i ts)

  pub occurs_in_some : ℕ → SortList → Bool
  occurs_in_some i no_sorts = false
  occurs_in_some i (more_sorts t ts) = occurs_in i t || occurs_in_some i ts

-- one of the first n parameters stands in none of the sorts
abbrev pub lacks_some : ℕ → List Sort → Bool
lacks_some zero args = false
lacks_some (suc n) args = lacks_some n args || not (occurs_in_some n (sorts args))

-- The arguments don't give all parameters, and so not the result sort: so it is with a constructor such as that of the empty
-- list.
abbrev pub is_ambiguous : FunDeclaration → Bool
is_ambiguous f = lacks_some f.params f.args

-- the rule on the rank of a live function symbol
abbrev pub judge_live : FunDeclaration → ℕ → List Sort → Option Sort → Judging Sort
judge_live f at args asked = judge_rank (HasInstance f args) (is_ambiguous f) at asked

-- the sorts of both lists are interned in one store without repeats
pub record AllInternedTogether (a b : List NumberedSort) : Type 0 where
  pub store : List Sort
  pub distinct : HasNoRepeats store
  pub first : AllInterned store a
  pub second : AllInterned store b

-- the sorts of the declaration are interned in the store, and where it has parameters, have none past their number
pub record IsReadyEntry (store : List Sort) (f : FunEntry) : Type 0 where
  pub args : AllInterned store f.args
  pub result : IsInterned store f.result
  pub below : (f.params ≡ 0 → ⊥) → EachParamsBelow f.params (trees (nodes f.args)) × ParamsBelow f.params (tree f.result)
