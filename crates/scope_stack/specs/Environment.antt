-- The levels of both name spaces, and whether declarations are global.
use Rattle.std.specs.Prelude.{ℕ, ◌≡◌, ◌≤◌, Bool, false, length}
use Rattle.scope_stack.specs.Levels.{Levels, no_levels, live, declared, opened, closed, only_globals}
use Rattle.scope_stack.specs.DistinctNames.{HasDistinctNames}
use Rattle.scope_stack.specs.declared.entry.FunEntry.{FunEntry}
use Rattle.scope_stack.specs.declared.entry.SortEntry.{SortEntry}

-- both name spaces have as many levels, at most 65,535, and no two live declarations of one name space
-- have one name
pub record IsConsistent (funs : Levels FunEntry) (sorts : Levels SortEntry) : Type 0 where
  pub same_levels : length funs.pushed ≡ length sorts.pushed
  pub few_levels : length funs.pushed ≤ 65535
  pub funs_distinct : HasDistinctNames (live funs)
  pub sorts_distinct : HasDistinctNames (live sorts)

pub record Environment : Type 0 where
  pub funs : Levels FunEntry
  pub sorts : Levels SortEntry
  pub global : Bool

-- what is there at first and after reset
abbrev pub empty : Environment
empty = record { funs = no_levels; sorts = no_levels; global = false }

-- the levels that are open past the first
abbrev pub depth : Environment → ℕ
depth e = length e.funs.pushed

-- what each call leaves
abbrev pub with_fun : ℕ → FunEntry → Environment → Environment
with_fun name entry e = record { funs = declared e.global (name, entry) e.funs; sorts = e.sorts; global = e.global }

abbrev pub with_sort : ℕ → SortEntry → Environment → Environment
with_sort name entry e = record { funs = e.funs; sorts = declared e.global (name, entry) e.sorts; global = e.global }

abbrev pub with_global : Bool → Environment → Environment
with_global on e = record { funs = e.funs; sorts = e.sorts; global = on }

abbrev pub with_pushed : ℕ → Environment → Environment
with_pushed n e = record { funs = opened n e.funs; sorts = opened n e.sorts; global = e.global }

abbrev pub with_popped : ℕ → Environment → Environment
with_popped n e = record { funs = closed n e.funs; sorts = closed n e.sorts; global = e.global }

abbrev pub without_assertions : Environment → Environment
without_assertions e = record { funs = only_globals e.funs; sorts = only_globals e.sorts; global = e.global }
