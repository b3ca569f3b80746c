-- The rule on the rank of a function symbol with argument sorts (SMT-LIB 2.6, section 3.6.4).
use Rattle.std.specs.Prelude.{◌≡◌, ℕ, ◌≤◌, Bool, false, Option, Some, None}
use Rattle.sig_table.specs.declared.code.Code.TheVariants.{NoRank, AmbiguousConstructor, WrongQualifiedSort, SortTooLarge}
use Rattle.judgement.specs.Judging.{Judging, done, ◌>>=◌, check, find}
use Rattle.sort_store.specs.Tree.{Sort, node_count}

-- The result sort, in a term that begins at a byte. The symbol has some rank with the argument sorts. Where these don't give the
-- result sort, `as` has to name it; where it names one, which is small enough, a rank has to have it.
abbrev pub judge_rank : (Sort → Type 0) → Bool → ℕ → Option Sort → Judging Sort
judge_rank rank ambiguous at None = do
  _ ← check ((result : Sort) × rank result) NoRank at
  _ ← check (ambiguous ≡ false) AmbiguousConstructor at
  result ← find rank NoRank at
  _ ← check (node_count result ≤ 1000) SortTooLarge at
  done result
judge_rank rank ambiguous at (Some asked) = do
  _ ← check ((result : Sort) × rank result) NoRank at
  _ ← check (rank asked) WrongQualifiedSort at
  done asked
