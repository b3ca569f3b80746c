use Rattle.std.proofs.Common.{◌≡◌, ℕ, ◌<◌, get_or}
use Rattle.sort_store.specs.Tree.{NumberedSort}
use Rattle.term_store.specs.Term.{plain_var}
use Rattle.term_store.proofs.equality.same_vars.Given as goal

abbrev pub invariant-loop-i : goal.invariant-loop-i
invariant-loop-i l = (k : ℕ) (d e : ℕ × NumberedSort) → k < l.i → plain_var (get_or l.a k d) ≡ plain_var (get_or l.b k e)
