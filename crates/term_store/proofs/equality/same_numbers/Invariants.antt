use Rattle.std.proofs.Common.{◌≡◌, ℕ, ◌<◌, get_or}
use Rattle.term_store.specs.Term.{NumberedTerm, number}
use Rattle.term_store.proofs.equality.same_numbers.Given as goal

abbrev pub invariant-loop-i : goal.invariant-loop-i
invariant-loop-i l = (k : ℕ) (d e : NumberedTerm) → k < l.i → number (get_or l.a k d) ≡ number (get_or l.b k e)
