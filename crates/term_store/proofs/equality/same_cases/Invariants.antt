use Rattle.std.proofs.Common.{◌≡◌, ℕ, ◌<◌, get_or}
use Rattle.term_store.specs.declared.parts.Pattern.{Pattern}
use Rattle.term_store.specs.Outline.{case_outline}
use Rattle.term_store.specs.Term.{NumberedTerm}
use Rattle.term_store.proofs.equality.same_cases.Given as goal

abbrev pub invariant-loop-i : goal.invariant-loop-i
invariant-loop-i l = (k : ℕ) (d e : Pattern × NumberedTerm) → k < l.i → case_outline (get_or l.a k d) ≡ case_outline (get_or l.b k e)
