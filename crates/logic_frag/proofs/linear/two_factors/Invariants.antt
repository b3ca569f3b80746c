use Rattle.std.proofs.Common.{◌≡◌, length}
use Rattle.term_store.specs.NumberedNodes.{terms}
use Rattle.term_store.specs.Term.{trees}
use Rattle.logic_frag.specs.Following.{context_in}
use Rattle.logic_frag.specs.IntegerTerms.{each_seen_in}
use Rattle.logic_frag.specs.IntegerTests.{two_factors}
use Rattle.logic_frag.specs.ScopeFrames.{scope_of}
use Rattle.logic_frag.proofs.linear.two_factors.Given as goal

abbrev pub invariant-loop-rest : goal.invariant-loop-rest
invariant-loop-rest l = two_factors (context_in l.known) (each_seen_in (scope_of l.scope) (trees (terms l.rest))) ≡ two_factors (context_in l.known) (each_seen_in (scope_of l.scope) (trees (terms l.args)))

abbrev pub decreases-loop-rest : goal.decreases-loop-rest
decreases-loop-rest l = length l.rest
