use Rattle.std.proofs.Common.{◌≡◌, drop}
use Rattle.std.specs.List.{list_all}
use Rattle.term_store.specs.NumberedNodes.{terms}
use Rattle.term_store.specs.Term.{trees}
use Rattle.logic_frag.specs.IntegerTerms.{each_seen_in}
use Rattle.logic_frag.specs.ScopeFrames.{scope_of}
use Rattle.logic_frag.specs.Following.{context_in}
use Rattle.logic_frag.specs.DifferenceTests.{is_side}
use Rattle.logic_frag.proofs.difference.are_sides.Given as goal

abbrev pub invariant-loop-arg : goal.invariant-loop-arg
invariant-loop-arg l = list_all (is_side (context_in l.known)) (each_seen_in (scope_of l.scope) (trees (terms (drop l.arg-index l.args)))) ≡ list_all (is_side (context_in l.known)) (each_seen_in (scope_of l.scope) (trees (terms l.args)))
