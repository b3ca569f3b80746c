use Rattle.std.proofs.Common.{◌≡◌, drop}
use Rattle.std.specs.List.{list_all}
use Rattle.term_store.specs.NumberedNodes.{terms}
use Rattle.term_store.specs.Term.{trees}
use Rattle.logic_frag.specs.IntegerTerms.{each_seen_in}
use Rattle.logic_frag.specs.ScopeFrames.{scope_of}
use Rattle.logic_frag.specs.DifferenceTests.{has_int}
use Rattle.logic_frag.proofs.difference.are_int.Given as goal

abbrev pub invariant-loop-arg : goal.invariant-loop-arg
invariant-loop-arg l = list_all has_int (each_seen_in (scope_of l.scope) (trees (terms (drop l.arg-index l.args)))) ≡ list_all has_int (each_seen_in (scope_of l.scope) (trees (terms l.args)))
