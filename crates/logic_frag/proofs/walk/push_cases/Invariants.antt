use Rattle.std.proofs.Common.{◌≡◌, ◌++◌, drop, map}
use Rattle.term_store.specs.NumberedNodes.{cases}
use Rattle.term_store.specs.Term.{case_trees}
use Rattle.logic_frag.specs.Walk.{each_case_seen_in}
use Rattle.logic_frag.specs.ScopeFrames.{scope_of}
use Rattle.logic_frag.specs.SeenTerms.{occurrence}
use Rattle.logic_frag.proofs.walk.push_cases.Given as goal

abbrev pub invariant-loop-arm : goal.invariant-loop-arm
invariant-loop-arm l = map occurrence l.list.items ++ each_case_seen_in (scope_of l.outer) (case_trees (cases (drop l.arm-index l.arms))) ≡ map occurrence l.fn.list.items ++ each_case_seen_in (scope_of l.outer) (case_trees (cases l.arms))
