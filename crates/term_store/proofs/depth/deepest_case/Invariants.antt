use Rattle.std.proofs.Common.{◌≡◌, ◌≤◌, max, drop}
use Rattle.term_store.specs.CanonicalText.{case_texts}
use Rattle.term_store.specs.Depth.{saturated, nesting_all}
use Rattle.term_store.specs.NumberedNodes.{cases}
use Rattle.term_store.specs.Term.{case_trees}
use Rattle.term_store.proofs.depth.deepest_case.Given as goal

abbrev pub invariant-loop-arm : goal.invariant-loop-arm
invariant-loop-arm l = record {
  depths : saturated (max l.deep (nesting_all (case_texts (case_trees (cases (drop l.arm-index l.arms)))))) ≡ saturated (nesting_all (case_texts (case_trees (cases l.arms))));
  small : l.deep ≤ 4294967295;
}
