use Rattle.std.proofs.Common.{◌≡◌, ◌≤◌, max, drop}
use Rattle.term_store.specs.CanonicalText.{term_texts}
use Rattle.term_store.specs.Depth.{saturated, nesting_all}
use Rattle.term_store.specs.NumberedNodes.{terms}
use Rattle.term_store.specs.Term.{trees}
use Rattle.term_store.proofs.depth.deepest.Given as goal

abbrev pub invariant-loop-arg : goal.invariant-loop-arg
invariant-loop-arg l = record {
  depths : saturated (max l.deep (nesting_all (term_texts (trees (terms (drop l.arg-index l.args)))))) ≡ saturated (nesting_all (term_texts (trees (terms l.args))));
  small : l.deep ≤ 4294967295;
}
