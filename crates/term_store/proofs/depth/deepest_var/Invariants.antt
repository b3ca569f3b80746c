use Rattle.std.proofs.Common.{◌≡◌, ◌≤◌, max, map, drop}
use Rattle.term_store.specs.CanonicalText.{var_texts}
use Rattle.term_store.specs.Depth.{saturated, nesting_all}
use Rattle.term_store.specs.Term.{plain_var}
use Rattle.term_store.proofs.depth.deepest_var.Given as goal

abbrev pub invariant-loop-var : goal.invariant-loop-var
invariant-loop-var l = record {
  depths : saturated (max l.deep (nesting_all (var_texts (map plain_var (drop l.var-index l.vars))))) ≡ saturated (nesting_all (var_texts (map plain_var l.vars)));
  small : l.deep ≤ 4294967295;
}
