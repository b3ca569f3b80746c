use Rattle.std.proofs.Common.{◌≡◌, ℕ, drop, map}
use Rattle.std.specs.List.{list_any}
use Rattle.sort_store.specs.Tree.{Sort}
use Rattle.term_store.specs.Term.{plain_var}
use Rattle.logic_frag.specs.SortSearch.{has_other_array}
use Rattle.logic_frag.proofs.sorts.any_variable_has_array.Given as goal

abbrev pub invariant-loop-var : goal.invariant-loop-var
invariant-loop-var l = list_any (has_other_array l.part) (map (λ (v : ℕ × Sort). v.1) (map plain_var (drop l.var-index l.vars))) ≡ list_any (has_other_array l.part) (map (λ (v : ℕ × Sort). v.1) (map plain_var l.vars))
