use Rattle.std.proofs.Common.{◌≡◌, ◌++◌, drop, map, ℕ}
use Rattle.sort_store.specs.Tree.{Sort}
use Rattle.term_store.specs.Term.{plain_var}
use Rattle.logic_frag.proofs.walk.names_of.Given as goal

abbrev pub invariant-loop-var : goal.invariant-loop-var
invariant-loop-var l = l.names ++ map (λ (v : ℕ × Sort). v.0) (map plain_var (drop l.var-index l.vars)) ≡ map (λ (v : ℕ × Sort). v.0) (map plain_var l.vars)
