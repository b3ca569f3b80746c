use Rattle.std.proofs.Common.{◌≡◌}
use Rattle.std.specs.Option.{option_copied, option_map}
use Rattle.term_store.specs.NumberedNodes.{terms}
use Rattle.term_store.specs.Term.{tree, trees}
use Rattle.logic_frag.specs.ScopeFrames.{later, named_value}
use Rattle.logic_frag.proofs.lookup.named_value.Given as goal

abbrev pub invariant-loop-var : goal.invariant-loop-var
invariant-loop-var l = later (named_value l.var-iterator.a.rest.now (trees (terms l.var-iterator.b.rest.now)) l.name) (option_map tree (option_copied l.found)) ≡ named_value l.vars (trees (terms l.values)) l.name
