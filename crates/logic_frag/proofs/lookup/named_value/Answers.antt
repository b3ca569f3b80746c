use Rattle.std.proofs.Common.{inl, inr}
use Rattle.std.specs.Option.{option_copied, option_map}
use Rattle.term_store.specs.NumberedNodes.{terms}
use Rattle.term_store.specs.Term.{tree, trees}
use Rattle.logic_frag.specs.ScopeFrames.{named_value}
use Rattle.logic_frag.proofs.Lookups.{names_ended, values_ended, found_last}
use Rattle.logic_frag.proofs.lookup.named_value.Goals as goal

pub returns : goal.returns
returns c =
    let names = c.loop-var.var-iterator.a.rest.now in
    let values = c.loop-var.var-iterator.b.rest.now in
    let rest = named_value names (trees (terms values)) c.args.name in
    let found = option_map tree (option_copied c.loop-var.found) in
    let whole = named_value c.args.vars.now (trees (terms c.args.values.now)) c.args.name in
    elim c.in-None.ensures.steps [
      | inl p ↦ found_last rest found whole (names_ended names (trees (terms values)) c.args.name p.1.0) c.loop-var.invariant
      | inr p ↦ found_last rest found whole (values_ended names values c.args.name p.1.0) c.loop-var.invariant
    ]
