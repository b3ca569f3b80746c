use Rattle.std.proofs.Common.{◌++◌, ◌∷◌, [], ap, sym, ◌∙◌, append_assoc, append-nil, arith}
use Rattle.script_core.proofs.TakingParts.{no_items}
use Rattle.script_core.proofs.effects.list_of.Goals as goal

pub loop-sort-init : goal.loop-sort-init
loop-sort-init c = ap (λ z. z ++ c.into_iter-sort-iterator.result.rest.items) c.new-list.ensures ∙ c.into_iter-sort-iterator.ensures.into_iter_gives.0

pub loop-sort-preserved : goal.loop-sort-preserved
loop-sort-preserved c =
    ap (λ z. z ++ c.next.new.self.rest.items) c.in-Ok.ensures.ok
    ∙ (append_assoc c.loop-sort.list (c.in-Some.sort ∷ []) c.next.new.self.rest.items
    ∙ (ap (λ z. c.loop-sort.list ++ z) (sym c.in-Some.ensures.steps.0) ∙ c.loop-sort.invariant))

pub returns-clause-ok : goal.returns-clause-ok
returns-clause-ok c =
    sym (append-nil c.loop-sort.list)
    ∙ (ap (λ z. c.loop-sort.list ++ z) (sym (no_items c.loop-sort.sort-iterator.rest.items (omega (arith, c.in-None.ensures.steps.0, c.loop-sort.sort-iterator.rest.ok)))) ∙ c.loop-sort.invariant)
