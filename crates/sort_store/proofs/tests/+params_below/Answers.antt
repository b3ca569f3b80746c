use Rattle.std.proofs.Common.{◌≡◌, ℕ, ◌<◌, rules, arith, length, get_or, ap, ◌∙◌}
use Rattle.sort_store.specs.Instance.{IsBelow, ParamsBelow, param_of}
use Rattle.sort_store.specs.Tree.{NumberedSort, tree}
use Rattle.sort_store.specs.declared.sort_ref.SortNode.{SortNode}
use Rattle.sort_store.proofs.InstanceLaws.{params_below_from_parts}
use Rattle.sort_store.proofs.tests.+params_below.Goals as goal

pub returns : goal.returns
returns t c =
    let v = c.schema.inside.shared.value in
    let xs = c.deref-part-items.result.now in
    let same : xs ≡ v.args.items = c.deref-part-items.ensures.value ∙ ap (λ (x : SortNode). x.args.items) c.deref-2.ensures in
    let below : IsBelow c.args.count (param_of v.head) = search rules in
    let each : (k : ℕ) (d : NumberedSort) → k < length xs → ParamsBelow c.args.count (tree (get_or xs k d)) = λ k d l. c.loop-part.invariant k d (omega arith) in
    λ yes. params_below_from_parts c.args.count c.args.schema.now v.number v.head v.args.items xs c.schema.view_is same below each
