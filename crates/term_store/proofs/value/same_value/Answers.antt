use Rattle.term_store.proofs.Values.{value_from_items, items_from_value}
use Rattle.term_store.proofs.value.same_value.Goals as goal

pub returns : goal.returns
returns c =
    let a = c.args.a.now in
    let b = c.args.b.now in
    let p = c.items.ensures.items in
    let q = c.items-2.ensures.items in (
      λ t. value_from_items a b c.items.result.now c.items-2.result.now p q (c.same_items.ensures.0 t),
      λ e. c.same_items.ensures.1 (items_from_value a b c.items.result.now c.items-2.result.now p q e),
    )
