use Rattle.std.proofs.Common.{◌≡◌, ℕ, ◌<◌, get_or}
use Rattle.sexp_core.specs.declared.tree.Item.{Item}
use Rattle.term_store.specs.Value.{unplaced_item}
use Rattle.term_store.proofs.value.same_items.Given as goal

abbrev pub invariant-loop-i : goal.invariant-loop-i
invariant-loop-i l = (k : ℕ) (d e : Item) → k < l.i → unplaced_item (get_or l.a k d) ≡ unplaced_item (get_or l.b k e)
