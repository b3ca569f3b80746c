use Rattle.std.proofs.Common.{◌≡◌, ◌++◌, take}
use Rattle.std.specs.Prelude.{map}
use Rattle.sexp_core.specs.Parts.{moved_item}
use Rattle.sexp_core.proofs.parts.copy_items.Given as goal

abbrev pub invariant-loop-item : goal.invariant-loop-item
invariant-loop-item l = l.out.items ≡ l.fn.out.items ++ map (moved_item l.from) (take l.item-index l.items)
