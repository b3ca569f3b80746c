use Rattle.std.proofs.Common.{◌≡◌, map, take}
use Rattle.sort_store.specs.Tree.{tree}
use Rattle.sort_store.specs.Instance.{inst}
use Rattle.sort_store.specs.Interned.{AllInterned, Grows}
use Rattle.sort_store.proofs.store.SortStore.+inst_tree.Given as goal

abbrev pub invariant-loop-part : goal.invariant-loop-part
invariant-loop-part l = record {
  grows : Grows l.initial.self l.self;
  interned : AllInterned l.self l.list.items;
  same : map tree l.list.items ≡ map (λ x. inst (map tree l.args) (tree x)) (take l.part-index l.part-items);
}
