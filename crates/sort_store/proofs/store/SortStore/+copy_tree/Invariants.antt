use Rattle.std.proofs.Common.{◌≡◌, map, take}
use Rattle.sort_store.specs.Tree.{tree}
use Rattle.sort_store.specs.Interned.{AllInterned, Grows}
use Rattle.sort_store.proofs.store.SortStore.+copy_tree.Given as goal

abbrev pub invariant-loop-arg : goal.invariant-loop-arg
invariant-loop-arg l = record {
  grows : Grows l.initial.self l.self;
  interned : AllInterned l.self l.args.items;
  same : map tree l.args.items ≡ map tree (take l.arg-index l.arg-items);
}
