use Rattle.std.proofs.Common.{ℕ, ◌≤◌, List, map}
use Rattle.judgement.specs.Judging.{Outcome}
use Rattle.sort_store.specs.Tree.{Sort, tree}
use Rattle.sort_store.specs.Interned.{AllInterned, Grows}
use Rattle.typer.specs.Ready.{IsReady}
use Rattle.typer.proofs.SortSteps.{size, sizes, left, prefixed, sorts_in, OthersStay}
use Rattle.typer.proofs.sorts.+sorts.Given as goal

abbrev pub decreases-type_sort : goal.decreases-type_sort
decreases-type_sort l = size l.raw

abbrev pub decreases-type_sorts : goal.decreases-type_sorts
decreases-type_sorts l = sizes l.raws

-- What the sorts that are left have as outcome, all have it with the sorts so far before it.
abbrev pub invariant-type_sorts-loop-next : goal.invariant-type_sorts-loop-next
invariant-type_sorts-loop-next l = record {
  onward : (before : List ℕ) (o : Outcome (List Sort)) → sorts_in l.fn.world l.params (left l.next) before o → sorts_in l.fn.world l.params l.fn.raws before (prefixed (map tree l.sorts.items) o);
  interned : AllInterned l.world.sorts l.sorts.items;
  grows : Grows l.fn.world.sorts l.world.sorts;
  others : OthersStay l.fn.world l.world;
  ready : IsReady l.world;
  smaller : sizes (left l.next) ≤ sizes l.fn.raws;
}

abbrev pub decreases-type_sorts-loop-next : goal.decreases-type_sorts-loop-next
decreases-type_sorts-loop-next l = sizes (left l.next)
