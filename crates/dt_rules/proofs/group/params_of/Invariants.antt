use Rattle.std.proofs.Common.{◌≡◌, map}
use Rattle.sort_store.specs.Interned.{AllInterned, Grows, HasNoRepeats}
use Rattle.sort_store.specs.Tree.{tree}
use Rattle.dt_rules.specs.Groups.{param_sorts}
use Rattle.dt_rules.proofs.group.params_of.Given as goal

abbrev pub invariant-loop-i : goal.invariant-loop-i
invariant-loop-i l = record {
  trees : map tree l.params.items ≡ param_sorts l.i;
  interned : AllInterned l.sorts l.params.items;
  grows : Grows l.fn.sorts l.sorts;
  distinct : HasNoRepeats l.fn.sorts → HasNoRepeats l.sorts;
}
