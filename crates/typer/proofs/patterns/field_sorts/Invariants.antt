use Rattle.std.proofs.Common.{◌≡◌, map, take}
use Rattle.sort_store.specs.Instance.{inst}
use Rattle.sort_store.specs.Interned.{AllInterned, Grows, HasNoRepeats}
use Rattle.sort_store.specs.Tree.{tree}
use Rattle.term_store.specs.Command.{PlainField, plain_field}
use Rattle.typer.specs.MatchRules.{AreSmall}
use Rattle.typer.proofs.patterns.field_sorts.Given as goal

-- the fields so far have sorts that are small enough
abbrev pub invariant-loop-field : goal.invariant-loop-field
invariant-loop-field l = record {
  made : map tree l.list.items ≡ take l.field-index (map (λ (f : PlainField). inst (map tree l.values) f.sort) (map plain_field l.fields));
  small : AreSmall (map tree l.list.items);
  interned : AllInterned l.sorts l.list.items;
  grows : Grows l.fn.sorts l.sorts;
  distinct : HasNoRepeats l.sorts;
}
