use Rattle.std.proofs.Common.{map}
use Rattle.sort_store.specs.Interned.{Grows, HasNoRepeats}
use Rattle.sort_store.specs.Tree.{tree}
use Rattle.term_store.specs.Command.{plain_datatype}
use Rattle.dt_rules.specs.Judgement.{NoneListed}
use Rattle.dt_rules.proofs.check.first_listed.Given as goal

-- no own sort so far is in the list
abbrev pub invariant-loop-i : goal.invariant-loop-i
invariant-loop-i l = record {
  grows : Grows l.fn.sorts l.sorts;
  distinct : HasNoRepeats l.fn.sorts → HasNoRepeats l.sorts;
  none : NoneListed (map plain_datatype l.group) (map tree l.unsettled) l.i;
}
