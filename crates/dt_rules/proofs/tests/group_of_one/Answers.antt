use Rattle.std.proofs.Common.{sym, subst}
use Rattle.sort_store.specs.Interned.{HasNoRepeats}
use Rattle.dt_rules.proofs.ReadyGroups.{none_repeated, ready_constants}
use Rattle.dt_rules.proofs.tests.group_of_one.Goals as goal

pub check_group-requires : goal.check_group-requires
check_group-requires g c = record {
  ready = ready_constants c.new-defs.result c.from_ref.result.now c.in_ok-datatype.datatype c.new-defs.ensures c.from_ref.ensures.value c.in_ok-datatype.ensures;
  distinct = subst HasNoRepeats (sym c.new-sorts.ensures) none_repeated;
}
