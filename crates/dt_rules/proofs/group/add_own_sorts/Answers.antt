use Rattle.std.proofs.Common.{take, ◌+◌, ◌≡◌, map}
use Rattle.sort_store.proofs.GrownStores.{grows_more}
use Rattle.term_store.specs.Command.{plain_datatype}
use Rattle.dt_rules.specs.Groups.{own_sort, IsOwnSort}
use Rattle.dt_rules.proofs.Gaining.{gained_more, gains_fail, own_more, own_member, mapped, all_own}
use Rattle.dt_rules.proofs.group.add_own_sorts.Goals as goal

pub loop-datatype-preserved : goal.loop-datatype-preserved
loop-datatype-preserved c =
    let group = c.args.group.now in
    let k = c.loop-datatype.datatype-index in
    let t = c.datatype-item.result in
    let plain = map plain_datatype group in record {
      grows = grows_more _ _ _ c.loop-datatype.invariant.grows c.add_own_sort.ensures.grows;
      distinct = λ h. c.add_own_sort.ensures.distinct (c.loop-datatype.invariant.distinct h);
      gained = λ ts h.
          (let before = c.loop-datatype.invariant.gained ts h in
          gained_more ts plain (IsOwnSort (map plain_datatype (take k group))) (λ s. s ≡ own_sort (plain_datatype t)) (IsOwnSort (map plain_datatype (take (k + 1) group))) c.loop-datatype.sorts c.add_own_sort.new.sorts c.args.list.now.items c.loop-datatype.list.items c.add_own_sort.new.list.items before
          (c.in-Ok.ensures.gains ts plain before.still (own_member ts plain (plain_datatype t) (mapped plain_datatype group k t c.loop-datatype-test.true c.datatype-item.is))) (own_more group k t c.loop-datatype-test.true c.datatype-item.is));
    }

pub returns-in-Err-clause-gains : goal.returns-in-Err-clause-gains
returns-in-Err-clause-gains c = λ ts h.
    (let group = c.args.group.now in
    let plain = map plain_datatype group in
    let t = c.datatype-item.result in
    let before = c.loop-datatype.invariant.gained ts h in
    gains_fail ts plain _ _ c.in-Err.error _ _ _ _ _ _ (c.in-Err.ensures.gains ts plain before.still (own_member ts plain (plain_datatype t) (mapped plain_datatype group c.loop-datatype.datatype-index t c.loop-datatype-test.true c.datatype-item.is))))

pub returns-clause-gains : goal.returns-clause-gains
returns-clause-gains c = λ ts h.
    (let g = c.loop-datatype.invariant.gained ts h in
    record { still = g.still; more = g.more; has = λ s p. g.has s (all_own c.args.group.now c.loop-datatype.datatype-index c.loop-datatype-test.false s p) })
