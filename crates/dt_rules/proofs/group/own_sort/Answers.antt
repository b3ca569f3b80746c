use Rattle.std.proofs.Common.{◌<◌, ◌≤◌, arith, length, subst}
use Rattle.term_store.specs.Command.{plain_datatype}
use Rattle.dt_rules.proofs.Gaining.{own_large}
use Rattle.dt_rules.proofs.group.own_sort.Goals as goal

pub returns-in_default-clause-too_large : goal.returns-in_default-clause-too_large
returns-in_default-clause-too_large c = λ _.
    (let far : (length c.as_slice.result.now < 4294967296) → ⊥ = c.in_default.ensures in
    own_large (plain_datatype c.args.datatype.now) c.as_slice.result.now c.as_slice.ensures (omega (arith, far)))

pub returns-then-count-ge-MAX_NODES-clause-too_large : goal.returns-then-count-ge-MAX_NODES-clause-too_large
returns-then-count-ge-MAX_NODES-clause-too_large c = λ _. own_large (plain_datatype c.args.datatype.now) c.as_slice.result.now c.as_slice.ensures (subst (λ z. 1000 ≤ z) c.in-Ok.ensures.1 c.if-count-ge-MAX_NODES.true)
