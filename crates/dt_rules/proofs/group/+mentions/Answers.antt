use Rattle.std.proofs.Common.{sym, ◌∙◌, ap, arith, map}
use Rattle.term_store.specs.Command.{plain_datatype}
use Rattle.dt_rules.specs.Groups.{is_of_group}
use Rattle.dt_rules.proofs.Mentions.{none_mentions}
use Rattle.dt_rules.proofs.group.+mentions.Goals as goal

pub returns : goal.returns
returns t c =
    none_mentions _ c.args.sort.now c.loop-i.i (ap (is_of_group (map plain_datatype c.args.group.now)) (sym c.head.ensures) ∙ sym c.is_of_group.ensures ∙ c.if-is_of_group.false)
    (omega (arith, c.arg_count-i-end.ensures, c.loop-i-test.false)) c.loop-i.invariant
