use Rattle.std.proofs.Common.{sym, ◌∙◌}
use Rattle.typer.proofs.IndexLists.{width_is, no_width}
use Rattle.typer.proofs.bits.width.Goals as goal

pub returns-in-BitVec : goal.returns-in-BitVec
returns-in-BitVec c = width_is c.in-BitVec.width c.args.sort.now (sym c.in-BitVec.is ∙ c.head.ensures) (sym c.arg_count.ensures ∙ c.if-arg_count-eq0.true)

pub returns-in_default : goal.returns-in_default
returns-in_default c = no_width c.in-BitVec.width c.args.sort.now (sym c.in-BitVec.is ∙ c.head.ensures) (λ e. c.if-arg_count-eq0.false (c.arg_count.ensures ∙ e))
