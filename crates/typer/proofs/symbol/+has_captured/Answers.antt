use Rattle.std.proofs.Common.{sym, ◌∙◌, ap, arith}
use Rattle.typer.specs.SortRules.{is_captured}
use Rattle.typer.proofs.CapturedSymbols.{none_captured}
use Rattle.typer.proofs.symbol.+has_captured.Goals as goal

pub returns : goal.returns
returns t c =
    none_captured _ _ c.args.sort.now c.loop-i.i (ap (is_captured c.args.names.now c.args.params.now) (sym c.head.ensures) ∙ sym c.is_captured.ensures ∙ c.if-is_captured.false)
    (omega (arith, c.arg_count-i-end.ensures, c.loop-i-test.false)) c.loop-i.invariant
