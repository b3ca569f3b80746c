use Rattle.std.proofs.Common.{ap, arith, length, ◌-◌, ◌*◌}
use Rattle.typer.specs.FunctionSymbols.{signature_of, text_of}
use Rattle.typer.proofs.LiteralSteps.{binary_sort, hexadecimal_sort, wide_literal}
use Rattle.typer.proofs.terms.literal_head.Goals as goal
use Rattle.typer.proofs.terms.literal_head.Goals.{in-Binary, in-Hexadecimal}

pub returns-in-Err : goal.returns-in-Err
returns-in-Err c = elim c.match-tok.branch [
  | in-Binary w ↦
      let text = text_of (signature_of c.args.world.now) c.args.tok.now.name in
      wide_literal (signature_of c.args.world.now) c.args.tok.now (length text - 2) c.fault-in-Err.result (binary_sort c.args.world.now.theories text c.args.tok.now.kind w.if-world-2.true w.in-Binary.is)
      (λ l. c.in-Err.ensures (omega (arith, l, w.width-is, c.saturating_sub-digit_count.ensures, ap length c.text_of.ensures))) c.fault-in-Err.ensures
  | in-Hexadecimal w ↦
      let text = text_of (signature_of c.args.world.now) c.args.tok.now.name in
      wide_literal (signature_of c.args.world.now) c.args.tok.now (4 * (length text - 2)) c.fault-in-Err.result (hexadecimal_sort c.args.world.now.theories text c.args.tok.now.kind w.if-world-3.true w.in-Hexadecimal.is)
      (λ l. c.in-Err.ensures (omega (arith, l, w.width-is, w.saturating_mul-width.ensures, c.saturating_sub-digit_count.ensures, ap length c.text_of.ensures))) c.fault-in-Err.ensures
]
