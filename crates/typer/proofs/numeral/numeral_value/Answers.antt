use Rattle.std.proofs.Common.{arith}
use Rattle.std.proofs.lemmas.Grind.{common_steps}
use Rattle.typer.proofs.NumeralDigits.{value_grows}
use Rattle.typer.proofs.numeral.numeral_value.Goals as goal

pub returns-then-value-from-clause-too_large : goal.returns-then-value-from-clause-too_large
returns-then-value-from-clause-too_large c = grind (arith, common_steps, value_grows c.args.text.now c.loop-byte.byte-index)
