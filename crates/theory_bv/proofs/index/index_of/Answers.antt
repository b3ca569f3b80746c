use Rattle.std.proofs.Common.{◌<◌, sym, arith}
use Rattle.std.proofs.lemmas.Grind.{common_steps}
use Rattle.theory_bv.specs.Indices.{greatest, numeral_value}
use Rattle.theory_bv.proofs.NumeralDigits.{index_with-large, value_grows}
use Rattle.theory_bv.proofs.index.index_of.Goals as goal

pub returns-then-value-from : goal.returns-then-value-from
returns-then-value-from c =
    let large : greatest < numeral_value c.args.numeral.now = grind (arith, common_steps, value_grows c.args.numeral.now c.loop-digit.digit-index) in
    sym (index_with-large (numeral_value c.args.numeral.now) large)
