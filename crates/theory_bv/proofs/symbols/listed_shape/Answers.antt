use Rattle.theory_bv.proofs.ListedSymbols.{declaration-listed}
use Rattle.theory_bv.proofs.symbols.listed_shape.Goals as goal

pub returns : goal.returns
returns c =
    declaration-listed c.args.name.now c.bv_table.result c.find.result c.bv_table.ensures c.find.ensures c.in_ok-number.number c.numbered.result c.in_ok-number.was c.numbered.ensures
