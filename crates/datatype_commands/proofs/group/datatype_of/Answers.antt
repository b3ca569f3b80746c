use Rattle.std.proofs.Common.{map}
use Rattle.std.proofs.lemmas.Result.{err_from_is_err_and}
use Rattle.term_store.specs.Command.{plain_constructor}
use Rattle.typer.specs.FunctionSymbols.{signature_of}
use Rattle.datatype_commands.proofs.TakingDatatypes.{datatype_broken, datatype_right, datatype_unparametered}
use Rattle.datatype_commands.proofs.group.datatype_of.Goals as goal

pub returns-in_err-params-clause-answer : goal.returns-in_err-params-clause-answer
returns-in_err-params-clause-answer c = let a = c.args in let p = err_from_is_err_and c.from_residual.result c.from_residual.ensures.1 in
    rw (p.1, p.2) (datatype_unparametered (signature_of a.world.now) a.parts.now.first a.parts.now.names.items a.symbol.now a.raw c.in_err-params.field-0.0 c.in_err-params.ensures)

pub returns-in-Ok-clause-answer : goal.returns-in-Ok-clause-answer
returns-in-Ok-clause-answer c = let a = c.args in
    datatype_right (signature_of a.world.now) a.parts.now.first a.parts.now.names.items a.symbol.now a.raw c.in_ok-params.params c.as_slice.result.now c.raw_constructors-raws.result c.as_slice.ensures c.raw_constructors-raws.ensures
    c.in_ok-params.ensures (map plain_constructor c.in-Ok.constructors) c.in-Ok.ensures.answer

pub returns-in-Err-clause-answer : goal.returns-in-Err-clause-answer
returns-in-Err-clause-answer c = let a = c.args in
    datatype_broken (signature_of a.world.now) a.parts.now.first a.parts.now.names.items a.symbol.now a.raw c.in_ok-params.params c.as_slice.result.now c.raw_constructors-raws.result c.as_slice.ensures c.raw_constructors-raws.ensures
    c.in_ok-params.ensures c.in-Err.error c.in-Err.ensures.answer
