use Rattle.std.proofs.lemmas.Result.{err_from_is_err_and}
use Rattle.sort_store.specs.Tree.{tree}
use Rattle.cmd_grammar.specs.DeclarationViews.{selector_seen}
use Rattle.typer.specs.FunctionSymbols.{signature_of}
use Rattle.datatype_commands.proofs.TakingParts.{field_right, field_unnamed, field_unsorted}
use Rattle.datatype_commands.proofs.parts.field_of.Goals as goal

pub returns-in_err-no-clause-answer : goal.returns-in_err-no-clause-answer
returns-in_err-no-clause-answer c = let a = c.args in let p = err_from_is_err_and c.from_residual.result c.from_residual.ensures.1 in
    rw (p.1, p.2) (field_unnamed (signature_of a.world.now) a.params.now a.parts.now.first a.parts.now.names.items (selector_seen a.raw) c.in_err-no.field-0.0 c.in_err-no.ensures.answer)

pub returns-in-Ok-clause-answer : goal.returns-in-Ok-clause-answer
returns-in-Ok-clause-answer c = let a = c.args in
    field_right (signature_of a.world.now) a.params.now a.parts.now.first a.parts.now.names.items (selector_seen a.raw) c.in_ok-no.no (tree c.in-Ok.sort) c.in_ok-no.ensures.answer c.in-Ok.ensures.answer

pub returns-in-Err-clause-answer : goal.returns-in-Err-clause-answer
returns-in-Err-clause-answer c = let a = c.args in
    field_unsorted (signature_of a.world.now) a.params.now a.parts.now.first a.parts.now.names.items (selector_seen a.raw) c.in_ok-no.no c.in-Err.error c.in_ok-no.ensures.answer c.in-Err.ensures.answer
