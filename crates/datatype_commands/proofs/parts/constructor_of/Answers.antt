use Rattle.std.proofs.Common.{map, refl}
use Rattle.std.proofs.lemmas.Result.{err_from_is_err_and}
use Rattle.cmd_grammar.specs.DeclarationViews.{constructor_dec_seen}
use Rattle.term_store.specs.Command.{plain_field}
use Rattle.typer.specs.FunctionSymbols.{signature_of}
use Rattle.datatype_commands.proofs.TakingParts.{constructor_broken, constructor_names, constructor_right, constructor_unnamed}
use Rattle.datatype_commands.proofs.parts.constructor_of.Goals as goal

pub returns-in_err-no-clause-answer : goal.returns-in_err-no-clause-answer
returns-in_err-no-clause-answer c = let a = c.args in let p = err_from_is_err_and c.from_residual.result c.from_residual.ensures.1 in
    rw (p.1, p.2) (constructor_unnamed (signature_of a.world.now) a.params.now a.parts.now.first a.parts.now.names.items (constructor_dec_seen a.raw) c.in_err-no.field-0.0 c.in_err-no.ensures.answer)

pub returns-in-Ok-clause-answer : goal.returns-in-Ok-clause-answer
returns-in-Ok-clause-answer c = let a = c.args in let mid = c.part_of.new.parts in
    constructor_right (signature_of a.world.now) a.params.now a.parts.now.first a.parts.now.names.items (constructor_dec_seen a.raw) mid.first mid.names.items c.part_of.ensures.first c.in_ok-no.ensures.names
    c.in_ok-no.no (map plain_field c.in-Ok.fields) c.in_ok-no.ensures.answer c.in-Ok.ensures.answer

pub returns-in-Ok-clause-names : goal.returns-in-Ok-clause-names
returns-in-Ok-clause-names c = let a = c.args in let mid = c.part_of.new.parts in
    constructor_names a.parts.now.names.items mid.names.items c.fields_of.new.parts.names.items a.raw.name.name (record { no = c.in_ok-no.no; name = a.raw.name.name; fields = c.in-Ok.fields }) c.in-Ok.fields c.in_ok-no.ensures.names c.in-Ok.ensures.names refl refl

pub returns-in-Err-clause-answer : goal.returns-in-Err-clause-answer
returns-in-Err-clause-answer c = let a = c.args in let mid = c.part_of.new.parts in
    constructor_broken (signature_of a.world.now) a.params.now a.parts.now.first a.parts.now.names.items (constructor_dec_seen a.raw) mid.first mid.names.items c.part_of.ensures.first c.in_ok-no.ensures.names
    c.in_ok-no.no c.in-Err.error c.in_ok-no.ensures.answer c.in-Err.ensures.answer
