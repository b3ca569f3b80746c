use Rattle.std.proofs.Common.{◌∙◌, [], ◌∷◌, Err, Ok, ap, sym, length}
use Rattle.std.proofs.lemmas.Result.{err_from_is_err_and}
use Rattle.term_store.specs.Command.{plain_datatype}
use Rattle.typer.specs.Declarations.{declarations_of}
use Rattle.typer.specs.FunctionSymbols.{signature_of}
use Rattle.datatype_commands.specs.GroupRules.{only_symbol}
use Rattle.datatype_commands.proofs.GrownWorlds.{constructors_grown}
use Rattle.datatype_commands.proofs.MovedGroups.{datatype_moved, kept_scopes, kept_script, ready_alone, ready_moved, sort_live, symbol_is, symbols_changed, whole_moved}
use Rattle.datatype_commands.proofs.TakingDatatypes.{single_broken, single_refused, single_right}
use Rattle.datatype_commands.proofs.group.type_single.Goals as goal

pub returns-in_err-datatype-clause-answer : goal.returns-in_err-datatype-clause-answer
returns-in_err-datatype-clause-answer c = let a = c.args in let S = signature_of a.world.now in let p = err_from_is_err_and c.from_residual-in_err-datatype.result c.from_residual-in_err-datatype.ensures.1 in
    rw (p.1, p.2) (single_broken S a.at a.name.now a.raw (sym c.is_sort_in_use.ensures ∙ c.if-is_sort_in_use.false) c.in_err-datatype.field-0.0
    (datatype_moved a.world.now c.declare_symbol.new.world a.at c.in-Some-checked_add.number a.name.now a.raw c.in-Some.symbol c.new.result.items c.requires.begins c.declare_symbol.ensures.others c.in_ok-declare_symbol.ensures.effect c.in-Some.ensures
    c.in-Some-checked_add.ensures.1 c.new.ensures.items (Err c.in_err-datatype.field-0.0) c.in_err-datatype.ensures.answer))

pub judge_rules-requires-clause-group : goal.judge_rules-requires-clause-group
judge_rules-requires-clause-group c = let a = c.args in let mid = c.declare_symbol.new.world in let here = c.datatype_of.new.world in let t = c.in_ok-datatype.datatype in
    ready_moved a.world.now here (t ∷ []) c.from_ref-2.result.now (kept_script a.world.now here (symbols_changed a.world.now mid here c.declare_symbol.ensures.others c.datatype_of.ensures.grown)) c.from_ref-2.ensures.value
    (ready_alone a.world.now mid a.at c.in-Some-checked_add.number a.name.now a.raw c.in-Some.symbol c.new.result.items c.requires.begins c.declare_symbol.ensures.others c.in_ok-declare_symbol.ensures.effect c.in-Some.ensures
    c.in-Some-checked_add.ensures.1 c.new.ensures.items (plain_datatype t) c.in_ok-datatype.ensures.answer c.requires.known)

pub returns-in-Ok-clause-answer : goal.returns-in-Ok-clause-answer
returns-in-Ok-clause-answer c = let a = c.args in let S = signature_of a.world.now in let mid = c.declare_symbol.new.world in let here = c.datatype_of.new.world in let t = c.in_ok-datatype.datatype in
    single_right S a.at a.name.now a.raw (sym c.is_sort_in_use.ensures ∙ c.if-is_sort_in_use.false) (plain_datatype t)
    (datatype_moved a.world.now mid a.at c.in-Some-checked_add.number a.name.now a.raw c.in-Some.symbol c.new.result.items c.requires.begins c.declare_symbol.ensures.others c.in_ok-declare_symbol.ensures.effect c.in-Some.ensures
    c.in-Some-checked_add.ensures.1 c.new.ensures.items (Ok (plain_datatype t)) c.in_ok-datatype.ensures.answer)
    (whole_moved a.world.now here a.at (only_symbol S a.name.now a.raw ∷ []) c.from_ref.result.now (t ∷ []) c.from_ref-2.result.now (kept_script a.world.now here (symbols_changed a.world.now mid here c.declare_symbol.ensures.others c.datatype_of.ensures.grown))
    (c.from_ref.ensures.value ∙ ap (λ s. s ∷ []) (symbol_is a.world.now mid a.at c.in-Some-checked_add.number a.name.now a.raw c.in-Some.symbol c.new.result.items c.requires.begins c.declare_symbol.ensures.others c.in_ok-declare_symbol.ensures.effect c.in-Some.ensures
    c.in-Some-checked_add.ensures.1 c.new.ensures.items)) c.from_ref-2.ensures.value (Ok tt) c.in-Ok.ensures.answer)

pub returns-in-Ok-clause-effect : goal.returns-in-Ok-clause-effect
returns-in-Ok-clause-effect c = let a = c.args in let mid = c.declare_symbol.new.world in let here = c.datatype_of.new.world in
    ap declarations_of (kept_scopes here c.judge_rules.new.world c.judge_rules.ensures.grown ∙ kept_scopes mid here c.datatype_of.ensures.grown)
    ∙ sort_live a.world.now mid a.at c.in-Some-checked_add.number a.name.now a.raw c.in-Some.symbol c.new.result.items c.requires.begins c.declare_symbol.ensures.others c.in_ok-declare_symbol.ensures.effect c.in-Some.ensures
    c.in-Some-checked_add.ensures.1 c.new.ensures.items (plain_datatype c.in_ok-datatype.datatype) c.in_ok-datatype.ensures.answer

pub returns-in-Ok-clause-group : goal.returns-in-Ok-clause-group
returns-in-Ok-clause-group c = let a = c.args in
    ready_alone a.world.now c.declare_symbol.new.world a.at c.in-Some-checked_add.number a.name.now a.raw c.in-Some.symbol c.new.result.items c.requires.begins c.declare_symbol.ensures.others c.in_ok-declare_symbol.ensures.effect c.in-Some.ensures
    c.in-Some-checked_add.ensures.1 c.new.ensures.items (plain_datatype c.in_ok-datatype.datatype) c.in_ok-datatype.ensures.answer c.requires.known

pub returns-in-Ok-clause-schema : goal.returns-in-Ok-clause-schema
returns-in-Ok-clause-schema c = let t = c.in_ok-datatype.datatype in constructors_grown c.datatype_of.new.world c.judge_rules.new.world (length t.params) t.constructors c.judge_rules.ensures.grown c.in_ok-datatype.ensures.schema

pub returns-clause-answer : goal.returns-clause-answer
returns-clause-answer c = let a = c.args in let S = signature_of a.world.now in let mid = c.declare_symbol.new.world in let here = c.datatype_of.new.world in let t = c.in_ok-datatype.datatype in
    single_refused S a.at a.name.now a.raw (sym c.is_sort_in_use.ensures ∙ c.if-is_sort_in_use.false) (plain_datatype t)
    (datatype_moved a.world.now mid a.at c.in-Some-checked_add.number a.name.now a.raw c.in-Some.symbol c.new.result.items c.requires.begins c.declare_symbol.ensures.others c.in_ok-declare_symbol.ensures.effect c.in-Some.ensures
    c.in-Some-checked_add.ensures.1 c.new.ensures.items (Ok (plain_datatype t)) c.in_ok-datatype.ensures.answer) c.in-Err.error
    (whole_moved a.world.now here a.at (only_symbol S a.name.now a.raw ∷ []) c.from_ref.result.now (t ∷ []) c.from_ref-2.result.now (kept_script a.world.now here (symbols_changed a.world.now mid here c.declare_symbol.ensures.others c.datatype_of.ensures.grown))
    (c.from_ref.ensures.value ∙ ap (λ s. s ∷ []) (symbol_is a.world.now mid a.at c.in-Some-checked_add.number a.name.now a.raw c.in-Some.symbol c.new.result.items c.requires.begins c.declare_symbol.ensures.others c.in_ok-declare_symbol.ensures.effect c.in-Some.ensures
    c.in-Some-checked_add.ensures.1 c.new.ensures.items)) c.from_ref-2.ensures.value (Err c.in-Err.error) c.in-Err.ensures.answer)
