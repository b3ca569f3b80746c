use Rattle.std.proofs.Common.{arith, map, ◌∙◌, Err, Ok, ap, sym, length}
use Rattle.std.proofs.lemmas.Result.{err_from_is_err_and}
use Rattle.std.proofs.lemmas.List.{length-map}
use Rattle.term_store.specs.Command.{plain_datatype}
use Rattle.typer.specs.Declarations.{declarations_of}
use Rattle.typer.specs.FunctionSymbols.{signature_of}
use Rattle.datatype_commands.proofs.GrownWorlds.{datatypes_grown}
use Rattle.datatype_commands.proofs.MovedGroups.{as_many, datatypes_moved, kept_scopes, kept_script, ready_moved, ready_there, sorts_live, symbols_changed, symbols_first, whole_moved}
use Rattle.datatype_commands.proofs.TakingDatatypes.{group_broken, group_refused, group_right, group_uncounted}
use Rattle.datatype_commands.proofs.group.type_group.Goals as goal

pub returns-then-len-clause-answer : goal.returns-then-len-clause-answer
returns-then-len-clause-answer c = let a = c.args in let S = signature_of a.world.now in
    rw c.fault.ensures (group_uncounted S a.at a.sorts.now a.datatypes.now c.in_ok-named.named (symbols_first a.world.now a.sorts.now c.requires.begins (Ok c.in_ok-named.named) c.in_ok-named.ensures.answer)
    (λ e. omega (arith, e, c.if-len.true, c.len.ensures, c.len-2.ensures)))

pub returns-in_err-group-clause-answer : goal.returns-in_err-group-clause-answer
returns-in_err-group-clause-answer c = let a = c.args in let S = signature_of a.world.now in let p = err_from_is_err_and c.from_residual-in_err-group.result c.from_residual-in_err-group.ensures.1 in
    rw (p.1, p.2) (group_broken S a.at a.sorts.now a.datatypes.now c.in_ok-named.named (symbols_first a.world.now a.sorts.now c.requires.begins (Ok c.in_ok-named.named) c.in_ok-named.ensures.answer)
    (omega (arith, c.if-len.false, c.len.ensures, c.len-2.ensures)) c.in_err-group.field-0.0
    (datatypes_moved a.world.now c.symbols_of.new.world c.in_ok-named.named c.as_slice-symbols.result.now c.in-Some.number a.at a.datatypes.now c.requires.begins c.symbols_of.ensures.others c.in_ok-named.ensures.effect c.as_slice-symbols.ensures c.in-Some.ensures
    (Err c.in_err-group.field-0.0) c.in_err-group.ensures.answer))

pub judge_rules-requires-clause-group : goal.judge_rules-requires-clause-group
judge_rules-requires-clause-group c = let a = c.args in let mid = c.symbols_of.new.world in let here = c.datatypes_of.new.world in
    ready_moved a.world.now here c.in_ok-group.group c.as_slice.result.now (kept_script a.world.now here (symbols_changed a.world.now mid here c.symbols_of.ensures.others c.datatypes_of.ensures.grown)) c.as_slice.ensures
    (ready_there a.world.now mid c.in_ok-named.named c.as_slice-symbols.result.now c.in-Some.number a.at a.datatypes.now c.requires.begins c.symbols_of.ensures.others c.in_ok-named.ensures.effect c.as_slice-symbols.ensures c.in-Some.ensures
    a.sorts.now (map plain_datatype c.in_ok-group.group) (symbols_first a.world.now a.sorts.now c.requires.begins (Ok c.in_ok-named.named) c.in_ok-named.ensures.answer) c.in_ok-group.ensures.answer c.requires.known)

pub judge_rules-requires-clause-each : goal.judge_rules-requires-clause-each
judge_rules-requires-clause-each c = let a = c.args in
    ap length c.as_slice-symbols.ensures ∙ (as_many a.world.now c.symbols_of.new.world c.in_ok-named.named c.as_slice-symbols.result.now c.in-Some.number a.at a.datatypes.now c.requires.begins c.symbols_of.ensures.others c.in_ok-named.ensures.effect c.as_slice-symbols.ensures c.in-Some.ensures
    a.sorts.now (map plain_datatype c.in_ok-group.group) (symbols_first a.world.now a.sorts.now c.requires.begins (Ok c.in_ok-named.named) c.in_ok-named.ensures.answer) c.in_ok-group.ensures.answer
    ∙ (length-map c.in_ok-group.group plain_datatype ∙ sym (ap length c.as_slice.ensures)))

pub returns-in-Ok-clause-answer : goal.returns-in-Ok-clause-answer
returns-in-Ok-clause-answer c = let a = c.args in let S = signature_of a.world.now in let mid = c.symbols_of.new.world in let here = c.datatypes_of.new.world in let group = c.in_ok-group.group in
    group_right S a.at a.sorts.now a.datatypes.now c.in_ok-named.named (symbols_first a.world.now a.sorts.now c.requires.begins (Ok c.in_ok-named.named) c.in_ok-named.ensures.answer)
    (omega (arith, c.if-len.false, c.len.ensures, c.len-2.ensures)) (map plain_datatype group)
    (datatypes_moved a.world.now mid c.in_ok-named.named c.as_slice-symbols.result.now c.in-Some.number a.at a.datatypes.now c.requires.begins c.symbols_of.ensures.others c.in_ok-named.ensures.effect c.as_slice-symbols.ensures c.in-Some.ensures
    (Ok (map plain_datatype group)) c.in_ok-group.ensures.answer)
    (whole_moved a.world.now here a.at c.in_ok-named.named c.as_slice-symbols.result.now group c.as_slice.result.now (kept_script a.world.now here (symbols_changed a.world.now mid here c.symbols_of.ensures.others c.datatypes_of.ensures.grown))
    c.as_slice-symbols.ensures c.as_slice.ensures (Ok tt) c.in-Ok.ensures.answer)

pub returns-in-Ok-clause-effect : goal.returns-in-Ok-clause-effect
returns-in-Ok-clause-effect c = let a = c.args in let mid = c.symbols_of.new.world in let here = c.datatypes_of.new.world in let new = c.judge_rules.new.world in
    ap declarations_of (kept_scopes here new c.judge_rules.ensures.grown ∙ kept_scopes mid here c.datatypes_of.ensures.grown)
    ∙ sorts_live a.world.now mid c.in_ok-named.named c.as_slice-symbols.result.now c.in-Some.number a.at a.datatypes.now c.requires.begins c.symbols_of.ensures.others c.in_ok-named.ensures.effect c.as_slice-symbols.ensures c.in-Some.ensures
    a.sorts.now (map plain_datatype c.in_ok-group.group) (symbols_first a.world.now a.sorts.now c.requires.begins (Ok c.in_ok-named.named) c.in_ok-named.ensures.answer) c.in_ok-group.ensures.answer

pub returns-in-Ok-clause-group : goal.returns-in-Ok-clause-group
returns-in-Ok-clause-group c = let a = c.args in
    ready_there a.world.now c.symbols_of.new.world c.in_ok-named.named c.as_slice-symbols.result.now c.in-Some.number a.at a.datatypes.now c.requires.begins c.symbols_of.ensures.others c.in_ok-named.ensures.effect c.as_slice-symbols.ensures c.in-Some.ensures
    a.sorts.now (map plain_datatype c.in_ok-group.group) (symbols_first a.world.now a.sorts.now c.requires.begins (Ok c.in_ok-named.named) c.in_ok-named.ensures.answer) c.in_ok-group.ensures.answer c.requires.known

pub returns-in-Ok-clause-schema : goal.returns-in-Ok-clause-schema
returns-in-Ok-clause-schema c = datatypes_grown c.datatypes_of.new.world c.judge_rules.new.world c.in_ok-group.group c.judge_rules.ensures.grown c.in_ok-group.ensures.schema

pub returns-clause-answer : goal.returns-clause-answer
returns-clause-answer c = let a = c.args in let S = signature_of a.world.now in let mid = c.symbols_of.new.world in let here = c.datatypes_of.new.world in let group = c.in_ok-group.group in
    group_refused S a.at a.sorts.now a.datatypes.now c.in_ok-named.named (symbols_first a.world.now a.sorts.now c.requires.begins (Ok c.in_ok-named.named) c.in_ok-named.ensures.answer)
    (omega (arith, c.if-len.false, c.len.ensures, c.len-2.ensures)) (map plain_datatype group)
    (datatypes_moved a.world.now mid c.in_ok-named.named c.as_slice-symbols.result.now c.in-Some.number a.at a.datatypes.now c.requires.begins c.symbols_of.ensures.others c.in_ok-named.ensures.effect c.as_slice-symbols.ensures c.in-Some.ensures
    (Ok (map plain_datatype group)) c.in_ok-group.ensures.answer) c.in-Err.error
    (whole_moved a.world.now here a.at c.in_ok-named.named c.as_slice-symbols.result.now group c.as_slice.result.now (kept_script a.world.now here (symbols_changed a.world.now mid here c.symbols_of.ensures.others c.datatypes_of.ensures.grown))
    c.as_slice-symbols.ensures c.as_slice.ensures (Err c.in-Err.error) c.in-Err.ensures.answer)
