use Rattle.std.proofs.Common.{[], ◌∙◌, ap, refl}
use Rattle.std.proofs.lemmas.Result.{err_from_is_err_and}
use Rattle.typer.specs.FunctionSymbols.{signature_of}
use Rattle.datatype_commands.specs.Answers.{HasReadyParts, data_decs_left}
use Rattle.datatype_commands.specs.GroupRules.{judge_datatypes}
use Rattle.datatype_commands.proofs.GrownWorlds.{datatypes_grown, grown_more, one_more_ready, same_signature}
use Rattle.datatype_commands.proofs.TakingDatatypes.{data_decs_split, datatype_fault, datatype_taken, datatypes_taken, no_symbols_left, none_declared}
use Rattle.datatype_commands.proofs.group.datatypes_of.Goals as goal

pub returns-in_default-next-clause-answer : goal.returns-in_default-next-clause-answer
returns-in_default-next-clause-answer c = let a = c.args in let l = c.loop-symbol in let S = signature_of a.world.now in
    rw c.fault.ensures (none_declared S a.first a.at (judge_datatypes S a.first [] a.at a.symbols.now a.raws.now) l.parts.names.items l.left.now (data_decs_left l.next) l.datatypes l.invariant.onward
    c.in-Some.symbol.now c.in-Some.others.now c.in-Some.ensures.cases.0 (ap data_decs_left c.in_default-next.is))

pub returns-in_err-datatype-clause-answer : goal.returns-in_err-datatype-clause-answer
returns-in_err-datatype-clause-answer c = let a = c.args in let l = c.loop-symbol in let S = signature_of a.world.now in let p = err_from_is_err_and c.from_residual.result c.from_residual.ensures.1 in
    rw (p.1, p.2) (datatype_fault S a.first a.at (judge_datatypes S a.first [] a.at a.symbols.now a.raws.now) l.parts.names.items l.left.now (data_decs_left l.next) l.datatypes l.invariant.onward
    (signature_of l.world) l.parts.first c.in-Some.symbol.now c.in-Some.others.now c.in-Some-next.raw c.in-Some-next.rest (same_signature a.world.now l.world l.invariant.grown) l.invariant.first c.in-Some.ensures.cases.0 (ap data_decs_left c.in-Some-next.is)
    c.in_err-datatype.field-0.0 c.in_err-datatype.ensures.answer)

pub loop-symbol-preserved : goal.loop-symbol-preserved
loop-symbol-preserved c = let a = c.args in let l = c.loop-symbol in let S = signature_of a.world.now in let t = c.in_ok-datatype.datatype in let new = c.datatype_of.new in record {
  onward = datatype_taken S a.first a.at (judge_datatypes S a.first [] a.at a.symbols.now a.raws.now) l.parts.names.items l.left.now (data_decs_left l.next) l.datatypes l.invariant.onward
      (signature_of l.world) l.parts.first c.in-Some.symbol.now c.in-Some.others.now c.in-Some-next.raw c.in-Some-next.rest (same_signature a.world.now l.world l.invariant.grown) l.invariant.first c.in-Some.ensures.cases.0 (ap data_decs_left c.in-Some-next.is)
      t c.push.new.self new.parts.names.items c.in-Some.others.now (data_decs_left c.split-next-in-Some.result) c.in_ok-datatype.ensures.answer c.in-Ok.ensures.ok c.in_ok-datatype.ensures.names refl
      (data_decs_split c.in-Some-next.rest c.split-next-in-Some.result c.split-next-in-Some.ensures);
  first = c.datatype_of.ensures.first ∙ l.invariant.first;
  schema = one_more_ready (HasReadyParts l.world) (HasReadyParts new.world) l.datatypes c.push.new.self t (λ ts h. datatypes_grown l.world new.world ts c.datatype_of.ensures.grown h) l.invariant.schema c.in_ok-datatype.ensures.schema c.in-Ok.ensures.ok;
  grown = grown_more a.world.now l.world new.world l.invariant.grown c.datatype_of.ensures.grown;
  ready = c.datatype_of.ensures.ready;
}

pub returns-clause-answer : goal.returns-clause-answer
returns-clause-answer c = let a = c.args in let l = c.loop-symbol in let S = signature_of a.world.now in
    datatypes_taken S a.first a.at (judge_datatypes S a.first [] a.at a.symbols.now a.raws.now) l.parts.names.items l.left.now (data_decs_left l.next) l.datatypes l.invariant.onward (no_symbols_left l.left.now c.in_default.ensures.cases)
