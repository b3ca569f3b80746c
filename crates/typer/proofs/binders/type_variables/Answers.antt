use Rattle.std.proofs.Common.{ap, map, Ok, Err, refl, sym, subst}
use Rattle.std.proofs.lemmas.Result.{err_from_is_err_and}
use Rattle.term_store.specs.Term.{plain_var}
use Rattle.typer.specs.FunctionSymbols.{signature_of}
use Rattle.typer.specs.TermRules.{judge_sorted, judge_variables}
use Rattle.typer.specs.Typed.{AreBound}
use Rattle.typer.proofs.ListSteps.{part_step, part_fault, no_part}
use Rattle.typer.proofs.TermSteps.{fault_answers, meets}
use Rattle.typer.proofs.TypedSteps.{bound_grown, bound_push, grown_more}
use Rattle.typer.proofs.VariableSteps.{joins_variables, no_variables_left, variable_moved, variable_of, variables_left, variables_left_is, with_variable}
use Rattle.typer.proofs.binders.type_variables.Goals as goal

pub returns-in_err-var-clause-answer : goal.returns-in_err-var-clause-answer
returns-in_err-var-clause-answer c =
    let p = err_from_is_err_and c.from_residual.result c.from_residual.ensures.1 in
    let S = signature_of c.args.world.now in
    rw (p.1, p.2) (fault_answers c.in_err-var.field-0.0 (judge_variables S c.args.raws.now) (λ before.
    part_fault plain_var with_variable (λ v. judge_sorted S v.name.name v.sort) (judge_variables S) (joins_variables S)
    c.args.raws.now (variables_left c.loop-next.next) c.in-Some.rest (variable_of c.in-Some.first) c.loop-next.vars.items before before (ap variables_left c.in-Some.is) (c.loop-next.invariant.onward before) c.in_err-var.field-0.0 before before
    (meets (Err c.in_err-var.field-0.0) (judge_sorted S c.in-Some.first.name.name c.in-Some.first.sort) before before refl
    (variable_moved c.args.world.now c.loop-next.world c.in-Some.first.name.name c.in-Some.first.sort (Err c.in_err-var.field-0.0) c.loop-next.invariant.grown c.in_err-var.ensures.answer))))

pub loop-next-preserved : goal.loop-next-preserved
loop-next-preserved c = let S = signature_of c.args.world.now in record {
  onward = λ before. part_step plain_var with_variable (λ v. judge_sorted S v.name.name v.sort) (judge_variables S) (joins_variables S)
      c.args.raws.now (variables_left c.loop-next.next) c.in-Some.rest (variable_of c.in-Some.first) c.loop-next.vars.items before before (ap variables_left c.in-Some.is) (c.loop-next.invariant.onward before)
      (variables_left c.split-next-in-Some.result) c.push.new.self.items c.in_ok-var.var before (variables_left_is _ _ c.split-next-in-Some.ensures)
      (variable_moved c.args.world.now c.loop-next.world c.in-Some.first.name.name c.in-Some.first.sort (Ok (plain_var c.in_ok-var.var)) c.loop-next.invariant.grown c.in_ok-var.ensures.answer before) c.in-Ok.ensures.items;
  bound = subst (AreBound c.type_variable.new.world) (sym c.in-Ok.ensures.items)
      (bound_push c.type_variable.new.world c.loop-next.vars.items c.in_ok-var.var (bound_grown c.loop-next.world c.type_variable.new.world c.in_ok-var.ensures.grown c.loop-next.vars.items c.loop-next.invariant.bound) c.in_ok-var.ensures.interned);
  grown = grown_more c.args.world.now c.loop-next.world c.type_variable.new.world c.loop-next.invariant.grown c.in_ok-var.ensures.grown;
  ready = c.in_ok-var.ensures.ready;
}

pub returns-clause-answer : goal.returns-clause-answer
returns-clause-answer c = λ before.
    no_part (judge_variables (signature_of c.args.world.now)) c.args.raws.now (variables_left c.loop-next.next) (map plain_var c.loop-next.vars.items) before before
    (no_variables_left (signature_of c.args.world.now) (variables_left c.loop-next.next) (ap variables_left c.in_default.is) before) (c.loop-next.invariant.onward before)
