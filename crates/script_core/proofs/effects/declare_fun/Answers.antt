use Rattle.std.proofs.Common.{◌∙◌, sym}
use Rattle.script_core.proofs.TakingParts.{fun_answer, schemas_later}
use Rattle.script_core.proofs.effects.declare_fun.Goals as goal

pub add_function-requires-clause-args : goal.add_function-requires-clause-args
add_function-requires-clause-args c = schemas_later c.sorts_of.new.scope c.sort_of.new.scope c.in_ok-args.args c.sort_of.ensures.grown c.in_ok-args.ensures.schema

pub returns-clause-answer : goal.returns-clause-answer
returns-clause-answer c =
    fun_answer c.args.scope.now c.sorts_of.new.scope c.sort_of.new.scope c.add_function.new.scope c.args.at c.args.name.now c.args.args c.args.sort c.in_ok-args.args c.in_ok-kept_args.kept_args c.in_ok-sort.sort c.in_ok-kept_result.kept_result c.in_ok-no.no
    (sym c.is_fun_in_use.ensures ∙ c.if-is_fun_in_use.false) c.in_ok-args.ensures.answer c.sorts_of.ensures.grown c.in_ok-sort.ensures.answer c.sort_of.ensures.grown
    c.in_ok-no.ensures.effect c.in_ok-no.ensures.number c.in_ok-kept_args.ensures.ok c.in_ok-kept_result.ensures.ok
