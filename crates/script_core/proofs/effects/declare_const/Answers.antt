use Rattle.std.proofs.Common.{◌∙◌, sym}
use Rattle.script_core.proofs.TakingParts.{const_answer}
use Rattle.script_core.proofs.effects.declare_const.Goals as goal

pub returns-clause-answer : goal.returns-clause-answer
returns-clause-answer c =
    const_answer c.args.scope.now c.sort_of.new.scope c.add_function.new.scope c.args.at c.args.name.now c.args.sort c.new.result c.in_ok-sort.sort c.in_ok-kept.kept c.in_ok-no.no
    (sym c.is_fun_in_use.ensures ∙ c.if-is_fun_in_use.false) c.in_ok-sort.ensures.answer c.sort_of.ensures.grown c.new.ensures c.in_ok-no.ensures.effect c.in_ok-no.ensures.number c.in_ok-kept.ensures.ok
