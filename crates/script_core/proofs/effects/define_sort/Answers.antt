use Rattle.std.proofs.Common.{◌∙◌, ap, length, sym, subst, arith, Ok}
use Rattle.script_core.specs.Checking.{environment_of}
use Rattle.script_core.specs.Effects.{AnswersSort}
use Rattle.script_core.proofs.TakingParts.{sort_answer}
use Rattle.script_core.proofs.effects.define_sort.Goals as goal

pub returns-clause-answer : goal.returns-clause-answer
returns-clause-answer c =
    sort_answer c.args.scope.now c.sort_of.new.scope c.add_defined_sort.new.scope c.args.at c.args.name.now c.args.params.now c.args.sort c.in_ok-params.params c.in_ok-sort.sort c.in_ok-kept.kept c.in-Ok.count
    (sym c.is_sort_in_use.ensures ∙ c.if-is_sort_in_use.false) c.in_ok-params.ensures.answer c.in_ok-params.ensures.names
    (subst (λ ns. AnswersSort (environment_of c.args.scope.now.world.names c.args.scope.now) ns c.args.sort (Ok c.in_ok-sort.sort)) c.as_slice.ensures c.in_ok-sort.ensures.answer)
    c.sort_of.ensures.grown (omega (arith, c.in-Ok.ensures.1, ap length c.as_slice-2.ensures)) c.in_ok-add_defined_sort.ensures.effect c.in_ok-kept.ensures.ok
