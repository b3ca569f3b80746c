use Rattle.std.proofs.Common.{sym, ap, map, ◌∙◌}
use Rattle.std.specs.Option.{option_copied, option_map}
use Rattle.sort_store.specs.Tree.{tree}
use Rattle.typer.specs.Answers.{typed_answer}
use Rattle.typer.proofs.SymbolSteps.{applied_symbol, bound_interned, failed_symbol, variable_symbol}
use Rattle.typer.proofs.TypedSteps.{all_typed_grown}
use Rattle.typer.proofs.terms.symbol.Goals as goal

pub variable-requires-clause-sort : goal.variable-requires-clause-sort
variable-requires-clause-sort c = bound_interned c.args.world.now c.args.vars.now c.args.name c.in-Some.sort.now c.requires.vars (sym c.bound.ensures ∙ ap option_copied c.in-Some.is)

pub apply-requires-clause-args : goal.apply-requires-clause-args
apply-requires-clause-args c = all_typed_grown c.args.world.now c.head.new.world c.in-Ok.ensures.grown c.args.args c.requires.args

pub returns-in-Some-clause-answer : goal.returns-in-Some-clause-answer
returns-in-Some-clause-answer c =
    variable_symbol c.args.world.now c.args.at c.args.args (option_map tree c.args.asked.now) c.args.name c.requires.args.same c.args.vars.now c.in-Some.sort.now (typed_answer c.variable.result)
    (sym c.bound.ensures ∙ ap option_copied c.in-Some.is) c.variable.ensures.answer

pub returns-in-Ok-clause-answer : goal.returns-in-Ok-clause-answer
returns-in-Ok-clause-answer c =
    applied_symbol c.args.world.now c.args.at c.args.args (option_map tree c.args.asked.now) c.args.name c.requires.args.same c.args.vars.now c.in-Ok.head c.apply.result (map tree c.deref.result.now)
    (sym c.bound.ensures ∙ ap option_copied c.in-None.is) (ap (map tree) c.deref.ensures.value) c.in-Ok.ensures.answer c.apply.ensures.answer c.apply.ensures.err

pub returns-in-Err-clause-answer : goal.returns-in-Err-clause-answer
returns-in-Err-clause-answer c =
    failed_symbol c.args.world.now c.args.at c.args.args (option_map tree c.args.asked.now) c.args.name c.requires.args.same c.args.vars.now c.in-Err.error (map tree c.deref.result.now)
    (sym c.bound.ensures ∙ ap option_copied c.in-None.is) (ap (map tree) c.deref.ensures.value) c.in-Err.ensures.answer
