use Rattle.std.proofs.Common.{◌∙◌, map, sym, subst, Err}
use Rattle.std.proofs.lemmas.List.{length-map}
use Rattle.sort_store.specs.Tree.{Sort, tree}
use Rattle.typer.specs.Answers.{Answers}
use Rattle.typer.specs.SortRules.{judge_definition}
use Rattle.typer.proofs.ApplySteps.{not_too_large, definition_done, definition_captured}
use Rattle.typer.proofs.apply.definition_sort.Goals as goal

pub returns-then-has_captured-clause-answer : goal.returns-then-has_captured-clause-answer
returns-then-has_captured-clause-answer c =
    subst (λ e. Answers {A = Sort} (Err e) (judge_definition c.args.names.now c.args.params.now c.args.at (map tree c.args.args.now) c.args.arity (tree c.args.body.now)))
    (sym c.fault-then-has_captured.ensures)
    (definition_captured _ _ c.args.at _ _ (tree c.args.body.now) _ (length-map c.args.args.now tree ∙ (c.has_arity.ensures.0 c.if-not-has_arity.false)) (not_too_large _ _ c.in-Ok.ensures.too_large) c.in-Ok.ensures.tree (sym c.has_captured.ensures ∙ c.if-has_captured.true))

pub returns-else-has_captured-clause-answer : goal.returns-else-has_captured-clause-answer
returns-else-has_captured-clause-answer c =
    definition_done _ _ c.args.at _ _ (tree c.args.body.now) _ (length-map c.args.args.now tree ∙ (c.has_arity.ensures.0 c.if-not-has_arity.false)) (not_too_large _ _ c.in-Ok.ensures.too_large) c.in-Ok.ensures.tree (sym c.has_captured.ensures ∙ c.if-has_captured.false)
