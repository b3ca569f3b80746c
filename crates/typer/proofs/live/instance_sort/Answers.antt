use Rattle.std.proofs.Common.{sym, ◌∙◌, map, ap, subst, ◌<◌, ◌≤◌, Err}
use Rattle.sort_store.specs.Tree.{tree, node_count}
use Rattle.sort_store.specs.Instance.{inst}
use Rattle.typer.proofs.ApplySteps.{not_too_large}
use Rattle.typer.proofs.LiveRankSteps.{not_all_given, given_is, given_large, all_given}
use Rattle.typer.proofs.live.instance_sort.Goals as goal

pub returns-then-is_ambiguous-clause-answer : goal.returns-then-is_ambiguous-clause-answer
returns-then-is_ambiguous-clause-answer c args fitted = not_all_given c.args.entry.now c.args.binding.now args fitted c.args.at c.fault.result (sym c.is_ambiguous.ensures ∙ c.if-is_ambiguous.true) c.fault.ensures

pub values_of-requires-clause-bound : goal.values_of-requires-clause-bound
values_of-requires-clause-bound c = all_given c.args.entry.now c.args.binding.now c.requires.fitted.0 c.requires.fitted.1 (sym c.is_ambiguous.ensures ∙ c.if-is_ambiguous.false)

pub returns-in-Ok-clause-answer : goal.returns-in-Ok-clause-answer
returns-in-Ok-clause-answer c args fitted =
    given_is c.args.entry.now c.args.binding.now args fitted c.args.at (map tree c.in_ok-values.values.items) (tree c.in-Ok.sort) (sym c.is_ambiguous.ensures ∙ c.if-is_ambiguous.false)
    c.in_ok-values.ensures.agree (c.in-Ok.ensures.tree ∙ ap (λ vs. inst (map tree vs) (tree c.args.entry.now.result)) c.deref.ensures.value)
    (subst (λ vs. node_count (inst (map tree vs) (tree c.args.entry.now.result)) ≤ 1000) c.deref.ensures.value (not_too_large _ _ c.in-Ok.ensures.too_large))

pub returns-in-Err-TooLarge-clause-answer : goal.returns-in-Err-TooLarge-clause-answer
returns-in-Err-TooLarge-clause-answer c args fitted =
    given_large c.args.entry.now c.args.binding.now args fitted c.args.at (map tree c.in_ok-values.values.items) c.fault-in-Err-TooLarge.result (sym c.is_ambiguous.ensures ∙ c.if-is_ambiguous.false)
    c.in_ok-values.ensures.agree (subst (λ vs. 1000 < node_count (inst (map tree vs) (tree c.args.entry.now.result))) c.deref.ensures.value (c.in-Err-TooLarge.ensures.too_large.0 (ap Err c.in-Err-TooLarge.field-0-is)))
    c.fault-in-Err-TooLarge.ensures
