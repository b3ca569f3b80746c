use Rattle.std.proofs.Common.{◌∙◌}
use Rattle.std.proofs.lemmas.List.{length-map}
use Rattle.sort_store.specs.Tree.{tree}
use Rattle.typer.proofs.ApplySteps.{not_too_large, symbol_done}
use Rattle.typer.proofs.apply.symbol_sort.Goals as goal

pub returns-in-Ok-clause-answer : goal.returns-in-Ok-clause-answer
returns-in-Ok-clause-answer c =
    symbol_done c.args.at _ c.args.head _ _ (length-map c.args.args.now tree ∙ (c.has_arity.ensures.0 c.if-not-has_arity.false)) (not_too_large _ _ c.in-Ok.ensures.too_large) c.in-Ok.ensures.tree
