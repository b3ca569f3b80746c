use Rattle.std.proofs.Common.{sym, ap, ◌∙◌}
use Rattle.std.specs.Option.{is_some}
use Rattle.typer.proofs.DeclarationsByTrees.{sort_live, copied_live, second_of}
use Rattle.typer.proofs.in_use.is_sort_in_use.Goals as goal

pub returns-else-is_theory_sort : goal.returns-else-is_theory_sort
returns-else-is_theory_sort c =
    second_of _ _ _ (sym c.is_theory_sort.ensures ∙ c.if-is_theory_sort.false)
    (c.is_some.ensures ∙ copied_live c.find_sort.result ∙ ap is_some c.find_sort.ensures ∙ sym (sort_live c.args.name c.args.world.now.scopes))
