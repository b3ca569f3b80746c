use Rattle.std.proofs.Common.{sym, ap, ◌∙◌}
use Rattle.std.specs.Option.{is_some}
use Rattle.typer.specs.FunctionSymbols.{is_theory_fun}
use Rattle.typer.proofs.DeclarationsByTrees.{fun_live, copied_live, second_of}
use Rattle.typer.proofs.in_use.is_fun_in_use.Goals as goal

pub returns-else-is_theory_fun : goal.returns-else-is_theory_fun
returns-else-is_theory_fun c =
    second_of _ _ _ (sym (c.is_theory_fun.ensures ∙ ap (is_theory_fun c.args.world.now.theories) c.text_of-text.ensures) ∙ c.if-is_theory_fun.false)
    (c.is_some.ensures ∙ copied_live c.find_fun.result ∙ ap is_some c.find_fun.ensures ∙ sym (fun_live c.args.name c.args.world.now.scopes))
