use Rattle.std.proofs.Common.{sym, ◌∙◌}
use Rattle.typer.proofs.BoolSorts.{bool_exactly}
use Rattle.typer.proofs.binders.is_bool.Goals as goal

pub returns-in-Bool : goal.returns-in-Bool
returns-in-Bool c = bool_exactly c.args.sort.now c.arg_count.result (sym c.in-Bool.is ∙ c.head.ensures) c.arg_count.ensures
