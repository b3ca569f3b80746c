use Rattle.std.proofs.Common.{sym, ◌∙◌}
use Rattle.typer.proofs.ReadyCalls.{ready_declared}
use Rattle.typer.proofs.tests.declare.Goals as goal

pub returns-in-Ok : goal.returns-in-Ok
returns-in-Ok c =
    ready_declared c.args.world.now c.declare_sort.new.self c.args.name _ c.in-Ok.ensures.ok c.requires.ready c.requires.name (sym c.is_theory_sort.ensures ∙ c.if-is_theory_sort.false) c.requires.entry
