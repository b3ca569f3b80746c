use Rattle.typer.proofs.ReadyCalls.{ready_with_names}
use Rattle.typer.proofs.tests.tree_of.Goals as goal

pub returns-in_default : goal.returns-in_default
returns-in_default g c = ready_with_names c.args.world.now c.tokens_of_text.new.names c.tokens_of_text.ensures.names c.requires

pub returns-then-len-gt1000 : goal.returns-then-len-gt1000
returns-then-len-gt1000 g c = ready_with_names c.args.world.now c.tokens_of_text.new.names c.tokens_of_text.ensures.names c.requires

pub returns : goal.returns
returns g c = ready_with_names c.args.world.now c.tokens_of_text.new.names c.tokens_of_text.ensures.names c.requires
