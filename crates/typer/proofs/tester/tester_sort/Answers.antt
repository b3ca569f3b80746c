use Rattle.sort_store.proofs.GrownStores.{all_interned_grown}
use Rattle.typer.proofs.TesterSteps.{some_interned_grown}
use Rattle.typer.proofs.tester.tester_sort.Goals as goal

pub live_sort-requires-clause-args : goal.live_sort-requires-clause-args
live_sort-requires-clause-args c = all_interned_grown c.args.sorts.now c.tester.new.sorts c.args.args.now c.tester.ensures.grows c.requires.args

pub live_sort-requires-clause-asked : goal.live_sort-requires-clause-asked
live_sort-requires-clause-asked c = some_interned_grown c.args.sorts.now c.tester.new.sorts c.args.asked.now c.tester.ensures.grows c.requires.asked
