use Rattle.std.proofs.Common.{refl}
use Rattle.typer.proofs.TesterSteps.{tester_ready}
use Rattle.typer.proofs.tester.tester.Goals as goal

pub returns-clause-ready : goal.returns-clause-ready
returns-clause-ready c =
    tester_ready c.args.sorts.now c.constant_sort.new.sorts c.args.constructor.now (record { no = c.args.constructor.now.no; kind = c.args.constructor.now.kind; params = c.args.constructor.now.params; args = c.in_ok-args.args; result = c.in_ok-result.result })
    refl c.in_ok-args.ensures.ok c.in_ok-result.ensures.tree c.requires.ready c.constant_sort.ensures.grows c.in_ok-result.ensures.interned
