use Rattle.typer.proofs.LiveRankSteps.{asked_is, asked_is_not}
use Rattle.typer.proofs.live.asked_sort.Goals as goal

pub returns-in-Ok-false-clause-answer : goal.returns-in-Ok-false-clause-answer
returns-in-Ok-false-clause-answer c args fitted =
    asked_is_not c.args.entry.now c.args.binding.now args fitted c.args.at c.in-Ok-false.field-0 c.args.asked.now c.fault.result c.in-Ok-false.field-0-test c.in-Ok-false.ensures.fits c.fault.ensures

pub returns-clause-answer : goal.returns-clause-answer
returns-clause-answer c args fitted =
    asked_is c.args.entry.now c.args.binding.now args fitted c.args.at c.in-Ok-true.field-0 c.args.asked.now c.copy_of.result c.in-Ok-true.field-0-test c.in-Ok-true.ensures.fits c.copy_of.ensures.ok c.copy_of.ensures.err
