use Rattle.std.proofs.Common.{map}
use Rattle.std.specs.Option.{option_map}
use Rattle.sort_store.specs.Tree.{tree}
use Rattle.typer.proofs.LiveRankSteps.{no_match, matched_interned}
use Rattle.typer.proofs.live.schema_sort.Goals as goal

pub returns-in-Ok-false-clause-answer : goal.returns-in-Ok-false-clause-answer
returns-in-Ok-false-clause-answer c =
    no_match c.args.entry.now c.in-Ok.binding c.as_slice.result.now c.in-Ok.ensures c.as_slice.ensures c.args.at c.in-Ok-false.field-0 (map tree c.args.args.now) (option_map tree c.args.asked.now) c.fault.result
    c.in-Ok-false.field-0-test c.in-Ok-false.ensures.fits c.fault.ensures

pub instance_sort-requires-clause-interned : goal.instance_sort-requires-clause-interned
instance_sort-requires-clause-interned c =
    matched_interned c.args.entry.now c.in-Ok.binding c.as_slice.result.now c.in-Ok.ensures c.as_slice.ensures c.fits_each.new.binding c.args.args.now c.args.sorts.now (c.in-Ok-true.ensures.fitted c.in-Ok-true.field-0-test) c.requires.args
