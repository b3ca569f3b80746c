use Rattle.std.proofs.Common.{ap, map}
use Rattle.std.specs.Option.{option_map}
use Rattle.sort_store.specs.Tree.{tree}
use Rattle.typer.proofs.SymbolSteps.{indexed_applied, indexed_failed}
use Rattle.typer.proofs.TypedSteps.{all_typed_grown}
use Rattle.typer.proofs.terms.indexed_symbol.Goals as goal

pub apply-requires-clause-args : goal.apply-requires-clause-args
apply-requires-clause-args c = all_typed_grown c.args.world.now c.indexed_head.new.world c.in-Ok.ensures.grown c.args.args c.requires.args

pub returns-in-Ok-clause-answer : goal.returns-in-Ok-clause-answer
returns-in-Ok-clause-answer c =
    indexed_applied c.args.world.now c.args.at c.args.args (option_map tree c.args.asked.now) c.args.name c.requires.args.same c.args.indices.now c.in-Ok.head c.apply.result (map tree c.deref.result.now)
    (ap (map tree) c.deref.ensures.value) c.in-Ok.ensures.answer c.apply.ensures.answer c.apply.ensures.err

pub returns-in-Err-clause-answer : goal.returns-in-Err-clause-answer
returns-in-Err-clause-answer c =
    indexed_failed c.args.world.now c.args.at c.args.args (option_map tree c.args.asked.now) c.args.name c.requires.args.same c.args.indices.now c.in-Err.error (map tree c.deref.result.now)
    (ap (map tree) c.deref.ensures.value) c.in-Err.ensures.answer
