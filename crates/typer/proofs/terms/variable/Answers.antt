use Rattle.std.proofs.Common.{◌≡◌, [], None, map}
use Rattle.std.specs.Option.{option_map}
use Rattle.sort_store.specs.Tree as sort_tree
use Rattle.term_store.specs.Term.{tree}
use Rattle.typer.proofs.LiveRankSteps.{fails}
use Rattle.typer.proofs.SymbolSteps.{variable_applied}
use Rattle.typer.proofs.terms.variable.Goals as goal

pub returns-then-not-stands_alone-clause-answer : goal.returns-then-not-stands_alone-clause-answer
returns-then-not-stands_alone-clause-answer c =
    variable_applied c.args.at (map tree c.args.args.now.terms.items) (option_map sort_tree.tree c.args.asked.now) c.args.name (sort_tree.tree c.args.sort.now) c.fault.result
    (fails c.stands_alone.result ((map tree c.args.args.now.terms.items ≡ []) × (option_map sort_tree.tree c.args.asked.now ≡ None)) c.if-not-stands_alone.true c.stands_alone.ensures.1) c.fault.ensures
