use Rattle.std.proofs.Common.{map}
use Rattle.sort_store.specs.Tree.{tree}
use Rattle.std.specs.Option.{option_map}
use Rattle.typer.proofs.TheoryRankSteps.{no_theory_rank, theory_rank_is, asked_together}
use Rattle.typer.proofs.theory.theory_sort.Goals as goal

pub returns-in_default-clause-answer : goal.returns-in_default-clause-answer
returns-in_default-clause-answer c =
    no_theory_rank c.args.theories.now c.args.text.now c.args.at (map tree c.args.args.now) (option_map tree c.args.asked.now) c.theory_rank.result c.fault.result c.theory_rank.ensures c.in_default.is c.fault.ensures

pub as_asked-requires : goal.as_asked-requires
as_asked-requires c =
    asked_together c.args.sorts.now c.found_sort.new.sorts c.in_ok-sort.sort c.args.asked.now c.requires.asked c.in_ok-sort.ensures.grows c.in_ok-sort.ensures.distinct c.in_ok-sort.ensures.interned

pub returns-clause-answer : goal.returns-clause-answer
returns-clause-answer c =
    theory_rank_is c.args.theories.now c.args.text.now c.args.at (map tree c.args.args.now) c.theory_rank.result c.in-Some.found c.theory_rank.ensures c.in-Some.is (c.rank_laws.ensures.theories_result c.args.theories.now)
    c.in_ok-sort.sort c.in_ok-sort.ensures.told c.has_few_nodes.ensures c.args.asked.now c.as_asked.result c.as_asked.ensures.ok c.as_asked.ensures.err
