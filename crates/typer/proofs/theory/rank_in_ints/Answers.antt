use Rattle.std.proofs.Common.{map}
use Rattle.sort_store.specs.Tree.{tree}
use Rattle.theory_core.specs.IntsRanks.{ints_symbols}
use Rattle.typer.proofs.TheoryRankSteps.{present_told, absent_told}
use Rattle.typer.proofs.theory.rank_in_ints.Goals as goal

pub returns-then-not-theories : goal.returns-then-not-theories
returns-then-not-theories c = absent_told c.args.text.now (map tree c.args.args.now) ints_symbols c.args.theories.now.ints c.if-not-theories.true

pub returns : goal.returns
returns c = present_told c.args.text.now c.args.args.now ints_symbols c.args.theories.now.ints c.ints_rank.result c.if-not-theories.false c.ints_rank.ensures.result c.ints_rank.ensures.some c.ints_rank.ensures.place
