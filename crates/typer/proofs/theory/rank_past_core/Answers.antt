use Rattle.std.proofs.Common.{subst, map}
use Rattle.sort_store.specs.CoreRanks.{core_symbols}
use Rattle.sort_store.specs.Ranks.{ranks_of}
use Rattle.sort_store.specs.Tree.{tree}
use Rattle.theory_core.specs.Answers.{Answers}
use Rattle.theory_core.specs.IntsRanks.{ints_symbols}
use Rattle.theory_core.specs.ArraysRanks.{arrays_symbols}
use Rattle.typer.specs.FunctionSymbols.{if_present, symbols_past_core}
use Rattle.typer.proofs.TheoryRankSteps.{first_told, second_told, one_of_second, one_result_in}
use Rattle.typer.proofs.theory.rank_past_core.Goals as goal

pub returns-in-Some : goal.returns-in-Some
returns-in-Some c =
    first_told c.args.text.now (map tree c.args.args.now) (if_present c.args.theories.now.ints ints_symbols) (if_present c.args.theories.now.arrays arrays_symbols) c.in-Some.found
    (one_of_second c.args.text.now (map tree c.args.args.now) core_symbols (symbols_past_core c.args.theories.now) (one_result_in c.args.theories.now (c.rank_laws.ensures.theories_result c.args.theories.now)))
    (subst (λ o. Answers o (ranks_of c.args.text.now (if_present c.args.theories.now.ints ints_symbols)) (map tree c.args.args.now)) c.in-Some.is c.rank_in_ints.ensures)

pub returns-in-None : goal.returns-in-None
returns-in-None c =
    second_told c.args.text.now (map tree c.args.args.now) (if_present c.args.theories.now.ints ints_symbols) (if_present c.args.theories.now.arrays arrays_symbols) c.rank_in_arrays.result
    (subst (λ o. Answers o (ranks_of c.args.text.now (if_present c.args.theories.now.ints ints_symbols)) (map tree c.args.args.now)) c.in-None.is c.rank_in_ints.ensures) c.rank_in_arrays.ensures
