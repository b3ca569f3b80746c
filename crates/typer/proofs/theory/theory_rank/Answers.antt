use Rattle.std.proofs.Common.{true, subst, map, refl}
use Rattle.sort_store.specs.CoreRanks.{core_symbols}
use Rattle.sort_store.specs.Ranks.{ranks_of}
use Rattle.sort_store.specs.Tree.{tree}
use Rattle.theory_core.specs.Answers.{Answers}
use Rattle.typer.specs.FunctionSymbols.{symbols_past_core}
use Rattle.typer.proofs.TheoryRankSteps.{first_told, second_told, present_told, one_result_in, told_of_all}
use Rattle.typer.proofs.theory.theory_rank.Goals as goal

pub returns-in-Some : goal.returns-in-Some
returns-in-Some c =
    told_of_all c.args.theories.now c.args.text.now _ (map tree c.args.args.now) (first_told c.args.text.now (map tree c.args.args.now) core_symbols (symbols_past_core c.args.theories.now) c.in-Some.found (one_result_in c.args.theories.now (c.rank_laws.ensures.theories_result c.args.theories.now) c.args.text.now (map tree c.args.args.now))
    (subst (λ o. Answers o (ranks_of c.args.text.now core_symbols) (map tree c.args.args.now)) c.in-Some.is
    (present_told c.args.text.now c.args.args.now core_symbols true c.core_rank.result refl c.core_rank.ensures.result c.core_rank.ensures.some c.core_rank.ensures.place)))

pub returns-in-None : goal.returns-in-None
returns-in-None c =
    told_of_all c.args.theories.now c.args.text.now _ (map tree c.args.args.now) (second_told c.args.text.now (map tree c.args.args.now) core_symbols (symbols_past_core c.args.theories.now) c.rank_past_core.result
    (subst (λ o. Answers o (ranks_of c.args.text.now core_symbols) (map tree c.args.args.now)) c.in-None.is
    (present_told c.args.text.now c.args.args.now core_symbols true c.core_rank.result refl c.core_rank.ensures.result c.core_rank.ensures.some c.core_rank.ensures.place))
    c.rank_past_core.ensures)
