use Rattle.std.proofs.Common.{◌≡◌, ap, map, sym, subst, ◌∙◌, Err}
use Rattle.std.specs.Option.{option_map}
use Rattle.sort_store.specs.Tree.{Sort, tree}
use Rattle.typer.specs.Answers.{Answers, tree_answer}
use Rattle.typer.specs.Declarations.{fun_declaration}
use Rattle.typer.specs.LiveRanks.{judge_live}
use Rattle.typer.proofs.LiveRankSteps.{closed_other, closed_copy, closed_asked_copy, closed_not_asked, fails}
use Rattle.typer.proofs.live.closed_sort.Goals as goal

pub returns-then-not-are_same-clause-answer : goal.returns-then-not-are_same-clause-answer
returns-then-not-are_same-clause-answer c =
    closed_other c.args.entry.now c.requires.closed c.args.at (map tree c.args.args.now) (option_map tree c.args.asked.now) c.fault.result
    (λ e. fails c.are_same.result (map tree c.args.args.now ≡ map tree c.as_slice.result.now) c.if-not-are_same.true c.are_same.ensures.1 (e ∙ ap (map tree) (sym c.as_slice.ensures))) c.fault.ensures

pub returns-in-None-clause-answer : goal.returns-in-None-clause-answer
returns-in-None-clause-answer c =
    subst (λ o. Answers (tree_answer c.copy_of.result) (judge_live (fun_declaration c.args.entry.now) c.args.at (map tree c.args.args.now) (option_map tree o))) (sym c.in-None.is)
    (closed_copy c.args.entry.now c.requires.closed c.args.at (map tree c.args.args.now) c.copy_of.result (c.are_same.ensures.0 c.if-not-are_same.false ∙ ap (map tree) c.as_slice.ensures) c.copy_of.ensures.ok c.copy_of.ensures.err c.has_few_nodes.ensures)

pub returns-then-not-same-clause-answer : goal.returns-then-not-same-clause-answer
returns-then-not-same-clause-answer c =
    subst (λ o. Answers {A = Sort} (Err c.fault-then-not-same.result) (judge_live (fun_declaration c.args.entry.now) c.args.at (map tree c.args.args.now) (option_map tree o))) (sym c.in-Some.is)
    (closed_not_asked c.args.entry.now c.requires.closed c.args.at (map tree c.args.args.now) (tree c.in-Some.asked) c.fault-then-not-same.result (c.are_same.ensures.0 c.if-not-are_same.false ∙ ap (map tree) c.as_slice.ensures)
    (fails c.same.result (tree c.in-Some.asked ≡ tree c.args.entry.now.result) c.if-not-same.true c.same.ensures.1) c.fault-then-not-same.ensures)

pub returns-else-not-same-clause-answer : goal.returns-else-not-same-clause-answer
returns-else-not-same-clause-answer c =
    subst (λ o. Answers (tree_answer c.copy_of-in-Some.result) (judge_live (fun_declaration c.args.entry.now) c.args.at (map tree c.args.args.now) (option_map tree o))) (sym c.in-Some.is)
    (closed_asked_copy c.args.entry.now c.requires.closed c.args.at (map tree c.args.args.now) (tree c.in-Some.asked) c.copy_of-in-Some.result (c.are_same.ensures.0 c.if-not-are_same.false ∙ ap (map tree) c.as_slice.ensures)
    (c.same.ensures.0 c.if-not-same.false) c.copy_of-in-Some.ensures.ok c.copy_of-in-Some.ensures.err)
