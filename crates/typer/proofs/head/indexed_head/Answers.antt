use Rattle.std.proofs.Common.{Bool, map, subst, sym, ◌∙◌}
use Rattle.std.specs.Option.{option_map}
use Rattle.sort_store.specs.Tree.{tree}
use Rattle.typer.specs.Answers.{Answers, head_answer}
use Rattle.typer.specs.FunctionSymbols.{signature_of}
use Rattle.typer.specs.TermRules.{judge_indexed_by}
use Rattle.typer.proofs.head.indexed_head.Goals as goal

pub returns-then-is_text-clause-answer : goal.returns-then-is_text-clause-answer
returns-then-is_text-clause-answer c =
    subst (λ (b : Bool). Answers (head_answer c.tester_head.result) (judge_indexed_by b (signature_of c.args.world.now) c.args.at (map tree c.args.args.now) (option_map tree c.args.asked.now) c.args.name c.args.indices.now))
    (sym c.if-is_text.true ∙ c.is_text.ensures) c.tester_head.ensures.answer
