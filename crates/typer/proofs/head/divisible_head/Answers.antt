use Rattle.std.proofs.Common.{[], ◌∷◌, map, subst, sym, ◌∙◌, Err, Ok}
use Rattle.std.specs.Option.{option_map}
use Rattle.lex_core.specs.declared.token.Tok.{Tok}
use Rattle.sort_store.specs.Tree.{Sort, tree}
use Rattle.typer.specs.Answers.{Answers, head_answer}
use Rattle.typer.specs.FunctionSymbols.{judge_theory, signature_of, text_of, theory}
use Rattle.typer.specs.TermRules.{judge_function}
use Rattle.typer.proofs.ReadyKept.{grown}
use Rattle.typer.proofs.HeadSteps.{alone_is, divisor, index_head, takes_indices, without_symbol}
use Rattle.typer.proofs.head.divisible_head.Goals as goal

pub returns-in-Ok-clause-answer : goal.returns-in-Ok-clause-answer
returns-in-Ok-clause-answer c =
    let text = text_of (signature_of c.args.world.now) c.args.name in
    takes_indices c.args.world.now c.args.name c.args.at (map tree c.args.args.now) (option_map tree c.args.asked.now) c.args.indices.now (theory text) (head_answer c.with_indices.result)
    (divisor (signature_of c.args.world.now) c.args.indices.now c.in-Some.index (sym c.only_numeral.ensures ∙ c.in-Some.is) (sym c.is_text.ensures ∙ c.if-is_text.false))
    (subst (λ is. Answers (head_answer c.with_indices.result) (judge_function (signature_of c.args.world.now) (theory text) c.args.at (map tree c.args.args.now) (option_map tree c.args.asked.now) c.args.name (map (λ (i : Tok). i.name) is)))
    (sym (alone_is c.args.indices.now c.in-Some.index (sym c.only_numeral.ensures ∙ c.in-Some.is)))
    (index_head c.with_indices.result c.theory_symbol.result (theory text) c.args.name (c.in-Some.index ∷ []) c.in-Ok.sort (signature_of c.args.world.now) c.args.at (map tree c.args.args.now) (option_map tree c.args.asked.now)
    c.with_indices.ensures.symbol c.with_indices.ensures.sort c.with_indices.ensures.err (c.theory_symbol.ensures.symbol text) c.theory_symbol.ensures.sort
    (subst (λ z. Answers (Ok (tree c.in-Ok.sort)) (judge_theory c.args.world.now.theories z c.args.at (map tree c.args.args.now) (option_map tree c.args.asked.now))) c.text_of-text.ensures c.in-Ok.ensures.answer)))

pub returns-in-Err-clause-answer : goal.returns-in-Err-clause-answer
returns-in-Err-clause-answer c =
    let text = text_of (signature_of c.args.world.now) c.args.name in
    takes_indices c.args.world.now c.args.name c.args.at (map tree c.args.args.now) (option_map tree c.args.asked.now) c.args.indices.now (theory text) (Err c.in-Err.error)
    (divisor (signature_of c.args.world.now) c.args.indices.now c.in-Some.index (sym c.only_numeral.ensures ∙ c.in-Some.is) (sym c.is_text.ensures ∙ c.if-is_text.false))
    (without_symbol (signature_of c.args.world.now) (theory text) c.args.at (map tree c.args.args.now) (option_map tree c.args.asked.now) c.args.name (map (λ (i : Tok). i.name) c.args.indices.now) c.in-Err.error
    (subst (λ z. Answers {A = Sort} (Err c.in-Err.error) (judge_theory c.args.world.now.theories z c.args.at (map tree c.args.args.now) (option_map tree c.args.asked.now))) c.text_of-text.ensures c.in-Err.ensures.answer))

pub returns-in-Ok-clause-ready : goal.returns-in-Ok-clause-ready
returns-in-Ok-clause-ready c = grown c.args.world.now c.theory_sort.new.sorts c.in-Ok.ensures.grows c.in-Ok.ensures.distinct c.requires.ready

pub returns-in-Err-clause-ready : goal.returns-in-Err-clause-ready
returns-in-Err-clause-ready c = grown c.args.world.now c.theory_sort.new.sorts c.in-Err.ensures.grows c.in-Err.ensures.distinct c.requires.ready
