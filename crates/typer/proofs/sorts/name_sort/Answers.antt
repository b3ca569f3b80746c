use Rattle.std.proofs.Common.{◌∙◌, sym, ap, subst, map, Some, Err}
use Rattle.sort_store.specs.declared.head.Head.TheVariants as head
use Rattle.sort_store.specs.Tree.{Sort, tree}
use Rattle.typer.specs.Declarations.{declarations_of}
use Rattle.typer.specs.Answers.{Answers, tree_answer}
use Rattle.typer.specs.SortSymbols.{symbol_of, definition_of}
use Rattle.typer.specs.SortRules.{judge_symbol, judge_name}
use Rattle.typer.proofs.NameSteps.{ready_found, parameter_means, theory_means, live_means, name_step, name_unknown}
use Rattle.typer.proofs.sorts.name_sort.Goals as goal

pub returns-in-Some-clause-answer : goal.returns-in-Some-clause-answer
returns-in-Some-clause-answer c =
    name_step c.args.world.now c.args.params.now c.args.name _ (map tree c.args.args.now) (symbol_of (head.Param c.in-Some.i) 0) (tree_answer c.symbol_sort.result)
    (parameter_means c.args.world.now c.args.params.now c.args.name c.in-Some.i (sym c.in-Some.ensures))
    (subst (λ i. Answers (tree_answer c.symbol_sort.result) (judge_symbol c.args.at (map tree c.args.args.now) (head.Param i) 0)) c.in-Ok.ensures.1 c.symbol_sort.ensures.answer)

pub returns-in-Some-theory_symbol-clause-answer : goal.returns-in-Some-theory_symbol-clause-answer
returns-in-Some-theory_symbol-clause-answer c =
    name_step c.args.world.now c.args.params.now c.args.name _ (map tree c.args.args.now) (symbol_of c.in-Some-theory_symbol.head c.in-Some-theory_symbol.arity) (tree_answer c.symbol_sort-in-Some-theory_symbol.result)
    (theory_means c.args.world.now c.args.params.now c.args.name _ (sym c.in_default.ensures) (sym c.in-Some-theory_symbol.ensures))
    c.symbol_sort-in-Some-theory_symbol.ensures.answer

pub definition_sort-requires-clause-params : goal.definition_sort-requires-clause-params
definition_sort-requires-clause-params c = ready_found c.args.world.now c.args.name _ _ c.requires.ready (sym c.in-Some-Defined.ensures ∙ ap Some c.in-Some-Defined.field-0-is)

pub returns-in-Some-Free-clause-answer : goal.returns-in-Some-Free-clause-answer
returns-in-Some-Free-clause-answer c =
    name_step c.args.world.now c.args.params.now c.args.name _ (map tree c.args.args.now) (symbol_of (head.Free c.in-Some-Free.no c.args.name) c.in-Some-Free.arity) (tree_answer c.symbol_sort-in-Some-Free.result)
    (live_means c.args.world.now c.args.params.now c.args.name _ (sym c.in_default.ensures) (sym c.in_default-theory_symbol.ensures) (sym c.in-Some-Free.ensures ∙ ap Some c.in-Some-Free.field-0-is))
    c.symbol_sort-in-Some-Free.ensures.answer

pub returns-in-Some-Data-clause-answer : goal.returns-in-Some-Data-clause-answer
returns-in-Some-Data-clause-answer c =
    name_step c.args.world.now c.args.params.now c.args.name _ (map tree c.args.args.now) (symbol_of (head.Data c.in-Some-Data.no c.args.name) c.in-Some-Data.arity) (tree_answer c.symbol_sort-in-Some-Data.result)
    (live_means c.args.world.now c.args.params.now c.args.name _ (sym c.in_default.ensures) (sym c.in_default-theory_symbol.ensures) (sym c.in-Some-Data.ensures ∙ ap Some c.in-Some-Data.field-0-is))
    c.symbol_sort-in-Some-Data.ensures.answer

pub returns-in-Some-Defined-clause-answer : goal.returns-in-Some-Defined-clause-answer
returns-in-Some-Defined-clause-answer c =
    name_step c.args.world.now c.args.params.now c.args.name _ (map tree c.args.args.now) (definition_of c.in-Some-Defined.arity (tree c.in-Some-Defined.sort)) (tree_answer c.definition_sort.result)
    (live_means c.args.world.now c.args.params.now c.args.name _ (sym c.in_default.ensures) (sym c.in_default-theory_symbol.ensures) (sym c.in-Some-Defined.ensures ∙ ap Some c.in-Some-Defined.field-0-is))
    c.definition_sort.ensures.answer

pub returns-in-None-clause-answer : goal.returns-in-None-clause-answer
returns-in-None-clause-answer c =
    subst (λ e. Answers {A = Sort} (Err e) (judge_name c.args.world.now.names (declarations_of c.args.world.now.scopes) c.args.world.now.theories c.args.params.now c.args.at (map tree c.args.args.now) c.args.name))
    (sym c.fault.ensures)
    (name_unknown c.args.world.now c.args.params.now c.args.name c.args.at (map tree c.args.args.now)
    (live_means c.args.world.now c.args.params.now c.args.name _ (sym c.in_default.ensures) (sym c.in_default-theory_symbol.ensures) (sym c.in-None.ensures)))
