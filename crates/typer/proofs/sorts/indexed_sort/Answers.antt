use Rattle.std.proofs.Common.{map, Err, arith, refl, ◌^◌, ◌≤◌, ◌∙◌, sym, ap, subst}
use Rattle.std.proofs.lemmas.List.{length-map}
use Rattle.sort_store.specs.Tree.{Sort, tree}
use Rattle.typer.specs.Numerals.{numeral_value}
use Rattle.typer.specs.Answers.{Answers, tree_answer}
use Rattle.typer.specs.SortRules.{judge_indexed}
use Rattle.typer.proofs.IndexedSteps.{no_numeral, too_large, zero_width, width_step, is_zero, below}
use Rattle.typer.proofs.sorts.indexed_sort.Goals as goal

pub returns-in_default-clause-answer : goal.returns-in_default-clause-answer
returns-in_default-clause-answer c =
    subst (λ e. Answers {A = Sort} (Err e) (judge_indexed c.args.world.now.names c.args.world.now.theories c.args.at (map tree c.args.args.now) c.args.name c.args.indices.now)) (sym c.fault-in_default.ensures)
    (no_numeral c.args.world.now.names c.args.world.now.theories c.args.at (map tree c.args.args.now) c.args.name c.args.indices.now (sym c.if-not-is_bit_vector.ensures) (length-map c.args.args.now tree ∙ is_zero _ (sym c.if-not-is_empty.ensures)) (sym c.in_default.ensures))

pub returns-in_default-numeral_value-clause-answer :
    goal.returns-in_default-numeral_value-clause-answer
returns-in_default-numeral_value-clause-answer c =
    let value = sym c.text_of.ensures in
    subst (λ e. Answers {A = Sort} (Err e) (judge_indexed c.args.world.now.names c.args.world.now.theories c.args.at (map tree c.args.args.now) c.args.name c.args.indices.now)) (sym c.fault-in_default-numeral_value.ensures)
    (too_large c.args.world.now.names c.args.world.now.theories c.args.at (map tree c.args.args.now) c.args.name c.args.indices.now (sym c.if-not-is_bit_vector.ensures) (length-map c.args.args.now tree ∙ is_zero _ (sym c.if-not-is_empty.ensures)) c.in-Some.index (sym c.in-Some.ensures) (subst (λ t. 2 ^ 32 ≤ numeral_value t) (sym value) (c.in_default-numeral_value.ensures.too_large.0 refl)))

pub returns-then-width-eq0-clause-answer : goal.returns-then-width-eq0-clause-answer
returns-then-width-eq0-clause-answer c =
    let value = sym c.text_of.ensures in
    subst (λ e. Answers {A = Sort} (Err e) (judge_indexed c.args.world.now.names c.args.world.now.theories c.args.at (map tree c.args.args.now) c.args.name c.args.indices.now)) (sym c.fault-then-width-eq0.ensures)
    (zero_width c.args.world.now.names c.args.world.now.theories c.args.at (map tree c.args.args.now) c.args.name c.args.indices.now (sym c.if-not-is_bit_vector.ensures) (length-map c.args.args.now tree ∙ is_zero _ (sym c.if-not-is_empty.ensures)) c.in-Some.index (sym c.in-Some.ensures)
    (ap numeral_value value ∙ sym c.in-Some-numeral_value.ensures.value ∙ c.if-width-eq0.true))

pub returns-clause-answer : goal.returns-clause-answer
returns-clause-answer c =
    let value = sym c.text_of.ensures in
    width_step c.args.world.now.names c.args.world.now.theories c.args.at (map tree c.args.args.now) c.args.name c.args.indices.now (sym c.if-not-is_bit_vector.ensures) (length-map c.args.args.now tree ∙ is_zero _ (sym c.if-not-is_empty.ensures)) c.in-Some.index (sym c.in-Some.ensures)
    c.in-Some-numeral_value.width (tree_answer c.symbol_sort.result) (c.in-Some-numeral_value.ensures.value ∙ sym (ap numeral_value value)) (below _ _ (λ l. c.in-Some-numeral_value.ensures.too_large.1 (subst (λ n. 2 ^ 32 ≤ n) c.in-Some-numeral_value.ensures.value l))) (omega (arith, c.if-width-eq0.false)) c.symbol_sort.ensures.answer
