use Rattle.std.proofs.Common.{map, ap, sym, ◌∙◌, Err, Ok, Some}
use Rattle.std.specs.Option.{option_map}
use Rattle.sort_store.specs.Tree.{tree}
use Rattle.theory_bv.specs.Answers.{bv_answer}
use Rattle.typer.proofs.BitsSteps.{no_bits_rank, too_wide, bits_rank}
use Rattle.typer.proofs.TheoryRankSteps.{asked_together}
use Rattle.typer.proofs.bits.bits_sort.Goals as goal

pub returns-in-Ok-None-clause-answer : goal.returns-in-Ok-None-clause-answer
returns-in-Ok-None-clause-answer c =
    no_bits_rank c.args.text.now c.args.indices.now c.args.at (map tree c.args.args.now) (option_map tree c.args.asked.now) c.bv_rank.result
    (ap (bv_answer c.args.text.now c.args.indices.now) (sym (c.deref.ensures.value ∙ c.in_ok-widths.ensures.ok)) ∙ sym c.bv_rank.ensures.answer) c.fault.result (c.in-Ok-None.is ∙ ap Ok c.in-Ok-None.field-0-is) c.fault.ensures

pub returns-in-Err-TooWide-clause-answer : goal.returns-in-Err-TooWide-clause-answer
returns-in-Err-TooWide-clause-answer c =
    too_wide c.args.text.now c.args.indices.now c.args.at (map tree c.args.args.now) (option_map tree c.args.asked.now) c.bv_rank.result
    (ap (bv_answer c.args.text.now c.args.indices.now) (sym (c.deref.ensures.value ∙ c.in_ok-widths.ensures.ok)) ∙ sym c.bv_rank.ensures.answer) c.fault-in-Err-TooWide.result (c.in-Err-TooWide.is ∙ ap Err c.in-Err-TooWide.field-0-is) c.fault-in-Err-TooWide.ensures

pub as_asked-requires : goal.as_asked-requires
as_asked-requires c =
    asked_together c.args.sorts.now c.result_sort.new.sorts c.in_ok-sort.sort c.args.asked.now c.requires.asked c.in_ok-sort.ensures.grows c.in_ok-sort.ensures.distinct c.in_ok-sort.ensures.interned

pub returns-clause-answer : goal.returns-clause-answer
returns-clause-answer c =
    bits_rank c.args.text.now c.args.indices.now c.args.at (map tree c.args.args.now) c.args.asked.now c.in-Ok-Some.found
    (ap (bv_answer c.args.text.now c.args.indices.now) (sym (c.deref.ensures.value ∙ c.in_ok-widths.ensures.ok)) ∙ sym c.bv_rank.ensures.answer ∙ c.in-Ok-Some.is ∙ ap Ok (c.in-Ok-Some.field-0-is ∙ ap Some c.in-Ok-Some.found-is))
    c.in_ok-sort.sort c.in_ok-sort.ensures.tree c.has_few_nodes.ensures c.as_asked.result c.as_asked.ensures.ok c.as_asked.ensures.err
