use Rattle.std.proofs.Common.{ap, ◌∙◌}
use Rattle.std.specs.Option.{option_map}
use Rattle.theory_bv.specs.Shapes.{shape_declaration}
use Rattle.theory_bv.proofs.RankAnswers.{rank-found, rank-none, rank-bad_index, rank-too_wide}
use Rattle.theory_bv.proofs.rank.bv_rank.Goals as goal

pub returns-in-Some-clause-rank : goal.returns-in-Some-clause-rank
returns-in-Some-clause-rank c =
    let declared = c.shape_of.ensures ∙ ap (option_map shape_declaration) c.in-Some.is in
    rank-found c.args.name.now c.args.indices.now c.args.args.now (shape_declaration c.in-Some.shape) declared c.answer.result c.answer.ensures

pub returns-in-Some-clause-no_rank : goal.returns-in-Some-clause-no_rank
returns-in-Some-clause-no_rank c =
    let declared = c.shape_of.ensures ∙ ap (option_map shape_declaration) c.in-Some.is in
    rank-none c.args.name.now c.args.indices.now c.args.args.now (shape_declaration c.in-Some.shape) declared c.answer.result c.answer.ensures

pub returns-in-Some-clause-bad_index : goal.returns-in-Some-clause-bad_index
returns-in-Some-clause-bad_index c =
    let declared = c.shape_of.ensures ∙ ap (option_map shape_declaration) c.in-Some.is in
    rank-bad_index c.args.name.now c.args.indices.now c.args.args.now (shape_declaration c.in-Some.shape) declared c.answer.result c.answer.ensures

pub returns-in-Some-clause-too_wide : goal.returns-in-Some-clause-too_wide
returns-in-Some-clause-too_wide c =
    let declared = c.shape_of.ensures ∙ ap (option_map shape_declaration) c.in-Some.is in
    rank-too_wide c.args.name.now c.args.indices.now c.args.args.now (shape_declaration c.in-Some.shape) declared c.answer.result c.answer.ensures
