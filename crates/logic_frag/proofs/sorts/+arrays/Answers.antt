use Rattle.std.proofs.Common.{◌<◌, ◌≤◌, length, sym, ◌∙◌, arith}
use Rattle.sort_store.specs.Tree.{parts}
use Rattle.logic_frag.proofs.SortParts.{argument_found, argument_passed, arguments_passed}
use Rattle.logic_frag.proofs.sorts.+arrays.Goals as goal

pub has_other_array-returns-then-has_other_array_at : goal.has_other_array-returns-then-has_other_array_at
has_other_array-returns-then-has_other_array_at t c =
    let before : c.loop-i.i < length (parts c.args.sort.now) = omega arith in
    argument_found c.args.part c.args.sort.now c.loop-i.i c.loop-i.invariant before (sym c.has_other_array_at.ensures ∙ c.if-has_other_array_at.true)

pub has_other_array-loop-i-preserved : goal.has_other_array-loop-i-preserved
has_other_array-loop-i-preserved t c =
    let before : c.loop-i.i < length (parts c.args.sort.now) = omega arith in
    argument_passed c.args.part c.args.sort.now c.loop-i.i c.loop-i.invariant before (sym c.has_other_array_at.ensures ∙ c.if-has_other_array_at.false)

pub has_other_array-returns : goal.has_other_array-returns
has_other_array-returns t c =
    let past : length (parts c.args.sort.now) ≤ c.loop-i.i = omega arith in
    arguments_passed c.args.part c.args.sort.now c.loop-i.i c.loop-i.invariant (sym c.is_other_array.ensures ∙ c.if-is_other_array.false) past
