use Rattle.std.proofs.Common.{◌+◌, ◌*◌}
use Rattle.sort_store.specs.Size.{size_of, size_of_all}
use Rattle.sort_store.specs.FitAnswers.{FittedUpTo}
use Rattle.sort_store.proofs.matching.+fit.Given as goal

abbrev pub invariant-fit_each-loop-i : goal.invariant-fit_each-loop-i
invariant-fit_each-loop-i l = FittedUpTo l.i l.schemas l.sorts l.initial.binding l.binding

abbrev pub decreases-fit : goal.decreases-fit
decreases-fit l = 2 * size_of l.schema.now

abbrev pub decreases-fit_each : goal.decreases-fit_each
decreases-fit_each l = 2 * size_of_all l.schemas.now + 1
