use Rattle.std.proofs.Common.{ap, arith, length}
use Rattle.sexp_core.specs.Builder.{State}
use Rattle.sexp_core.proofs.TokensTaken.{length-items, tokens_unfinished, state_unfinished}
use Rattle.sexp_core.proofs.builder.Builder.take.Goals as goal

pub step-answer-requires-clause-room : goal.step-answer-requires-clause-room
step-answer-requires-clause-room c =
    omega (arith, length-items _ _ c.self.invariant, ap (λ (x : State). length x.0) c.self.view_is, c.self.inside.items.ok.0, c.requires)

pub returns-in-Some-clause-unfinished : goal.returns-in-Some-clause-unfinished
returns-in-Some-clause-unfinished c = state_unfinished _ _ _ _ c.self.invariant c.self.view_is

pub returns-in-Err-clause-unfinished : goal.returns-in-Err-clause-unfinished
returns-in-Err-clause-unfinished c = tokens_unfinished _ _ c.step-answer.ensures.represented

pub returns-in_default-answer-clause-unfinished : goal.returns-in_default-answer-clause-unfinished
returns-in_default-answer-clause-unfinished c = tokens_unfinished _ _ c.step-answer.ensures.represented
