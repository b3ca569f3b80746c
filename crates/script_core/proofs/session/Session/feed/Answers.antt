use Rattle.std.proofs.Common.{◌++◌, ap, arith, sym}
use Rattle.std.proofs.lemmas.Bool.{false≢true}
use Rattle.std.proofs.lemmas.List.{length-append}
use Rattle.script_core.specs.declared.refusal.Progress.{Progress}
use Rattle.script_core.specs.SessionState.{SessionState}
use Rattle.script_core.proofs.JudgingTexts.{exited_now, feed_refused, given_stands, stands_taken, taken_stands}
use Rattle.script_core.proofs.TakingBytes.{taken_sofar}
use Rattle.script_core.proofs.session.Session.feed.Goals as goal

pub invariant_of-self : goal.invariant_of-self
invariant_of-self c = (
  omega (arith, c.requires.short, ap (λ (s : SessionState). s.taken) c.self.view_is),
  λ unstopped unfinished. let given = c.self.invariant.1 unstopped unfinished in let going = c.if-self.false in (
    given.0 ++ c.args.piece.now,
    taken_stands c.self.inside.ended (given.0 ++ c.args.piece.now) c.take_bytes.new.self going
        ((rw c.in-Ok-More.field-0-is at c.in-Ok-More.ensures.more) given.0 (stands_taken c.self.inside.ended given.0 c.self.inside.checker going given.1)),
    λ e. omega (arith, length-append given.0 c.args.piece.now, given.2 going),
  ),
  c.take_bytes.ensures.sound,
)

pub invariant_of-self-in-Ok-Ended : goal.invariant_of-self-in-Ok-Ended
invariant_of-self-in-Ok-Ended c = (
  omega (arith, c.requires.short, ap (λ (s : SessionState). s.taken) c.self.view_is),
  λ unstopped unfinished. let given = c.self.invariant.1 unstopped unfinished in let going = c.if-self.false in (
    given.0 ++ c.args.piece.now,
    (rw c.in-Ok-Ended.field-0-is at c.in-Ok-Ended.ensures.ended) given.0 (stands_taken c.self.inside.ended given.0 c.self.inside.checker going given.1),
    λ e. absurd (false≢true (sym e)),
  ),
  c.take_bytes.ensures.sound,
)

pub returns-in-Ok-More-clause-judged : goal.returns-in-Ok-More-clause-judged
returns-in-Ok-More-clause-judged c bytes h =
    taken_sofar _ _ ((rw c.in-Ok-More.field-0-is at c.in-Ok-More.ensures.more) bytes
    (stands_taken c.self.inside.ended bytes c.self.inside.checker c.if-self.false (given_stands _ c.args.self.now bytes c.self.view_is h)))

pub returns-in-Ok-Ended-clause-judged : goal.returns-in-Ok-Ended-clause-judged
returns-in-Ok-Ended-clause-judged c bytes h =
    exited_now _ _ _ ((rw c.in-Ok-Ended.field-0-is at c.in-Ok-Ended.ensures.ended) bytes
    (stands_taken c.self.inside.ended bytes c.self.inside.checker c.if-self.false (given_stands _ c.args.self.now bytes c.self.view_is h)))

pub returns-in-Err-clause-judged : goal.returns-in-Err-clause-judged
returns-in-Err-clause-judged c bytes h =
    feed_refused Progress bytes c.args.piece.now c.self.inside.checker _ c.in-Err.stop
    (stands_taken c.self.inside.ended bytes c.self.inside.checker c.if-self.false (given_stands _ c.args.self.now bytes c.self.view_is h))
    c.in-Err.ensures.refused
