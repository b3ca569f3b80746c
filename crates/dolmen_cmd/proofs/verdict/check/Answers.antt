use Rattle.std.proofs.Common.{[], arith, subst, sym}
use Rattle.script_core.specs.Acceptance.{Accepts}
use Rattle.term_store.specs.Script.{commands_of}
use Rattle.dolmen_cmd.proofs.Deciding.{feed_checks, finish_checks, script_checks}
use Rattle.dolmen_cmd.proofs.verdict.check.Goals as goal

pub feed-requires-clause-short : goal.feed-requires-clause-short
feed-requires-clause-short c = omega (arith, c.in-Ok.ensures.taken, c.requires)

pub returns-in-Err-feed : goal.returns-in-Err-feed
returns-in-Err-feed c = feed_checks c.args.bytes.now _ c.in-Err-feed.stop (c.in-Err-feed.ensures.judged [] c.in-Ok.ensures.given)

pub returns : goal.returns
returns c = finish_checks c.args.bytes.now _ c.in-Err-finish.stop (c.in-Err-finish.ensures.judged c.args.bytes.now (c.in-Ok-feed.ensures.given [] c.in-Ok.ensures.given))

pub returns-in-Ok-finish : goal.returns-in-Ok-finish
returns-in-Ok-finish c =
    script_checks c.args.bytes.now c.script.result.now c.len.result
    (subst (λ k. Accepts c.args.bytes.now (commands_of k)) (sym c.script.ensures.script) (c.in-Ok-finish.ensures.judged c.args.bytes.now (c.in-Ok-feed.ensures.given [] c.in-Ok.ensures.given))) c.len.ensures
