use Rattle.std.proofs.Common.{refl}
use Rattle.dolmen_cmd.proofs.Answering.{keeps_same, finished_answers, reported_answers}
use Rattle.dolmen_cmd.proofs.runs.run.Goals as goal

pub returns-in-Done-clause-answer : goal.returns-in-Done-clause-answer
returns-in-Done-clause-answer g c = let verdict = c.judge_source-verdict.ensures.verdict in (
  verdict.0,
  verdict.1,
  finished_answers _ _ _ c.judge_source-verdict.result c.finish.result verdict.2 c.in-Done.is (keeps_same _) refl c.finish.ensures,
)

pub returns-in_default : goal.returns-in_default
returns-in_default g c = let verdict = c.judge_source-verdict.ensures.verdict in record {
  answer = (
    verdict.0,
    verdict.1,
    reported_answers _ _ _ c.judge_source-verdict.result c.report.result verdict.2 c.in_default.not-Done (keeps_same _) c.report.ensures,
  );
  unread = c.judge_source-verdict.ensures.unread;
}
