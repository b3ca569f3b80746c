use Rattle.script_core.proofs.JudgingTexts.{exited_now, given_stands, stands_exited}
use Rattle.script_core.proofs.session.Session.finish.Goals as goal

pub returns-then-self-clause-judged : goal.returns-then-self-clause-judged
returns-then-self-clause-judged c bytes h =
    exited_now _ _ _ (stands_exited c.self.inside.ended bytes c.self.inside.checker c.if-self.true (given_stands _ c.args.self.now bytes c.self.view_is h))
