use Rattle.script_core.proofs.TakingTokens.{one_among}
use Rattle.script_core.proofs.checker.Checker.take_option.Goals as goal

pub returns-in-Some-clause-refused : goal.returns-in-Some-clause-refused
returns-in-Some-clause-refused c = rw c.in-Some.is (one_among c.args.self.now _ _ c.take_token.result c.take_token.ensures.refused)
