use Rattle.std.proofs.Common.{◌++◌, ◌∷◌, [], List, take}
use Rattle.std.specs.Prelude.{IfErr}
use Rattle.lex_core.specs.Token.{Token, token_of}
use Rattle.script_core.specs.Checking.{Awaits, BreaksWithin, ExitsWithin, IfEnded, IfMore, IfRefused, TakesTokens, accepted_by}
use Rattle.script_core.proofs.TakingTokens.{awaits_second_of, by_first, fed_ends, fed_more, first_breaks, first_ends, of_first, second_breaks}
use Rattle.script_core.proofs.checker.Checker.take_fed.Goals as goal

pub take_option-requires-in-Ok-More-clause-awaits : goal.take_option-requires-in-Ok-More-clause-awaits
take_option-requires-in-Ok-More-clause-awaits c = let w = c.requires.awaits in let a = c.in-Some.first in (
  w.0 ++ token_of c.args.self.now.scope.world.names a ∷ [],
  awaits_second_of c.args.self.now c.take_token.new.self a c.args.fed.second w.0 (rw c.in-Ok-More.field-0-is at c.in-Ok-More.ensures.more) c.take_token.ensures.same.0 c.requires.interned.1
      (of_first (λ (ts : List Token). Awaits w.0 (take 1 ts) c.args.self.now) c.args.self.now.scope.world.names c.args.fed a c.in-Some.is w.1),
)

pub returns-in-Ok-More-clause-more : goal.returns-in-Ok-More-clause-more
returns-in-Ok-More-clause-more c =
    by_first (λ (ts : List Token). IfMore c.take_option-in-Ok-More.result (TakesTokens c.args.self.now (take 1 ts) ts c.take_option-in-Ok-More.new.self)) c.args.self.now.scope.world.names c.args.fed c.in-Some.first c.in-Some.is
    (fed_more c.args.self.now c.take_token.new.self c.take_option-in-Ok-More.new.self c.in-Some.first c.args.fed.second c.take_option-in-Ok-More.result
    (rw c.in-Ok-More.field-0-is at c.in-Ok-More.ensures.more) c.take_token.ensures.same.0 c.requires.interned.1 c.take_option-in-Ok-More.ensures.more)

pub returns-in-Ok-More-clause-ended : goal.returns-in-Ok-More-clause-ended
returns-in-Ok-More-clause-ended c =
    by_first (λ (ts : List Token). IfEnded c.take_option-in-Ok-More.result (ExitsWithin c.args.self.now (take 1 ts) ts (accepted_by c.take_option-in-Ok-More.new.self))) c.args.self.now.scope.world.names c.args.fed c.in-Some.first c.in-Some.is
    (fed_ends c.args.self.now c.take_token.new.self c.in-Some.first c.args.fed.second c.take_option-in-Ok-More.result (accepted_by c.take_option-in-Ok-More.new.self)
    (rw c.in-Ok-More.field-0-is at c.in-Ok-More.ensures.more) c.take_token.ensures.same.0 c.requires.interned.1 c.take_option-in-Ok-More.ensures.ended)

pub returns-in-Ok-More-clause-refused : goal.returns-in-Ok-More-clause-refused
returns-in-Ok-More-clause-refused c =
    by_first (λ (ts : List Token). IfErr c.take_option-in-Ok-More.result (λ e. IfRefused e (BreaksWithin c.args.self.now (take 1 ts) ts (accepted_by c.take_option-in-Ok-More.new.self)))) c.args.self.now.scope.world.names c.args.fed c.in-Some.first c.in-Some.is
    (second_breaks c.args.self.now c.take_token.new.self c.in-Some.first c.args.fed.second (accepted_by c.take_option-in-Ok-More.new.self) c.take_option-in-Ok-More.result
    (rw c.in-Ok-More.field-0-is at c.in-Ok-More.ensures.more) c.take_token.ensures.same.0 c.requires.interned.1 c.take_option-in-Ok-More.ensures.refused)

pub returns-in-Ok-Ended-clause-ended : goal.returns-in-Ok-Ended-clause-ended
returns-in-Ok-Ended-clause-ended c =
    by_first (λ (ts : List Token). ExitsWithin c.args.self.now (take 1 ts) ts (accepted_by c.take_token.new.self)) c.args.self.now.scope.world.names c.args.fed c.in-Some.first c.in-Some.is
    (first_ends c.args.self.now c.in-Some.first c.args.fed.second (accepted_by c.take_token.new.self) (rw c.in-Ok-Ended.field-0-is at c.in-Ok-Ended.ensures.ended))

pub returns-in-Err-clause-refused : goal.returns-in-Err-clause-refused
returns-in-Err-clause-refused c =
    by_first (λ (ts : List Token). IfRefused c.in-Err.stop (BreaksWithin c.args.self.now (take 1 ts) ts (accepted_by c.take_token.new.self))) c.args.self.now.scope.world.names c.args.fed c.in-Some.first c.in-Some.is
    (first_breaks c.args.self.now c.in-Some.first c.args.fed.second (accepted_by c.take_token.new.self) c.in-Err.stop c.in-Err.ensures.refused)
