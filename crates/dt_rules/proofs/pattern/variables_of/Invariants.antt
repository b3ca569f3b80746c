use Rattle.std.proofs.Common.{ℕ, List, [], length}
use Rattle.judgement.specs.Judging.{Outcome}
use Rattle.dt_rules.specs.Answers.{symbols_left}
use Rattle.dt_rules.specs.PatternRules.{judge_variables}
use Rattle.dt_rules.proofs.pattern.variables_of.Given as goal

-- what the variables that are left have as outcome after those so far, all have it
abbrev pub invariant-loop-next : goal.invariant-loop-next
invariant-loop-next l = (before : List ℕ) (o : Outcome (List ℕ)) → judge_variables l.names (symbols_left l.next) before o → judge_variables [] l.variables before o

abbrev pub decreases-loop-next : goal.decreases-loop-next
decreases-loop-next l = length (symbols_left l.next)
