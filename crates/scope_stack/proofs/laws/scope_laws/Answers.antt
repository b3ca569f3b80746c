use Rattle.scope_stack.specs.Levels.{live}
use Rattle.scope_stack.proofs.CallLaws.{calls_keep_consistent, found_is_live}
use Rattle.scope_stack.proofs.laws.scope_laws.Goals as goal

pub returns-clause-funs : goal.returns-clause-funs
returns-clause-funs c = λ calls e name entry follows. found_is_live name entry (live e.funs) (calls_keep_consistent calls e follows).funs_distinct

pub returns-clause-sorts : goal.returns-clause-sorts
returns-clause-sorts c = λ calls e name entry follows. found_is_live name entry (live e.sorts) (calls_keep_consistent calls e follows).sorts_distinct

pub returns-clause-consistent : goal.returns-clause-consistent
returns-clause-consistent c = calls_keep_consistent
