use Rattle.sexp_core.proofs.TokensFixSexps.{flat_fixes}
use Rattle.sexp_core.proofs.laws.tree_laws.Goals as goal

pub returns-clause-numbers : goal.returns-clause-numbers
returns-clause-numbers c = flat_fixes

pub returns-clause-texts : goal.returns-clause-texts
returns-clause-texts c = flat_fixes
