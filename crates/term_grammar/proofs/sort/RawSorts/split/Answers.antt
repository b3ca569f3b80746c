use Rattle.std.proofs.Common.{sym, ◌∙◌}
use Rattle.term_grammar.proofs.SortsSeen.{sorts_begin, sorts_end}
use Rattle.term_grammar.proofs.sort.RawSorts.split.Goals as goal

pub returns-in_default : goal.returns-in_default
returns-in_default c = sym c.self.view_is ∙ sorts_end _ c.in_default.ensures.first

pub invariant_of-result : goal.invariant_of-result
invariant_of-result c = (sorts_begin _ _ _ c.self.invariant c.in-Some.ensures.first).0

pub invariant_of-result-2 : goal.invariant_of-result-2
invariant_of-result-2 c = (sorts_begin _ _ _ c.self.invariant c.in-Some.ensures.first).1.0

pub returns : goal.returns
returns c = sym c.self.view_is ∙ (sorts_begin _ _ _ c.self.invariant c.in-Some.ensures.first).1.1
