use Rattle.std.proofs.Common.{sym, ◌∙◌}
use Rattle.term_grammar.proofs.TermsSeen.{terms_begin, terms_end}
use Rattle.term_grammar.proofs.term.RawTerms.split.Goals as goal

pub returns-in_default : goal.returns-in_default
returns-in_default c = sym c.self.view_is ∙ terms_end _ c.in_default.ensures.first

pub invariant_of-result : goal.invariant_of-result
invariant_of-result c = (terms_begin _ _ _ c.self.invariant c.in-Some.ensures.first).0

pub invariant_of-result-2 : goal.invariant_of-result-2
invariant_of-result-2 c = (terms_begin _ _ _ c.self.invariant c.in-Some.ensures.first).1.0

pub returns : goal.returns
returns c = sym c.self.view_is ∙ (terms_begin _ _ _ c.self.invariant c.in-Some.ensures.first).1.1
