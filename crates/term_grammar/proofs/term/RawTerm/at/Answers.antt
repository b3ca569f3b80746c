use Rattle.std.proofs.Common.{ap, sym, ◌∙◌}
use Rattle.term_grammar.specs.Syntax.{term_at}
use Rattle.term_grammar.proofs.Bytes.{term_begins}
use Rattle.term_grammar.proofs.term.RawTerm.at.Goals as goal

pub returns : goal.returns
returns c = c.first_byte.ensures ∙ sym (term_begins _ c.self.invariant) ∙ ap term_at c.self.view_is
