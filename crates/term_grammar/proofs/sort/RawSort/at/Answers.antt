use Rattle.std.proofs.Common.{ap, sym, ◌∙◌}
use Rattle.term_grammar.specs.Syntax.{sort_at}
use Rattle.term_grammar.proofs.Bytes.{sort_begins}
use Rattle.term_grammar.proofs.sort.RawSort.at.Goals as goal

pub returns : goal.returns
returns c = c.first_byte.ensures ∙ sym (sort_begins _ c.self.invariant) ∙ ap sort_at c.self.view_is
