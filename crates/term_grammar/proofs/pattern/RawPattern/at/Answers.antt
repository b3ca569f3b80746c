use Rattle.std.proofs.Common.{ap, sym, ◌∙◌}
use Rattle.sexp_core.specs.Parts.{whole}
use Rattle.term_grammar.specs.Syntax.{pattern_at}
use Rattle.term_grammar.proofs.Bytes.{pattern_begins}
use Rattle.term_grammar.proofs.pattern.RawPattern.at.Goals as goal

pub returns : goal.returns
returns c = c.first_byte.ensures ∙ sym (pattern_begins (whole c.self.inside.tree) c.self.invariant) ∙ ap pattern_at c.self.view_is
