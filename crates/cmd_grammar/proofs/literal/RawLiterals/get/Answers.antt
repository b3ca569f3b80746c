use Rattle.std.proofs.Common.{ap, ◌∙◌, slice_get}
use Rattle.cmd_grammar.specs.DeclarationForms.{is_literal}
use Rattle.cmd_grammar.specs.DeclarationReads.{literal_of}
use Rattle.cmd_grammar.proofs.EachTree.{seen_at, passes_at}
use Rattle.cmd_grammar.proofs.literal.RawLiterals.get.Goals as goal

pub invariant_of-result : goal.invariant_of-result
invariant_of-result c = passes_at is_literal c.self.inside.trees c.args.i _ _ c.self.invariant c.nth.ensures c.in-Some.is

pub returns : goal.returns
returns c = seen_at literal_of c.self.inside.trees c.args.i _ _ c.nth.ensures c.in-Some.is ∙ ap (λ xs. slice_get xs c.args.i) c.self.view_is
