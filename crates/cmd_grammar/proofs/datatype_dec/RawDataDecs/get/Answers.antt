use Rattle.std.proofs.Common.{slice_get, is_ok, ap, ◌∙◌}
use Rattle.cmd_grammar.specs.DeclarationReads.{read_data_dec, data_dec_of}
use Rattle.cmd_grammar.proofs.EachTree.{seen_at, passes_at}
use Rattle.cmd_grammar.proofs.datatype_dec.RawDataDecs.get.Goals as goal

pub invariant_of-result : goal.invariant_of-result
invariant_of-result c = passes_at (λ t. is_ok (read_data_dec t)) c.self.inside.trees c.args.i _ _ c.self.invariant c.nth.ensures c.in-Some.is

pub returns : goal.returns
returns c = seen_at data_dec_of c.self.inside.trees c.args.i _ _ c.nth.ensures c.in-Some.is ∙ ap (λ xs. slice_get xs c.args.i) c.self.view_is
