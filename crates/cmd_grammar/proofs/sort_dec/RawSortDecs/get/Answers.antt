use Rattle.std.proofs.Common.{ap, ◌∙◌, Some, slice_get}
use Rattle.cmd_grammar.specs.DeclarationForms.{is_sort_dec}
use Rattle.cmd_grammar.specs.DeclarationReads.{sort_dec_of}
use Rattle.cmd_grammar.proofs.EachTree.{seen_at, passes_at}
use Rattle.cmd_grammar.proofs.sort_dec.RawSortDecs.get.Goals as goal

pub sort_dec-requires : goal.sort_dec-requires
sort_dec-requires c = passes_at is_sort_dec c.self.inside.trees c.args.i _ _ c.self.invariant c.nth.ensures c.in-Some.is

pub returns : goal.returns
returns c =
    ap Some c.sort_dec.ensures ∙ seen_at sort_dec_of c.self.inside.trees c.args.i _ _ c.nth.ensures c.in-Some.is ∙ ap (λ xs. slice_get xs c.args.i) c.self.view_is
