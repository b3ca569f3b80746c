use Rattle.std.proofs.Common.{[], Some, slice_get, is_ok, ap, ◌∙◌}
use Rattle.sexp_core.specs.Parts.{whole}
use Rattle.term_grammar.specs.Reads.{no_token}
use Rattle.cmd_grammar.specs.DeclarationReads.{constructor_dec, read_constructor_dec, constructor_dec_of}
use Rattle.cmd_grammar.specs.DeclarationViews.{constructor_dec_seen}
use Rattle.cmd_grammar.proofs.EachTree.{seen_at, passes_at}
use Rattle.cmd_grammar.proofs.ReadAll.{reads_not, shows}
use Rattle.cmd_grammar.proofs.datatype_dec.RawConDecs.get.Goals as goal

pub unreachable-requires : goal.unreachable-requires
unreachable-requires c =
    reads_not constructor_dec_seen c.read_constructor_dec.result (read_constructor_dec (whole c.in-Some.tree)) _ c.read_constructor_dec.ensures c.in_default-read_constructor_dec.is
    (passes_at (λ t. is_ok (read_constructor_dec t)) c.self.inside.trees c.args.i _ _ c.self.invariant c.nth.ensures c.in-Some.is)

pub returns : goal.returns
returns c =
    ap Some (shows constructor_dec_seen c.read_constructor_dec.result (read_constructor_dec (whole c.in-Some.tree)) _ (constructor_dec 0 no_token []) c.read_constructor_dec.ensures c.in-Ok.is)
    ∙ seen_at constructor_dec_of c.self.inside.trees c.args.i _ _ c.nth.ensures c.in-Some.is
    ∙ ap (λ xs. slice_get xs c.args.i) c.self.view_is
