use Rattle.std.proofs.Common.{[], Some, slice_get, is_ok, ap, ◌∙◌}
use Rattle.sexp_core.specs.Parts.{whole}
use Rattle.term_grammar.specs.Reads.{no_token}
use Rattle.term_grammar.specs.Syntax.{named_sort, symbol}
use Rattle.cmd_grammar.specs.DeclarationReads.{fun_dec, read_fun_dec, fun_dec_of}
use Rattle.cmd_grammar.specs.DeclarationViews.{fun_dec_seen}
use Rattle.cmd_grammar.proofs.EachTree.{seen_at, passes_at}
use Rattle.cmd_grammar.proofs.ReadAll.{reads_not, shows}
use Rattle.cmd_grammar.proofs.fun_dec.RawFunDecs.get.Goals as goal

pub unreachable-requires : goal.unreachable-requires
unreachable-requires c =
    reads_not fun_dec_seen c.read_fun_dec.result (read_fun_dec (whole c.in-Some.tree)) _ c.read_fun_dec.ensures c.in_default-read_fun_dec.is
    (passes_at (λ t. is_ok (read_fun_dec t)) c.self.inside.trees c.args.i _ _ c.self.invariant c.nth.ensures c.in-Some.is)

pub returns : goal.returns
returns c =
    ap Some (shows fun_dec_seen c.read_fun_dec.result (read_fun_dec (whole c.in-Some.tree)) _ (fun_dec 0 no_token [] (named_sort (symbol no_token))) c.read_fun_dec.ensures c.in-Ok.is)
    ∙ seen_at fun_dec_of c.self.inside.trees c.args.i _ _ c.nth.ensures c.in-Some.is
    ∙ ap (λ xs. slice_get xs c.args.i) c.self.view_is
