use Rattle.std.proofs.Common.{◌∙◌, arith, sym, append-nil}
use Rattle.sexp_core.specs.Sexp.{cons, nil}
use Rattle.sexp_core.proofs.FirstSexp.{sexps_read}
use Rattle.sexp_core.proofs.parts.Trees.of.Goals as goal

pub invariant_of-result : goal.invariant_of-result
invariant_of-result c = (cons c.args.tree.now nil, c.items-items.ensures.items ∙ sym (append-nil _), omega (arith, c.items-items.ensures.room))

pub returns : goal.returns
returns c = sexps_read 0 _ (cons c.args.tree.now nil) (c.items-items.ensures.items ∙ sym (append-nil _))
