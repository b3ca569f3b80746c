use Rattle.std.proofs.Common.{rules}
use Rattle.sexp_core.specs.Items.{laid_out}
use Rattle.sexp_core.proofs.tree.Tree.item.Goals as goal

pub returns : goal.returns
returns c = let e = laid_out _ _ c.self.invariant c.self.view_is in rw (← e) (search rules)
