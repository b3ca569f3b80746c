use Rattle.std.proofs.Common.{◌∙◌}
use Rattle.sexp_core.specs.Items.{laid_out}
use Rattle.sexp_core.proofs.tree.Tree.items.Goals as goal

pub returns-clause-items : goal.returns-clause-items
returns-clause-items c = c.deref.ensures.value ∙ laid_out _ _ c.self.invariant c.self.view_is
