use Rattle.std.proofs.Common.{rules}
use Rattle.sexp_core.proofs.OpenListItems.{atom_added}
use Rattle.sexp_core.proofs.builder.add_atom.Goals as goal

pub returns-in-Ok : goal.returns-in-Ok
returns-in-Ok c = λ fs h. atom_added fs c.args.tok _ _ _ (search rules) h (search (rules, c.in-Ok.ensures.items))
