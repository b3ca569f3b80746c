use Rattle.std.proofs.Common.{sym, subst}
use Rattle.sort_store.specs.Tree as sort_tree
use Rattle.term_store.specs.Interned.{AllInterned}
use Rattle.typer.proofs.BinderSteps.{let_made}
use Rattle.typer.proofs.TypedSteps.{bindings_interned}
use Rattle.typer.proofs.binders.new_let.Goals as goal

pub new_term-requires-clause-parts : goal.new_term-requires-clause-parts
new_term-requires-clause-parts c =
    (subst (AllInterned c.args.world.now.terms) (sym c.in_ok-values.ensures.ok) (bindings_interned c.args.world.now c.args.bindings.now c.requires.bindings), c.requires.body.term)

pub returns-clause-term : goal.returns-clause-term
returns-clause-term c =
    let_made c.new_term.result c.args.bindings.now c.in_ok-vars.vars.items c.in_ok-values.values.items (sort_tree.tree c.args.body.sort) c.args.body.term
    c.in_ok-vars.ensures.ok c.in_ok-values.ensures.ok c.requires.body.same c.new_term.ensures.term
