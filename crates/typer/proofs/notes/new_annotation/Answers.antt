use Rattle.sort_store.specs.Tree as sort_tree
use Rattle.typer.proofs.BinderSteps.{annotation_made}
use Rattle.typer.proofs.notes.new_annotation.Goals as goal

pub returns-clause-term : goal.returns-clause-term
returns-clause-term c = annotation_made c.new_term.result c.args.notes.items (sort_tree.tree c.args.body.sort) c.args.body.term c.requires.body.same c.new_term.ensures.term
