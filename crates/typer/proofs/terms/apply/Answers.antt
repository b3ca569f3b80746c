use Rattle.sort_store.specs.Tree.{tree}
use Rattle.typer.proofs.SymbolSteps.{application_made}
use Rattle.typer.proofs.terms.apply.Goals as goal

pub returns-clause-answer : goal.returns-clause-answer
returns-clause-answer c = application_made c.new_term.result c.args.head.applied (tree c.args.head.sort) c.args.args.terms.items c.new_term.ensures.term
