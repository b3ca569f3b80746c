use Rattle.std.proofs.Common.{map}
use Rattle.std.specs.Option.{option_map}
use Rattle.sort_store.specs.Tree as sort_tree
use Rattle.term_store.specs.Term.{plain_var, tree}
use Rattle.typer.specs.Answers.{typed_answer}
use Rattle.typer.specs.FunctionSymbols.{signature_of}
use Rattle.typer.proofs.SymbolSteps.{of_indexed}
use Rattle.typer.proofs.terms.application.Goals as goal

pub returns-in-Indexed-clause-answer : goal.returns-in-Indexed-clause-answer
returns-in-Indexed-clause-answer c =
    of_indexed (signature_of c.args.world.now) (map plain_var c.args.vars.now) c.args.at (map tree c.args.args.terms.items) (option_map sort_tree.tree c.args.asked.now) c.args.identifier.now c.in-Indexed.name c.in-Indexed.indices
    (typed_answer c.indexed_symbol.result) c.in-Indexed.ensures c.indexed_symbol.ensures.answer
