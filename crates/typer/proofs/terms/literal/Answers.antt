use Rattle.std.proofs.lemmas.Result.{err_from_is_err_and}
use Rattle.typer.specs.FunctionSymbols.{signature_of}
use Rattle.typer.proofs.LiteralSteps.{literal_fails, literal_made}
use Rattle.typer.proofs.ReadyKept.{grown}
use Rattle.typer.proofs.terms.literal.Goals as goal

pub returns-in_err-sort-clause-ready : goal.returns-in_err-sort-clause-ready
returns-in_err-sort-clause-ready c = grown c.args.world.now c.constant_sort.new.sorts c.constant_sort.ensures.grows c.constant_sort.ensures.distinct c.requires.ready

pub new_term-requires-clause-ready : goal.new_term-requires-clause-ready
new_term-requires-clause-ready c = grown c.args.world.now c.constant_sort.new.sorts c.constant_sort.ensures.grows c.constant_sort.ensures.distinct c.requires.ready

pub returns-in_err-head-clause-answer : goal.returns-in_err-head-clause-answer
returns-in_err-head-clause-answer c =
    let p = err_from_is_err_and c.from_residual.result c.from_residual.ensures.1 in rw (p.1, p.2) (literal_fails (signature_of c.args.world.now) c.args.tok c.in_err-head.field-0.0 c.in_err-head.ensures)

pub returns-clause-answer : goal.returns-clause-answer
returns-clause-answer c =
    literal_made (signature_of c.args.world.now) c.args.tok c.in_ok-head.head c.in_ok-sort.sort c.new_term.result c.in_ok-head.ensures c.in_ok-sort.ensures.tree c.new_term.ensures.term c.new_term.ensures.err
