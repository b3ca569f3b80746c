use Rattle.std.proofs.Common.{[], ap, map}
use Rattle.std.specs.Option.{option_map}
use Rattle.term_grammar.specs.Syntax.{qualified_at}
use Rattle.sort_store.specs.Tree as sort_tree
use Rattle.term_store.specs.Term.{plain_var, tree}
use Rattle.typer.specs.Answers.{typed_answer}
use Rattle.typer.specs.FunctionSymbols.{signature_of}
use Rattle.typer.specs.TermRules.{identifier_of, judge_application, judge_asked}
use Rattle.typer.proofs.SymbolSteps.{application_moved}
use Rattle.typer.proofs.TermSteps.{first_is}
use Rattle.typer.proofs.TypedSteps.{bound_grown, same_signature}
use Rattle.typer.proofs.terms.constant.Goals as goal

pub application-requires-clause-vars : goal.application-requires-clause-vars
application-requires-clause-vars c = bound_grown c.args.world.now c.asked_sort.new.world c.in_ok-asked.ensures.grown c.args.vars.now c.requires.vars

pub returns-clause-answer : goal.returns-clause-answer
returns-clause-answer c =
    first_is (judge_asked (signature_of c.args.world.now) c.args.head.now)
    (λ asked. judge_application (signature_of c.args.world.now) (map plain_var c.args.vars.now) (qualified_at c.args.head.now) [] asked (identifier_of c.args.head.now))
    (option_map sort_tree.tree c.in_ok-asked.asked) (typed_answer c.application.result) c.in_ok-asked.ensures.answer
    (application_moved (signature_of c.args.world.now) (signature_of c.asked_sort.new.world) (map plain_var c.args.vars.now) (qualified_at c.args.head.now) c.args.at [] (map tree c.new-args.result.terms.items)
    (option_map sort_tree.tree c.in_ok-asked.asked) (identifier_of c.args.head.now) c.identifier_of.result (typed_answer c.application.result)
    (same_signature c.args.world.now c.asked_sort.new.world c.in_ok-asked.ensures.grown) c.requires.at (ap (map tree) c.new-args.ensures.terms) c.identifier_of.ensures c.application.ensures.answer)
