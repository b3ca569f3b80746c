use Rattle.std.proofs.Common.{◌∙◌, Err, map, ap, sym}
use Rattle.std.specs.Option.{option_copied, option_map}
use Rattle.sort_store.specs.Tree as sort_tree
use Rattle.term_store.specs.Command.{plain_datatype}
use Rattle.term_store.specs.Term.{NumberedTerm, PlainTerm, tree}
use Rattle.term_store.specs.declared.parts.Pattern.{Pattern}
use Rattle.typer.specs.Answers.{Answers, typed_answer}
use Rattle.typer.specs.FunctionSymbols.{datatypes_of}
use Rattle.typer.specs.TermRules.{judge_covered}
use Rattle.typer.specs.Typed.{case_trees}
use Rattle.typer.proofs.MatchParts.{at_some, covered, found_instance, uncovered, without_case}
use Rattle.typer.proofs.patterns.covered_match.Goals as goal

pub returns-then-not-covers-clause-answer : goal.returns-then-not-covers-clause-answer
returns-then-not-covers-clause-answer c =
    at_some (λ i. Answers {A = PlainTerm} (Err c.fault.result) (judge_covered c.args.at i.0 (tree c.args.of.term) (case_trees c.args.cases))) _ _
    (found_instance (datatypes_of c.args.world.now.script) c.args.of.sort (plain_datatype c.in-Some.datatype.now) (sym c.datatype_of.ensures ∙ ap (λ o. option_map plain_datatype (option_copied o)) c.in-Some.is))
    (uncovered c.args.at (plain_datatype c.in-Some.datatype.now) c.args.of.term c.args.cases.cases.items c.deref-2.result.now c.covers.result (c.deref-2.ensures.value ∙ c.in_ok-patterns.ensures.ok ∙ ap (map (λ (k : Pattern × NumberedTerm). k.0)) c.deref.ensures.value) c.covers.ensures c.if-not-covers.true c.fault.result c.fault.ensures)

pub returns-in_default-sort-clause-answer : goal.returns-in_default-sort-clause-answer
returns-in_default-sort-clause-answer c =
    at_some (λ i. Answers {A = PlainTerm} (Err c.fault-in_default-sort.result) (judge_covered c.args.at i.0 (tree c.args.of.term) (case_trees c.args.cases))) _ _
    (found_instance (datatypes_of c.args.world.now.script) c.args.of.sort (plain_datatype c.in-Some.datatype.now) (sym c.datatype_of.ensures ∙ ap (λ o. option_map plain_datatype (option_copied o)) c.in-Some.is))
    (without_case c.args.at (plain_datatype c.in-Some.datatype.now) c.args.of.term c.args.cases.cases.items c.deref-2.result.now c.covers.result (c.deref-2.ensures.value ∙ c.in_ok-patterns.ensures.ok ∙ ap (map (λ (k : Pattern × NumberedTerm). k.0)) c.deref.ensures.value) c.covers.ensures c.if-not-covers.false (sym c.requires.cases.first ∙ ap (option_map sort_tree.tree) c.in_default-sort.is) c.fault-in_default-sort.result c.fault-in_default-sort.ensures)

pub returns-clause-answer : goal.returns-clause-answer
returns-clause-answer c =
    at_some (λ i. Answers (typed_answer c.new_term.result) (judge_covered c.args.at i.0 (tree c.args.of.term) (case_trees c.args.cases))) _ _
    (found_instance (datatypes_of c.args.world.now.script) c.args.of.sort (plain_datatype c.in-Some.datatype.now) (sym c.datatype_of.ensures ∙ ap (λ o. option_map plain_datatype (option_copied o)) c.in-Some.is))
    (covered c.args.at (plain_datatype c.in-Some.datatype.now) c.args.of.term c.args.cases.cases.items c.deref-2.result.now c.covers.result (c.deref-2.ensures.value ∙ c.in_ok-patterns.ensures.ok ∙ ap (map (λ (k : Pattern × NumberedTerm). k.0)) c.deref.ensures.value) c.covers.ensures c.if-not-covers.false (sort_tree.tree c.in-Some-sort.sort) (sym c.requires.cases.first ∙ ap (option_map sort_tree.tree) c.in-Some-sort.is) c.new_term.result c.new_term.ensures.term c.new_term.ensures.err)
