use Rattle.std.proofs.Common.{◌≡◌, ◌∙◌, Err, List, Ok, Some, ap, map, subst, sym}
use Rattle.std.proofs.lemmas.Result.{err_from_is_err_and}
use Rattle.std.specs.Option.{option_copied, option_map}
use Rattle.sort_store.specs.Interned.{AllInterned}
use Rattle.sort_store.specs.Tree.{Sort, tree}
use Rattle.sort_store.proofs.KeyedStores.{parts_interned}
use Rattle.term_store.specs.Command.{plain_datatype}
use Rattle.term_store.specs.Term.{plain_var}
use Rattle.term_store.specs.declared.parts.Pattern.{Pattern}
use Rattle.typer.specs.Answers.{Answers}
use Rattle.typer.specs.MatchRules.{judge_small, judge_typed_pattern, pattern_sorts, pattern_variables}
use Rattle.typer.specs.FunctionSymbols.{datatypes_of}
use Rattle.typer.proofs.MatchParts.{at_some, found_instance, instance_count, instance_ready, typed_pattern_fails, typed_pattern_is}
use Rattle.typer.proofs.ReadyKept.{grown}
use Rattle.typer.proofs.patterns.typed_pattern.Goals as goal

pub pattern_variables-requires-clause-values : goal.pattern_variables-requires-clause-values
pattern_variables-requires-clause-values c =
    subst (AllInterned c.args.world.now.sorts) (sym (c.deref.ensures.value ∙ c.in-Ok.ensures)) (parts_interned c.args.world.now.sorts c.args.sort.now c.requires.sort)

pub pattern_variables-requires-clause-ready : goal.pattern_variables-requires-clause-ready
pattern_variables-requires-clause-ready c =
    instance_ready (datatypes_of c.args.world.now.script) c.args.sort.now (plain_datatype c.in-Some.datatype.now)
    (found_instance (datatypes_of c.args.world.now.script) c.args.sort.now (plain_datatype c.in-Some.datatype.now) (sym c.datatype_of.ensures ∙ ap (λ o. option_map plain_datatype (option_copied o)) c.in-Some.is))
    c.requires.ready.datatypes

pub pattern_variables-requires-clause-count : goal.pattern_variables-requires-clause-count
pattern_variables-requires-clause-count c =
    instance_count (datatypes_of c.args.world.now.script) c.args.sort.now (plain_datatype c.in-Some.datatype.now)
    (found_instance (datatypes_of c.args.world.now.script) c.args.sort.now (plain_datatype c.in-Some.datatype.now) (sym c.datatype_of.ensures ∙ ap (λ o. option_map plain_datatype (option_copied o)) c.in-Some.is))
    c.deref.result.now (c.deref.ensures.value ∙ c.in-Ok.ensures)

pub returns-in_err-variables-clause-answer : goal.returns-in_err-variables-clause-answer
returns-in_err-variables-clause-answer c =
    let p = err_from_is_err_and c.from_residual-in_err-variables.result c.from_residual-in_err-variables.ensures.1 in
    rw (p.1, p.2) (at_some (λ i. Answers {A = Pattern} (Err c.in_err-variables.field-0.0) (judge_typed_pattern i c.args.raw)) _ (plain_datatype c.in-Some.datatype.now, map tree c.deref.result.now)
    (found_instance (datatypes_of c.args.world.now.script) c.args.sort.now (plain_datatype c.in-Some.datatype.now) (sym c.datatype_of.ensures ∙ ap (λ o. option_map plain_datatype (option_copied o)) c.in-Some.is)
    ∙ ap (λ rs. Some (plain_datatype c.in-Some.datatype.now, map tree rs)) (sym (c.deref.ensures.value ∙ c.in-Ok.ensures)))
    (typed_pattern_fails (plain_datatype c.in-Some.datatype.now, map tree c.deref.result.now) c.args.raw c.in_ok-pattern.pattern c.in_err-variables.field-0.0 c.in_ok-pattern.ensures.answer
    (subst (λ at. Answers {A = List Sort} (Err c.in_err-variables.field-0.0) (judge_small at (pattern_sorts (plain_datatype c.in-Some.datatype.now, map tree c.deref.result.now) c.in_ok-pattern.pattern))) c.at-at.ensures c.in_err-variables.ensures.answer)))

pub returns-in_err-variables-clause-ready : goal.returns-in_err-variables-clause-ready
returns-in_err-variables-clause-ready c = grown c.args.world.now c.pattern_variables.new.sorts c.in_err-variables.ensures.grows c.in_err-variables.ensures.distinct c.requires.ready

pub returns-clause-answer : goal.returns-clause-answer
returns-clause-answer c =
    at_some (λ i. Answers (Ok c.in_ok-pattern.pattern) (judge_typed_pattern i c.args.raw)) _ (plain_datatype c.in-Some.datatype.now, map tree c.deref.result.now)
    (found_instance (datatypes_of c.args.world.now.script) c.args.sort.now (plain_datatype c.in-Some.datatype.now) (sym c.datatype_of.ensures ∙ ap (λ o. option_map plain_datatype (option_copied o)) c.in-Some.is)
    ∙ ap (λ rs. Some (plain_datatype c.in-Some.datatype.now, map tree rs)) (sym (c.deref.ensures.value ∙ c.in-Ok.ensures)))
    (typed_pattern_is (plain_datatype c.in-Some.datatype.now, map tree c.deref.result.now) c.args.raw c.in_ok-pattern.pattern c.in_ok-pattern.ensures.answer
    (subst (λ at. Answers (Ok (pattern_sorts (plain_datatype c.in-Some.datatype.now, map tree c.deref.result.now) c.in_ok-pattern.pattern)) (judge_small at (pattern_sorts (plain_datatype c.in-Some.datatype.now, map tree c.deref.result.now) c.in_ok-pattern.pattern))) c.at-at.ensures c.in_ok-variables.ensures.answer))

pub returns-clause-variables : goal.returns-clause-variables
returns-clause-variables c =
    at_some (λ i. map plain_var c.in_ok-variables.variables.items ≡ pattern_variables i (tree c.args.sort.now) c.in_ok-pattern.pattern) _ (plain_datatype c.in-Some.datatype.now, map tree c.deref.result.now)
    (found_instance (datatypes_of c.args.world.now.script) c.args.sort.now (plain_datatype c.in-Some.datatype.now) (sym c.datatype_of.ensures ∙ ap (λ o. option_map plain_datatype (option_copied o)) c.in-Some.is)
    ∙ ap (λ rs. Some (plain_datatype c.in-Some.datatype.now, map tree rs)) (sym (c.deref.ensures.value ∙ c.in-Ok.ensures)))
    c.in_ok-variables.ensures.variables

pub returns-clause-ready : goal.returns-clause-ready
returns-clause-ready c = grown c.args.world.now c.pattern_variables.new.sorts c.in_ok-variables.ensures.grows c.in_ok-variables.ensures.distinct c.requires.ready
