use Rattle.std.proofs.Common.{◌≡◌, Some, ◌∙◌, ap, map, subst, sym}
use Rattle.std.proofs.lemmas.Result.{err_from_is_err_and}
use Rattle.std.specs.List.{zip}
use Rattle.std.specs.Option.{option_copied, option_map}
use Rattle.std.specs.Result.{IfOk}
use Rattle.sort_store.specs.Instance.{inst}
use Rattle.sort_store.specs.Tree.{tree}
use Rattle.term_store.specs.Command.{PlainField, plain_constructor, plain_datatype, plain_field}
use Rattle.term_store.specs.Term.{plain_var}
use Rattle.typer.specs.MatchRules.{pattern_sorts, pattern_variables, sorts_of_fields}
use Rattle.typer.proofs.MatchParts.{constructor_sorts, fields_below, small_fault, small_made, variables_answer, variables_are, variables_interned, zip_none}
use Rattle.typer.proofs.patterns.pattern_variables.Goals as goal

pub returns-in_default-clause-variables : goal.returns-in_default-clause-variables
returns-in_default-clause-variables c =
    rw c.in-Con.is (ap (map plain_var) c.new.ensures.items
    ∙ sym (ap (λ o. zip c.in-Con.vars (sorts_of_fields o (map tree c.args.values.now))) (sym c.constructor_named.ensures ∙ ap (λ o. option_map plain_constructor (option_copied o)) c.in_default.is) ∙ zip_none c.in-Con.vars))

pub field_sorts-requires-clause-params : goal.field_sorts-requires-clause-params
field_sorts-requires-clause-params c =
    fields_below c.args.datatype.now c.in-Con.name c.in-Some.constructor.now _ _ c.requires.ready (sym c.constructor_named.ensures ∙ ap (λ o. option_map plain_constructor (option_copied o)) c.in-Some.is) c.as_slice-fields.ensures c.requires.count

pub returns-in_err-own-in-Con-clause-answer : goal.returns-in_err-own-in-Con-clause-answer
returns-in_err-own-in-Con-clause-answer c =
    let p = err_from_is_err_and c.from_residual.result c.from_residual.ensures.1 in
    rw (p.1, p.2) (small_fault c.in_err-own-in-Con.field-0.0 c.args.at _ _
    (ap (λ fs. map (λ (f : PlainField). inst (map tree c.args.values.now) f.sort) (map plain_field fs)) c.as_slice-fields.ensures
    ∙ sym (constructor_sorts (plain_datatype c.args.datatype.now, map tree c.args.values.now) c.args.pattern.now c.in-Con.no c.in-Con.name c.in-Con.vars (Some (plain_constructor c.in-Some.constructor.now)) c.in-Con.is
    (sym (ap (λ o. option_map plain_constructor (option_copied o)) c.in-Some.is) ∙ c.constructor_named.ensures)))
    c.in_err-own-in-Con.ensures.answer)

pub returns-in_ok-own-in-Con-clause-answer : goal.returns-in_ok-own-in-Con-clause-answer
returns-in_ok-own-in-Con-clause-answer c =
    variables_answer _ c.args.at c.in_ok-own-in-Con.own.items
    (small_made c.args.at c.in_ok-own-in-Con.own.items _ _
    (ap (λ fs. map (λ (f : PlainField). inst (map tree c.args.values.now) f.sort) (map plain_field fs)) c.as_slice-fields.ensures
    ∙ sym (constructor_sorts (plain_datatype c.args.datatype.now, map tree c.args.values.now) c.args.pattern.now c.in-Con.no c.in-Con.name c.in-Con.vars (Some (plain_constructor c.in-Some.constructor.now)) c.in-Con.is
    (sym (ap (λ o. option_map plain_constructor (option_copied o)) c.in-Some.is) ∙ c.constructor_named.ensures)))
    c.in_ok-own-in-Con.ensures.answer) c.variables_of.result c.variables_of.ensures.err

pub returns-in_ok-own-in-Con-clause-variables : goal.returns-in_ok-own-in-Con-clause-variables
returns-in_ok-own-in-Con-clause-variables c =
    variables_are _ c.args.at c.in_ok-own-in-Con.own.items
    (small_made c.args.at c.in_ok-own-in-Con.own.items _ _
    (ap (λ fs. map (λ (f : PlainField). inst (map tree c.args.values.now) f.sort) (map plain_field fs)) c.as_slice-fields.ensures
    ∙ sym (constructor_sorts (plain_datatype c.args.datatype.now, map tree c.args.values.now) c.args.pattern.now c.in-Con.no c.in-Con.name c.in-Con.vars (Some (plain_constructor c.in-Some.constructor.now)) c.in-Con.is
    (sym (ap (λ o. option_map plain_constructor (option_copied o)) c.in-Some.is) ∙ c.constructor_named.ensures)))
    c.in_ok-own-in-Con.ensures.answer) c.in-Con.vars c.variables_of.result _
    (ap (zip c.in-Con.vars) (ap (pattern_sorts (plain_datatype c.args.datatype.now, map tree c.args.values.now)) c.in-Con.is) ∙ sym (ap (pattern_variables (plain_datatype c.args.datatype.now, map tree c.args.values.now) (tree c.args.sort.now)) c.in-Con.is))
    (subst (λ vs. IfOk c.variables_of.result (λ v. v.items ≡ zip vs c.in_ok-own-in-Con.own.items)) c.as_slice.ensures (subst (λ rs. IfOk c.variables_of.result (λ v. v.items ≡ zip c.as_slice.result.now rs)) c.deref.ensures.value c.variables_of.ensures.ok))

pub returns-in_ok-own-in-Con-clause-interned : goal.returns-in_ok-own-in-Con-clause-interned
returns-in_ok-own-in-Con-clause-interned c =
    variables_interned _ c.in-Con.vars c.in_ok-own-in-Con.own.items c.variables_of.result c.in_ok-own-in-Con.ensures.interned
    (subst (λ vs. IfOk c.variables_of.result (λ v. v.items ≡ zip vs c.in_ok-own-in-Con.own.items)) c.as_slice.ensures (subst (λ rs. IfOk c.variables_of.result (λ v. v.items ≡ zip c.as_slice.result.now rs)) c.deref.ensures.value c.variables_of.ensures.ok))
