use Rattle.std.proofs.Common.{rules, ◌≡◌, length, ap, sym, ◌∙◌}
use Rattle.std.specs.Option.{option_copied, option_map}
use Rattle.term_store.specs.Command.{plain_constructor, plain_datatype}
use Rattle.std.proofs.lemmas.Result.{err_from_is_err_and}
use Rattle.dt_rules.proofs.PatternSteps.{field_count, variables_fail}
use Rattle.dt_rules.proofs.pattern.constructor_pattern.Goals as goal

pub returns-in_err-vars : goal.returns-in_err-vars
returns-in_err-vars c =
    let p = err_from_is_err_and c.from_residual.result c.from_residual.ensures.1 in
    let count : length c.args.variables.now ≡ length c.in-Some.constructor.now.fields = search rules in
    rw (p.1, p.2) (variables_fail (plain_datatype c.args.datatype.now) c.args.at c.args.symbol.now c.args.variables.now (plain_constructor c.in-Some.constructor.now) c.in_err-vars.field-0.0 (sym c.constructor_named.ensures ∙ ap (option_map plain_constructor) (ap option_copied c.in-Some.is)) (count ∙ sym (field_count c.in-Some.constructor.now)) c.in_err-vars.ensures)
