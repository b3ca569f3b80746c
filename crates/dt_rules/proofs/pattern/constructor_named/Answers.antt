use Rattle.std.proofs.Common.{◌==◌, ◌∙◌, ap, map}
use Rattle.std.specs.Option.{option_map}
use Rattle.std.specs.List as lists
use Rattle.term_store.specs.Command.{PlainConstructor, plain_constructor}
use Rattle.dt_rules.proofs.PatternSteps.{named_plain}
use Rattle.dt_rules.proofs.pattern.constructor_named.Goals as goal

pub returns : goal.returns
returns c =
    ap (option_map plain_constructor) c.find_named.ensures ∙ named_plain c.args.name c.as_slice.result.now
    ∙ ap (λ cs. lists.find (λ (d : PlainConstructor). d.name == c.args.name) (map plain_constructor cs)) c.as_slice.ensures
