use Rattle.std.proofs.Common.{nat_eq, map, ap, sym, ◌∙◌}
use Rattle.term_store.specs.Command.{PlainDatatype, plain_datatype}
use Rattle.dt_rules.specs.Groups.{is_of_group}
use Rattle.dt_rules.proofs.Lists.{any_map}
use Rattle.dt_rules.proofs.group.is_of_group.Goals as goal

pub returns-in-Data : goal.returns-in-Data
returns-in-Data c =
    c.has_number.ensures ∙ sym (any_map plain_datatype (λ (t : PlainDatatype). nat_eq t.no.0 c.in-Data.no.0) c.args.group.now) ∙ ap (is_of_group (map plain_datatype c.args.group.now)) (sym c.in-Data.is)
