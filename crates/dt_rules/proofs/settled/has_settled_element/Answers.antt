use Rattle.std.proofs.Common.{ap, sym, ◌∙◌}
use Rattle.std.specs.Option.{option_copied}
use Rattle.sort_store.specs.Tree.{tree}
use Rattle.std.proofs.Common.{map}
use Rattle.dt_rules.proofs.SettledMembers.{element_iff, no_element_iff}
use Rattle.dt_rules.proofs.settled.has_settled_element.Goals as goal

pub returns-in-Some : goal.returns-in-Some
returns-in-Some c = element_iff c.args.args.now (map tree c.args.unsettled.now) c.in-Some.element.now c.is_listed.result (sym c.item_at.ensures ∙ ap option_copied c.in-Some.is) c.is_listed.ensures

pub returns-in-None : goal.returns-in-None
returns-in-None c = no_element_iff c.args.args.now (map tree c.args.unsettled.now) (sym c.item_at.ensures ∙ ap option_copied c.in-None.is)
