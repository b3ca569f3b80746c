use Rattle.std.proofs.Common.{slice_get, ap, sym, ◌∙◌}
use Rattle.std.specs.Option.{option_map}
use Rattle.std.proofs.lemmas.Option.{slice_get-map}
use Rattle.logic_frag.specs.Logics.{described}
use Rattle.logic_frag.proofs.NamedLogics.{logic-listed}
use Rattle.logic_frag.proofs.table.logic_of.Goals as goal

pub returns : goal.returns
returns c =
    let named = logic-listed c.args.name.now c.places.result c.find.result c.places.ensures c.find.ensures c.in_ok-place.place c.in_ok-place.was in
    let found = ap (option_map described) (c.logic_at.ensures ∙ ap (slice_get c.all_logics.result) c.from.ensures) in
    let mapped = slice_get-map described c.all_logics.result c.in_ok-place.place in
    found ∙ sym mapped ∙ ap (λ ls. slice_get ls c.in_ok-place.place) c.all_logics.ensures ∙ sym named
