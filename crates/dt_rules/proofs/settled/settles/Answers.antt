use Rattle.std.proofs.Common.{◌≡◌, ap, sym, ◌∙◌, true, map}
use Rattle.std.specs.Option.{option_copied, option_map}
use Rattle.sort_store.specs.Tree.{tree}
use Rattle.sort_store.specs.Tree as sorts
use Rattle.term_store.specs.Command.{plain_constructor, plain_datatype}
use Rattle.dt_rules.specs.Groups.{known, mentions}
use Rattle.dt_rules.proofs.AddedParts.{data_params, parts_interned}
use Rattle.dt_rules.proofs.SettledMembers.{data_iff, ok_same, settles_iff}
use Rattle.dt_rules.proofs.settled.settles.Goals as goal

pub has_settled-requires-clause-args : goal.has_settled-requires-clause-args
has_settled-requires-clause-args c = parts_interned c.args.sorts.now c.args.sort.now c.deref-in-Some.result.now (c.deref-in-Some.ensures.value ∙ c.in-Ok.ensures) c.requires.interned

pub has_settled-requires-clause-params : goal.has_settled-requires-clause-params
has_settled-requires-clause-params c =
    data_params (map plain_datatype c.args.defs.now.datatypes) (map plain_datatype c.args.group.now) c.requires.ready c.args.sort.now c.deref-in-Some.result.now c.in-Data.no c.in-Data.name (plain_datatype c.in-Some.datatype.now) (map plain_constructor c.as_slice.result.now) (c.deref-in-Some.ensures.value ∙ c.in-Ok.ensures)
    (sym c.head.ensures ∙ c.in-Data.is) (sym c.datatype_with.ensures ∙ ap (λ o. option_map plain_datatype (option_copied o)) c.in-Some.is) (ap (map plain_constructor) c.as_slice.ensures) c.requires.member

pub returns-in-Some-clause-settles : goal.returns-in-Some-clause-settles
returns-in-Some-clause-settles c =
    let group = map plain_datatype c.args.group.now in
    let ts = known (map plain_datatype c.args.defs.now.datatypes) group in
    let r = c.args.sort.now in
    let args = c.deref-in-Some.result.now in
    let unsettled = map tree c.args.unsettled.now in
    let same : args ≡ sorts.parts r = c.deref-in-Some.ensures.value ∙ c.in-Ok.ensures in
    let e = sym c.head.ensures ∙ c.in-Data.is in
    let found = sym c.datatype_with.ensures ∙ ap (λ o. option_map plain_datatype (option_copied o)) c.in-Some.is in
    let test : mentions group (tree r) ≡ true = sym c.mentions.ensures ∙ c.if-not-mentions.false in
    ok_same _ _ c.has_settled.result (λ b f. settles_iff ts group unsettled r _ args b test e same (data_iff ts group unsettled c.in-Data.no c.in-Data.name (plain_datatype c.in-Some.datatype.now) (map plain_constructor c.as_slice.result.now) (map tree args) b found (ap (map plain_constructor) c.as_slice.ensures) f))
    c.has_settled.ensures.some
