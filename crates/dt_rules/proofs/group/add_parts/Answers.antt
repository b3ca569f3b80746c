use Rattle.std.proofs.Common.{◌≡◌, ap, sym, ◌∙◌, true, map}
use Rattle.std.specs.Option.{option_copied, option_map}
use Rattle.sort_store.specs.Tree.{tree}
use Rattle.sort_store.specs.Tree as sorts
use Rattle.term_store.specs.Command.{plain_constructor, plain_datatype}
use Rattle.dt_rules.specs.Groups.{known, mentions}
use Rattle.dt_rules.proofs.AddedParts.{array_adds, array_members, data_adds, data_members, data_params, parts_interned}
use Rattle.dt_rules.proofs.Gaining.{gains_same}
use Rattle.dt_rules.proofs.group.add_parts.Goals as goal

pub returns-in-Array-clause-gains : goal.returns-in-Array-clause-gains
returns-in-Array-clause-gains c = λ h.
    (let group = map plain_datatype c.args.group.now in
    let ts = known (map plain_datatype c.args.defs.now.datatypes) group in
    let r = c.args.sort.now in
    let args = c.deref.result.now in
    let same : args ≡ sorts.parts r = c.deref.ensures.value ∙ c.in-Ok.ensures in
    let e = sym c.head.ensures ∙ c.in-Array.is in
    let test : mentions group (tree r) ≡ true = sym c.mentions.ensures ∙ c.if-not-mentions.false in
    gains_same ts group _ _ c.add_each.result c.args.sorts.now c.args.list.now.items c.add_each.new.list.items (array_adds ts group r args same e)
    (c.add_each.ensures.gains ts group c.args.sorts.now h (parts_interned c.args.sorts.now r args same c.requires.interned) (array_members ts group r args same e test c.requires.member)))

pub add_constructor_sorts-requires-clause-args : goal.add_constructor_sorts-requires-clause-args
add_constructor_sorts-requires-clause-args c = parts_interned c.args.sorts.now c.args.sort.now c.deref-in-Some.result.now (c.deref-in-Some.ensures.value ∙ c.in-Ok.ensures) c.requires.interned

pub add_constructor_sorts-requires-clause-params : goal.add_constructor_sorts-requires-clause-params
add_constructor_sorts-requires-clause-params c =
    data_params (map plain_datatype c.args.defs.now.datatypes) (map plain_datatype c.args.group.now) c.requires.ready c.args.sort.now c.deref-in-Some.result.now c.in-Data.no c.in-Data.name (plain_datatype c.in-Some.datatype.now) (map plain_constructor c.as_slice.result.now) (c.deref-in-Some.ensures.value ∙ c.in-Ok.ensures)
    (sym c.head.ensures ∙ c.in-Data.is) (sym c.datatype_with.ensures ∙ ap (λ o. option_map plain_datatype (option_copied o)) c.in-Some.is) (ap (map plain_constructor) c.as_slice.ensures) c.requires.member

pub returns-in-Some-clause-gains : goal.returns-in-Some-clause-gains
returns-in-Some-clause-gains c = λ h.
    (let group = map plain_datatype c.args.group.now in
    let ts = known (map plain_datatype c.args.defs.now.datatypes) group in
    let r = c.args.sort.now in
    let args = c.deref-in-Some.result.now in
    let cs = map plain_constructor c.as_slice.result.now in
    let t = plain_datatype c.in-Some.datatype.now in
    let same : args ≡ sorts.parts r = c.deref-in-Some.ensures.value ∙ c.in-Ok.ensures in
    let e = sym c.head.ensures ∙ c.in-Data.is in
    let found = sym c.datatype_with.ensures ∙ ap (λ o. option_map plain_datatype (option_copied o)) c.in-Some.is in
    let test : mentions group (tree r) ≡ true = sym c.mentions.ensures ∙ c.if-not-mentions.false in
    gains_same ts group _ _ c.add_constructor_sorts.result c.add_constructor_sorts.new.sorts c.args.list.now.items c.add_constructor_sorts.new.list.items
    (data_adds ts group r args same c.in-Data.no c.in-Data.name t cs e found (ap (map plain_constructor) c.as_slice.ensures))
    (c.add_constructor_sorts.ensures.gains ts group h (data_members ts group r args same c.in-Data.no c.in-Data.name t cs e found (ap (map plain_constructor) c.as_slice.ensures) test c.requires.member)))
