use Rattle.std.proofs.Common.{map, length, subst, arith}
use Rattle.std.proofs.lemmas.List.{length-map}
use Rattle.std.specs.Prelude.{IfSome, IfNone}
use Rattle.sort_store.specs.Tree.{tree}
use Rattle.term_store.specs.Command.{plain_datatype}
use Rattle.dt_rules.specs.Groups.{known}
use Rattle.dt_rules.specs.Judgement.{IsFirstListed, NoneListed}
use Rattle.dt_rules.proofs.UnsettledLists.{all_settled, first_unsettled, not_wide}
use Rattle.dt_rules.proofs.check.check_group.Goals as goal

pub returns-in-Ok-None-clause-answer : goal.returns-in-Ok-None-clause-answer
returns-in-Ok-None-clause-answer c =
    let group = map plain_datatype c.args.group.now in
    let ts = known (map plain_datatype c.args.defs.now.datatypes) group in
    let none = subst (λ o. IfNone o (NoneListed group (map tree c.deref.result.now) (length c.args.group.now))) c.in-Ok-None.field-0-is c.in-Ok-None.ensures.none in
    let none_unsettled = subst (λ z. NoneListed group (map tree z) (length c.args.group.now)) c.deref.ensures.value none in record {
      narrow = not_wide ts group c.unfold.new.sorts c.in-Ok.members.items c.in-Ok.ensures.unfolds;
      settled = all_settled ts group (map tree c.in-Ok-settle.unsettled.items) c.in-Ok-settle.ensures.unsettled (length c.args.group.now) (omega (arith, length-map c.args.group.now plain_datatype)) none_unsettled;
    }

pub returns-in-Ok-Some-clause-answer : goal.returns-in-Ok-Some-clause-answer
returns-in-Ok-Some-clause-answer c =
    let group = map plain_datatype c.args.group.now in
    let ts = known (map plain_datatype c.args.defs.now.datatypes) group in
    let found = subst (λ o. IfSome o (IsFirstListed group (map tree c.deref.result.now))) c.in-Ok-Some.field-0-is c.in-Ok-Some.ensures.found in
    let found_unsettled = subst (λ z. IsFirstListed group (map tree z) c.in-Ok-Some.i) c.deref.ensures.value found in record {
      narrow = not_wide ts group c.unfold.new.sorts c.in-Ok.members.items c.in-Ok.ensures.unfolds;
      first = first_unsettled ts group (map tree c.in-Ok-settle.unsettled.items) c.in-Ok-settle.ensures.unsettled c.in-Ok-Some.i found_unsettled;
    }
