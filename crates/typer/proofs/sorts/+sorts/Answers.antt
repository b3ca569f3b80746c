use Rattle.std.proofs.Common.{sym, ap, subst, arith, Ok}
use Rattle.std.proofs.lemmas.Result.{err_from_is_err_and}
use Rattle.sort_store.proofs.GrownStores.{grows_more, all_interned_push, all_interned_grown}
use Rattle.sort_store.specs.Interned.{AllInterned}
use Rattle.typer.proofs.SortSteps.{sizes, left, left_is, others_more, of_identifier, of_applied, turn_step, turn_fault, no_turn}
use Rattle.typer.proofs.SortsReady.{schema_of, schemas_of}
use Rattle.typer.proofs.sorts.+sorts.Goals as goal

pub type_sort-returns-in-Identifier-clause-schema : goal.type_sort-returns-in-Identifier-clause-schema
type_sort-returns-in-Identifier-clause-schema t c =
    schema_of c.args.world.now c.identifier_sort.new.world c.args.params.now c.args.raw c.identifier_sort.result c.requires.ready c.identifier_sort.ensures.others
    (of_identifier c.args.world.now c.args.params.now c.args.raw c.in-Identifier.identifier c.at-at.result c.identifier_sort.result c.in-Identifier.ensures c.at-at.ensures c.identifier_sort.ensures.answer)
    c.identifier_sort.ensures.interned

pub type_sort-returns-in_ok-args-in-Applied-clause-answer : goal.type_sort-returns-in_ok-args-in-Applied-clause-answer
type_sort-returns-in_ok-args-in-Applied-clause-answer t c =
    of_applied c.args.world.now c.type_sorts.new.world c.args.params.now c.args.raw c.in-Applied.identifier c.in-Applied.args c.at-at.result c.in_ok-args-in-Applied.args.items c.deref.result.now c.identifier_sort-in-Applied.result
    c.in-Applied.ensures c.at-at.ensures c.in_ok-args-in-Applied.ensures.others c.in_ok-args-in-Applied.ensures.answer c.deref.ensures.value c.identifier_sort-in-Applied.ensures.answer

pub type_sort-returns-in_ok-args-in-Applied-clause-schema : goal.type_sort-returns-in_ok-args-in-Applied-clause-schema
type_sort-returns-in_ok-args-in-Applied-clause-schema t c =
    schema_of c.args.world.now c.identifier_sort-in-Applied.new.world c.args.params.now c.args.raw c.identifier_sort-in-Applied.result c.requires.ready
    (others_more c.args.world.now c.type_sorts.new.world _ c.in_ok-args-in-Applied.ensures.others c.identifier_sort-in-Applied.ensures.others)
    (of_applied c.args.world.now c.type_sorts.new.world c.args.params.now c.args.raw c.in-Applied.identifier c.in-Applied.args c.at-at.result c.in_ok-args-in-Applied.args.items c.deref.result.now c.identifier_sort-in-Applied.result
    c.in-Applied.ensures c.at-at.ensures c.in_ok-args-in-Applied.ensures.others c.in_ok-args-in-Applied.ensures.answer c.deref.ensures.value c.identifier_sort-in-Applied.ensures.answer)
    c.identifier_sort-in-Applied.ensures.interned

pub type_sorts-type_sort-requires : goal.type_sorts-type_sort-requires
type_sorts-type_sort-requires t c = (omega (arith, c.decreases, c.loop-next.invariant.smaller, ap sizes (ap left c.in-Some.is)), c.loop-next.invariant.ready)

pub type_sorts-returns-in_err-sort-clause-answer : goal.type_sorts-returns-in_err-sort-clause-answer
type_sorts-returns-in_err-sort-clause-answer t c =
    let p = err_from_is_err_and c.from_residual.result c.from_residual.ensures.1 in rw (p.1, p.2) (
    turn_fault c.args.world.now c.loop-next.world c.loop-next.invariant.others c.args.params.now c.args.raws (left c.loop-next.next) c.in-Some.rest c.in-Some.first c.loop-next.sorts.items
    (ap left c.in-Some.is) c.loop-next.invariant.onward c.in_err-sort.field-0.0 c.in_err-sort.ensures.answer)

pub type_sorts-loop-next-preserved : goal.type_sorts-loop-next-preserved
type_sorts-loop-next-preserved t c =
    let rest = left_is _ _ c.split-next-in-Some.ensures in
    record {
      onward = turn_step c.args.world.now c.loop-next.world c.loop-next.invariant.others c.args.params.now c.args.raws (left c.loop-next.next) c.in-Some.rest c.in-Some.first c.loop-next.sorts.items
          (ap left c.in-Some.is) c.loop-next.invariant.onward c.split-next-in-Some.result _ c.in_ok-sort.sort c.split-next-in-Some.ensures c.in_ok-sort.ensures.answer c.in-Ok.ensures.items;
      interned = subst (AllInterned c.type_sort.new.world.sorts) (sym c.in-Ok.ensures.items)
          (all_interned_push _ _ _ (all_interned_grown c.loop-next.world.sorts _ _ c.in_ok-sort.ensures.grows c.loop-next.invariant.interned) c.in_ok-sort.ensures.schema.interned);
      grows = grows_more c.args.world.now.sorts c.loop-next.world.sorts _ c.loop-next.invariant.grows c.in_ok-sort.ensures.grows;
      others = others_more c.args.world.now c.loop-next.world _ c.loop-next.invariant.others c.in_ok-sort.ensures.others;
      ready = c.in_ok-sort.ensures.ready;
      smaller = omega (arith, c.loop-next.invariant.smaller, ap sizes (ap left c.in-Some.is), ap sizes rest);
    }

pub type_sorts-returns-clause-answer : goal.type_sorts-returns-clause-answer
type_sorts-returns-clause-answer t c = no_turn c.args.world.now c.args.params.now c.args.raws (left c.loop-next.next) c.loop-next.sorts.items (ap left c.in_default.is) c.loop-next.invariant.onward

pub type_sorts-returns-clause-schema : goal.type_sorts-returns-clause-schema
type_sorts-returns-clause-schema t c =
    schemas_of c.args.world.now c.loop-next.world c.args.params.now c.args.raws (Ok c.loop-next.sorts) c.requires.ready c.loop-next.invariant.others
    (no_turn c.args.world.now c.args.params.now c.args.raws (left c.loop-next.next) c.loop-next.sorts.items (ap left c.in_default.is) c.loop-next.invariant.onward) c.loop-next.invariant.interned
