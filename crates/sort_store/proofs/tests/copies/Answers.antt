use Rattle.std.proofs.Common.{[], ◌∷◌, length, arith, ap, sym, subst}
use Rattle.std.proofs.lemmas.List.{length-append}
use Rattle.sort_store.specs.Interned.{AllInterned}
use Rattle.sort_store.proofs.GrownStores.{all_interned_grown, all_interned_push}
use Rattle.sort_store.proofs.tests.copies.Goals as goal

pub loop-sort-preserved : goal.loop-sort-preserved
loop-sort-preserved c =
    let list = c.loop-sort.list in
    let new = c.copy.new.self in
    let r = c.in_ok-copy.copy in
    let old = all_interned_grown c.loop-sort.store new list c.in_ok-copy.ensures.grows c.loop-sort.invariant.0 in (
      subst (AllInterned new) (sym c.in_ok-push.ensures.ok) (all_interned_push new list r old c.in_ok-copy.ensures.interned),
      omega (arith, c.loop-sort.invariant.1, ap length c.in_ok-push.ensures.ok, length-append list (r ∷ [])),
    )
