use Rattle.std.proofs.Common.{rules, ◌≡◌, length}
use Rattle.sort_store.specs.declared.head.Head.TheVariants as head
use Rattle.sort_store.specs.Tree.{sort, no_sorts}
use Rattle.sort_store.proofs.MatchingLists.{fits_each_if}
use Rattle.sort_store.proofs.store.SortStore.fits_each.Goals as goal

pub returns-in-Ok-clause-fits : goal.returns-in-Ok-clause-fits
returns-in-Ok-clause-fits c =
    let same : length c.args.schemas.now ≡ length c.args.sorts.now = search rules in
    (fits_each_if (sort head.Bool no_sorts) c.in-Ok.yes c.args.binding.now c.fit_each.new.binding c.args.schemas.now c.args.sorts.now same c.in-Ok.ensures).0

pub returns-in-Ok-clause-fitted : goal.returns-in-Ok-clause-fitted
returns-in-Ok-clause-fitted c =
    let same : length c.args.schemas.now ≡ length c.args.sorts.now = search rules in
    (fits_each_if (sort head.Bool no_sorts) c.in-Ok.yes c.args.binding.now c.fit_each.new.binding c.args.schemas.now c.args.sorts.now same c.in-Ok.ensures).1
