use Rattle.sort_store.specs.Tree.{tree}
use Rattle.sort_store.proofs.MatchingLaws.{fits_if}
use Rattle.sort_store.proofs.store.SortStore.fits.Goals as goal

pub returns-in-Ok-clause-fits : goal.returns-in-Ok-clause-fits
returns-in-Ok-clause-fits c = (fits_if c.in-Ok.yes c.args.binding.now c.fit.new.binding (tree c.args.schema.now) c.args.sort.now c.in-Ok.ensures).0
