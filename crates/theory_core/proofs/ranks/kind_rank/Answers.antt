use Rattle.theory_core.proofs.KindRanks.{answer_fits}
use Rattle.theory_core.proofs.ranks.kind_rank.Goals as goal

pub returns-then-fits : goal.returns-then-fits
returns-then-fits c = answer_fits c.args.kind c.in_ok-kind.kind _ _ c.in_ok-kind.was c.result.ensures (c.fits.ensures.0 c.if-fits.true)
