use Rattle.std.proofs.Common.{◌+◌, ◌<◌}
use Rattle.logic_frag.specs.Following.{context_in, plain_defs}
use Rattle.logic_frag.specs.SeenTerms.{occurrence}
use Rattle.logic_frag.specs.StandsFor.{StandsFor}
use Rattle.logic_frag.specs.Weights.{bodies_size, measure, weight}
use Rattle.logic_frag.proofs.follow.resolve.Given as goal

abbrev pub invariant-links : goal.invariant-links
invariant-links l = record {
  stands : StandsFor (context_in l.known) (occurrence l.fn.seen) (occurrence l.last);
  bounded : weight (occurrence l.last) < weight (occurrence l.fn.seen) + bodies_size (plain_defs l.known.defs.now) + 1;
}

abbrev pub decreases-links : goal.decreases-links
decreases-links l = measure (weight (occurrence l.fn.seen) + bodies_size (plain_defs l.known.defs.now) + 1) (occurrence l.last)
