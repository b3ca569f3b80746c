use Rattle.std.specs.Prelude.{◌↔◌, map}
use Rattle.logic_frag.specs.Following.{context_in}
use Rattle.logic_frag.specs.TermRules.{Breaks}
use Rattle.logic_frag.specs.SeenTerms.{occurrence}
use Rattle.logic_frag.specs.Walk.{HasAny, all_in}
use Rattle.logic_frag.proofs.Walking.{sizes}
use Rattle.logic_frag.proofs.broken.any_broken.Given as goal

abbrev pub invariant-loop-seen : goal.invariant-loop-seen
invariant-loop-seen l = HasAny (Breaks l.rule (context_in l.known)) (all_in (map occurrence l.pending.items)) ↔ HasAny (Breaks l.rule (context_in l.known)) (all_in (map occurrence l.fn.roots.items))

abbrev pub decreases-loop-seen : goal.decreases-loop-seen
decreases-loop-seen l = sizes (map occurrence l.pending.items)
