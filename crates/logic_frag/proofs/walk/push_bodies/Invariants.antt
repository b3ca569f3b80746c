use Rattle.std.proofs.Common.{◌≡◌, ◌++◌, drop, map}
use Rattle.term_store.specs.Command.{plain_def}
use Rattle.logic_frag.specs.Walk.{body_seen}
use Rattle.logic_frag.specs.SeenTerms.{occurrence}
use Rattle.logic_frag.proofs.walk.push_bodies.Given as goal

abbrev pub invariant-loop-def : goal.invariant-loop-def
invariant-loop-def l = map occurrence l.list.items ++ map body_seen (map plain_def (drop l.def-index l.defs)) ≡ map occurrence l.fn.list.items ++ map body_seen (map plain_def l.defs)
