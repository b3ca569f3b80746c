use Rattle.std.proofs.Common.{◌≡◌, length, slice_get}
use Rattle.term_grammar.specs.ListViews.{unsplit_list}
use Rattle.term_grammar.proofs.list.nth.Given as goal

-- the part is among those that are left
abbrev pub invariant-loop-next : goal.invariant-loop-next
invariant-loop-next g l = slice_get (g.L.PartList.parts l.list) l.index ≡ slice_get (unsplit_list g.L.PartList.parts l.next) l.before

abbrev pub decreases-loop-next : goal.decreases-loop-next
decreases-loop-next g l = length (unsplit_list g.L.PartList.parts l.next)
