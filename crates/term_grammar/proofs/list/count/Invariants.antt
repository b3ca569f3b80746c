use Rattle.std.proofs.Common.{◌≡◌, ◌<◌, ◌^◌, length, ◌+◌}
use Rattle.term_grammar.specs.ListViews.{unsplit_list}
use Rattle.term_grammar.proofs.list.count.Given as goal

-- those that were counted and those that are left
abbrev pub invariant-loop-next : goal.invariant-loop-next
invariant-loop-next g l = record {
  all : l.count + length (unsplit_list g.L.PartList.parts l.next) ≡ length (g.L.PartList.parts l.list);
  few : length (g.L.PartList.parts l.list) < 2 ^ 32;
}

abbrev pub decreases-loop-next : goal.decreases-loop-next
decreases-loop-next g l = length (unsplit_list g.L.PartList.parts l.next)
