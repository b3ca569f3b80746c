use Rattle.std.proofs.Common.{◌≡◌, ◌+◌, ◌<◌, ◌^◌}
use Rattle.sexp_core.specs.Sexp.{count_of}
use Rattle.sexp_core.specs.Parts.{unsplit}
use Rattle.sexp_core.proofs.parts.Trees.len.Given as goal

-- Those that were counted and those that are left are all.
abbrev pub invariant-loop-next : goal.invariant-loop-next
invariant-loop-next l = record { all : l.count + count_of (unsplit l.next) ≡ count_of l.self; few : count_of l.self < 2 ^ 32 }

abbrev pub decreases-loop-next : goal.decreases-loop-next
decreases-loop-next l = count_of (unsplit l.next)
