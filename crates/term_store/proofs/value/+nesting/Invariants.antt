use Rattle.std.proofs.Common.{◌≡◌, ◌+◌, ◌*◌, ◌≤◌, max}
use Rattle.sexp_core.specs.Items.{size, size_all}
use Rattle.sexp_core.specs.Parts.{whole, unsplit}
use Rattle.sexp_core.specs.Sexp.{count_of}
use Rattle.term_store.specs.Depth.{saturated, nesting_all}
use Rattle.term_store.proofs.value.+nesting.Given as goal

abbrev pub invariant-depth_of_parts-loop-next : goal.invariant-depth_of_parts-loop-next
invariant-depth_of_parts-loop-next l = record {
  depths : saturated (max l.deep (nesting_all (unsplit l.next))) ≡ saturated (nesting_all l.parts);
  small : l.deep ≤ 4294967295;
  smaller : size_all (unsplit l.next) ≤ size_all l.parts;
}

abbrev pub decreases-depth_of_parts-loop-next : goal.decreases-depth_of_parts-loop-next
decreases-depth_of_parts-loop-next l = count_of (unsplit l.next)

abbrev pub decreases-depth_of_part : goal.decreases-depth_of_part
decreases-depth_of_part l = 2 * size (whole l.part.now)

abbrev pub decreases-depth_of_parts : goal.decreases-depth_of_parts
decreases-depth_of_parts l = 2 * size_all l.parts.now + 1
