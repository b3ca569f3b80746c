use Rattle.std.proofs.Common.{◌≡◌, ◌++◌, length, map}
use Rattle.datatype_commands.proofs.live.sorts_of.Given as goal

-- the sorts so far, and those of the fields that are left, are those of all
abbrev pub invariant-loop-field : goal.invariant-loop-field
invariant-loop-field l = l.sorts ++ map (λ f. f.sort) l.left ≡ map (λ f. f.sort) l.fields

abbrev pub decreases-loop-field : goal.decreases-loop-field
decreases-loop-field l = length l.left
