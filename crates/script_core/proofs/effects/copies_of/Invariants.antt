use Rattle.std.proofs.Common.{◌≡◌, take}
use Rattle.script_core.proofs.effects.copies_of.Given as goal

-- the sorts so far are copied
abbrev pub invariant-loop-sort : goal.invariant-loop-sort
invariant-loop-sort l = l.list ≡ take l.sort-index l.items
