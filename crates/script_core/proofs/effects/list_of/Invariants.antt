use Rattle.std.proofs.Common.{◌≡◌, ◌++◌}
use Rattle.script_core.proofs.effects.list_of.Given as goal

-- the list so far, and what is left, are the sorts
abbrev pub invariant-loop-sort : goal.invariant-loop-sort
invariant-loop-sort l = l.list ++ l.sort-iterator.rest.items ≡ l.fn.sorts.items
