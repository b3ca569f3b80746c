use Rattle.std.proofs.Common.{◌≡◌, take}
use Rattle.script_core.proofs.keeping.copy_of_names.Given as goal

-- the names so far are copied
abbrev pub invariant-loop-name : goal.invariant-loop-name
invariant-loop-name l = l.list ≡ take l.name-index l.names
