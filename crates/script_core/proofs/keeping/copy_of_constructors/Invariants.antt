use Rattle.std.proofs.Common.{◌≡◌, take}
use Rattle.script_core.proofs.keeping.copy_of_constructors.Given as goal

-- the constructors so far are copied
abbrev pub invariant-loop-constructor : goal.invariant-loop-constructor
invariant-loop-constructor l = l.list ≡ take l.constructor-index l.constructors
