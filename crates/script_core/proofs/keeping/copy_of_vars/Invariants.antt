use Rattle.std.proofs.Common.{◌≡◌, take}
use Rattle.script_core.proofs.keeping.copy_of_vars.Given as goal

-- the variables so far are copied
abbrev pub invariant-loop-var : goal.invariant-loop-var
invariant-loop-var l = l.list ≡ take l.var-index l.vars
