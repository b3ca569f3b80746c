use Rattle.std.proofs.Common.{◌≡◌, ◌++◌, drop}
use Rattle.logic_frag.proofs.walk.copied_names.Given as goal

abbrev pub invariant-loop-var : goal.invariant-loop-var
invariant-loop-var l = l.names ++ (drop l.var-index l.vars) ≡ l.vars
