use Rattle.std.proofs.Common.{◌≡◌, map, take}
use Rattle.script_core.proofs.definitions.sorts_of.Given as goal

-- the sorts of the variables so far are copied
abbrev pub invariant-loop-var : goal.invariant-loop-var
invariant-loop-var l = l.list ≡ map (λ v. v.1) (take l.var-index l.vars)
