use Rattle.std.proofs.Common.{◌≡◌, drop}
use Rattle.std.specs.Option.{option_copied}
use Rattle.typer.specs.SortSymbols.{or_else}
use Rattle.typer.specs.TermRules.{bound}
use Rattle.typer.proofs.terms.bound.Given as goal

-- the variables that are left come after what was found
abbrev pub invariant-loop-var : goal.invariant-loop-var
invariant-loop-var l = or_else (bound (drop l.var-index l.vars) l.name) (option_copied l.found) ≡ bound l.vars l.name
