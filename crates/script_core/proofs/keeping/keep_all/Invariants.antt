use Rattle.std.proofs.Common.{◌≡◌, take}
use Rattle.script_core.specs.Keeping.{with_definitions}
use Rattle.script_core.proofs.keeping.keep_all.Given as goal

-- the definitions so far are kept
abbrev pub invariant-loop-def : goal.invariant-loop-def
invariant-loop-def l = l.script ≡ with_definitions l.fn.script (take l.def-index l.defs)
