use Rattle.std.proofs.Common.{◌≡◌, take}
use Rattle.script_core.specs.Keeping.{with_datatypes}
use Rattle.script_core.proofs.keeping.keep_group.Given as goal

-- the datatypes so far are kept
abbrev pub invariant-loop-datatype : goal.invariant-loop-datatype
invariant-loop-datatype l = l.script ≡ with_datatypes l.fn.script (take l.datatype-index l.group)
