use Rattle.std.proofs.Common.{◌≡◌, take}
use Rattle.script_core.proofs.keeping.copy_of_fields.Given as goal

-- the fields so far are copied
abbrev pub invariant-loop-field : goal.invariant-loop-field
invariant-loop-field l = l.list ≡ take l.field-index l.fields
