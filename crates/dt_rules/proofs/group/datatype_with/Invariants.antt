use Rattle.std.proofs.Common.{◌≡◌, ◌++◌, drop, map}
use Rattle.term_store.specs.Command.{plain_datatype}
use Rattle.dt_rules.specs.Groups.{known, numbered}
use Rattle.dt_rules.proofs.group.datatype_with.Given as goal

-- the datatypes that are left decide
abbrev pub invariant-loop-datatype : goal.invariant-loop-datatype
invariant-loop-datatype l =
    let kept = map plain_datatype l.defs.datatypes in numbered (map plain_datatype (drop l.datatype-index l.group) ++ kept) l.no.0 ≡ numbered (known kept (map plain_datatype l.group)) l.no.0
