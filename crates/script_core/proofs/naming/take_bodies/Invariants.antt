use Rattle.std.proofs.Common.{◌≡◌, ◌++◌, drop, map}
use Rattle.term_store.specs.Command.{PlainDef, plain_def}
use Rattle.term_store.specs.Declarations.{names_in_all}
use Rattle.script_core.specs.Keeping.{defined_in}
use Rattle.script_core.proofs.naming.take_bodies.Given as goal

-- what was found so far, with what is named in the bodies that are left, is named in all
abbrev pub invariant-loop-def : goal.invariant-loop-def
invariant-loop-def l = map plain_def l.named.items ++ defined_in (names_in_all (map (λ (d : PlainDef). d.body) (map plain_def (drop l.def-index l.defs))))
    ≡ map plain_def l.fn.named.items ++ defined_in (names_in_all (map (λ (d : PlainDef). d.body) (map plain_def l.defs)))
