use Rattle.std.proofs.Common.{◌≡◌, ◌++◌, map, take}
use Rattle.term_store.specs.Command.{PlainDef, plain_def}
use Rattle.logic_frag.proofs.broken.push_numbers.Given as goal

abbrev pub invariant-loop-def : goal.invariant-loop-def
invariant-loop-def l = l.own.items ≡ l.fn.own.items ++ map (λ (d : PlainDef). d.no) (map plain_def (take l.def-index l.defs))
