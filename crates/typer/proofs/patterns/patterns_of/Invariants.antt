use Rattle.std.proofs.Common.{◌≡◌, map, take}
use Rattle.term_store.specs.declared.parts.Pattern.{Pattern}
use Rattle.term_store.specs.Term.{NumberedTerm}
use Rattle.typer.proofs.patterns.patterns_of.Given as goal

-- the patterns so far
abbrev pub invariant-loop-case : goal.invariant-loop-case
invariant-loop-case l = l.patterns.items ≡ map (λ (c : Pattern × NumberedTerm). c.0) (take l.case-index l.cases)
