use Rattle.std.proofs.Common.{◌==◌, ◌≡◌, true, ◌∙◌, ap, sym}
use Rattle.std.specs.List.{list_any}
use Rattle.dt_rules.specs.Answers.{symbols_left}
use Rattle.dt_rules.proofs.PatternSteps.{variable_repeated}
use Rattle.dt_rules.proofs.pattern.variables_of.Goals as goal

pub returns-then-is_repeated : goal.returns-then-is_repeated
returns-then-is_repeated c =
    let test : list_any (λ n. n == c.in-Some.first.name) c.loop-next.names ≡ true = ap (λ ns. list_any (λ n. n == c.in-Some.first.name) ns) (sym c.as_slice.ensures) ∙ sym c.if-is_repeated.ensures in
    rw c.fault.ensures (variable_repeated c.loop-next.names c.args.variables.now (symbols_left c.loop-next.next) c.in-Some.first c.in-Some.rest (ap symbols_left c.in-Some.is) test c.loop-next.invariant)
