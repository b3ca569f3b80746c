use Rattle.std.proofs.Common.{◌+◌, ◌++◌, ◌∷◌, [], ◌∙◌, Some, ap, arith, sym}
use Rattle.std.specs.Option.{option_copied}
use Rattle.typer.proofs.MatchSteps.{pair_all, pair_next, pair_none}
use Rattle.typer.proofs.patterns.variables_of.Goals as goal

pub loop-i-preserved : goal.loop-i-preserved
loop-i-preserved c =
    c.in-Ok.ensures.items ∙ ap (λ vs. vs ++ (c.index-names-i.result, c.in_ok-sort.sort) ∷ []) c.loop-i.invariant
    ∙ sym (pair_next c.args.names.now c.args.sorts.now c.loop-i.i (c.loop-i.i + 1) c.index-names-i.result c.in_ok-sort.sort (omega arith) c.loop-i-test.true c.index-names-i.is
    (sym c.sort_at.ensures ∙ ap option_copied c.in-Some.is ∙ ap (λ s. Some s) (sym c.in_ok-sort.ensures.ok)))

pub returns-in_default-clause-ok : goal.returns-in_default-clause-ok
returns-in_default-clause-ok c = c.loop-i.invariant ∙ pair_none c.args.names.now c.args.sorts.now c.loop-i.i (sym c.sort_at.ensures ∙ ap option_copied c.in_default.is)

pub returns-clause-ok : goal.returns-clause-ok
returns-clause-ok c = c.loop-i.invariant ∙ pair_all c.args.names.now c.args.sorts.now c.loop-i.i (omega (arith, c.loop-i-test.false))
