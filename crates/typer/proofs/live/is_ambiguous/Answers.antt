use Rattle.std.proofs.Common.{sym, ◌∙◌, ap, map}
use Rattle.sort_store.specs.Tree.{tree, sorts}
use Rattle.typer.specs.LiveRanks.{occurs_in_some}
use Rattle.typer.proofs.Occurrences.{ambiguous_at}
use Rattle.typer.proofs.live.is_ambiguous.Goals as goal

pub returns-then-not-occurs_in_some : goal.returns-then-not-occurs_in_some
returns-then-not-occurs_in_some c = ambiguous_at c.loop-i.i c.args.entry.now.params (map tree c.args.entry.now.args) c.loop-i-test.true
    (ap (λ z. occurs_in_some c.loop-i.i (sorts (map tree z))) (sym c.as_slice.ensures) ∙ sym c.occurs_in_some.ensures ∙ c.if-not-occurs_in_some.true)
