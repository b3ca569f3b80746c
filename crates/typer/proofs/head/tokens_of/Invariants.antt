use Rattle.std.proofs.Common.{◌≡◌, ◌++◌, length}
use Rattle.typer.proofs.IndexLists.{tokens_left}
use Rattle.typer.proofs.head.tokens_of.Given as goal

-- the tokens so far and those that are left are the tokens
abbrev pub invariant-loop-next : goal.invariant-loop-next
invariant-loop-next l = l.toks.items ++ tokens_left l.next ≡ l.indices

abbrev pub decreases-loop-next : goal.decreases-loop-next
decreases-loop-next l = length (tokens_left l.next)
