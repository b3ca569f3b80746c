use Rattle.std.proofs.Common.{◌≡◌, ◌++◌, map, take}
use Rattle.lex_core.specs.declared.token.Tok.{Tok}
use Rattle.typer.proofs.head.with_indices.Given as goal

-- the symbol with the indices so far
abbrev pub invariant-loop-index : goal.invariant-loop-index
invariant-loop-index l = record {
  symbol : l.symbol.applied ≡ record l.fn.symbol.applied { indices = l.fn.symbol.applied.indices ++ map (λ (i : Tok). i.name) (take l.index-index l.indices) };
  sort : l.symbol.sort ≡ l.fn.symbol.sort;
}
