use Rattle.std.proofs.Common.{◌≡◌, false, take}
use Rattle.std.specs.List.{list_any}
use Rattle.typer.specs.SortSymbols.{is_text}
use Rattle.typer.proofs.symbol.has_text.Given as goal

-- none of the names so far has the text
abbrev pub invariant-loop-name : goal.invariant-loop-name
invariant-loop-name l = list_any (is_text l.names l.text) (take l.name-index l.some) ≡ false
