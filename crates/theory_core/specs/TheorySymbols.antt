-- The function symbols that Core, Ints and ArraysEx give a logic, and how their names are written.
use Rattle.std.specs.Prelude.{ℕ, not, if◌then◌else◌, List, [], ◌++◌, Option, Some, None, codes, bytes_eq}
use Rattle.sig_table.specs.declared.theories.Theories.{Theories}
use Rattle.sig_table.specs.declared.theories.NameForm.{NameForm}
use Rattle.sig_table.specs.declared.theories.NameForm.TheVariants.{Plain, Indexed}
use Rattle.sort_store.specs.Ranks.{RankedSymbol, is_symbol}
use Rattle.sort_store.specs.CoreRanks.{core_symbols}
use Rattle.theory_core.specs.IntsRanks.{ints_symbols}
use Rattle.theory_core.specs.ArraysRanks.{arrays_symbols}

-- Core is in each logic
abbrev pub theory_symbols : Theories → List RankedSymbol
theory_symbols theories = core_symbols ++ (if theories.ints then ints_symbols else []) ++ (if theories.arrays then arrays_symbols else [])

-- `divisible` is written with an index, as `(_ divisible n)`, and each other symbol without
abbrev pub form_of : Theories → List ℕ → Option NameForm
form_of theories name =
    if not (is_symbol name (theory_symbols theories)) then None
    else if bytes_eq name (codes "divisible") then Some Indexed
    else Some Plain
