-- No name is a symbol of two theories, and each theory gives a name with argument sorts one result sort.
use Rattle.std.proofs.Common.{refl}
use Rattle.sig_table.specs.declared.theories.Theories.{Theories}
use Rattle.sig_table.specs.Row.{codes_of}
use Rattle.sort_store.specs.CoreRanks.{core_symbols}
use Rattle.theory_core.specs.IntsRanks.{ints_symbols}
use Rattle.theory_core.specs.ArraysRanks.{arrays_symbols}
use Rattle.theory_core.specs.Kinds.{kind_of_codes, core_rows, ints_rows, arrays_rows}
use Rattle.theory_core.specs.TheorySymbols.{theory_symbols}
use Rattle.theory_core.specs.Laws.{AreApart, HaveOneResult}
use Rattle.theory_core.proofs.SymbolNames.{core_kind_of, ints_kind_of, arrays_kind_of}
use Rattle.theory_core.proofs.SymbolLaws.{apart_by_test, one_result}
use Rattle.theory_core.proofs.TheoryRanks.{theories_result}

pub core_ints : AreApart core_symbols ints_symbols
unfolding core_symbols ints_symbols
core_ints = apart_by_test core_symbols ints_symbols refl

pub core_arrays : AreApart core_symbols arrays_symbols
unfolding core_symbols arrays_symbols
core_arrays = apart_by_test core_symbols arrays_symbols refl

pub ints_arrays : AreApart ints_symbols arrays_symbols
unfolding ints_symbols arrays_symbols
ints_arrays = apart_by_test ints_symbols arrays_symbols refl

pub core_result : HaveOneResult core_symbols
core_result = one_result core_symbols (λ name. kind_of_codes (codes_of name core_rows)) core_kind_of

pub ints_result : HaveOneResult ints_symbols
ints_result = one_result ints_symbols (λ name. kind_of_codes (codes_of name ints_rows)) ints_kind_of

pub arrays_result : HaveOneResult arrays_symbols
arrays_result = one_result arrays_symbols (λ name. kind_of_codes (codes_of name arrays_rows)) arrays_kind_of

-- and so the theories of a logic together
pub rank_once : (theories : Theories) → HaveOneResult (theory_symbols theories)
rank_once = theories_result core_ints core_arrays ints_arrays core_result ints_result arrays_result
