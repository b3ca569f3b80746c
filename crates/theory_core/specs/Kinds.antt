-- The kinds of function symbols: the symbols of a kind have the same ranks. These definitions are the program's own.
-- The clauses on the kind of a name tie them to the theories' declarations.
use Rattle.std.specs.Prelude.{◌≡◌, ℕ, ◌≤◌, ◌==◌, if◌then◌else◌, List, [], ◌∷◌, length, Option, Some, None, codes}
use Rattle.sig_table.specs.Row.{Row}
use Rattle.sort_store.specs.Tree.{Sort}
use Rattle.sort_store.specs.Ranks.{left_assoc, right_assoc, chainable, pairwise, each, many, Arguments, Rank, param}
use Rattle.sort_store.specs.CoreRanks.{bool}
use Rattle.theory_core.specs.declared.kind.SymbolKind.{SymbolKind}
use Rattle.theory_core.specs.declared.kind.SymbolKind.TheVariants as kind
use Rattle.theory_core.specs.declared.rank_found.RankFound.{RankFound}
use Rattle.theory_core.specs.declared.rank_found.RankFound.TheVariants as found
use Rattle.theory_core.specs.IntsRanks.{int}
use Rattle.theory_core.specs.ArraysRanks.{array}
use Rattle.theory_core.specs.Arguments.{AllAre, AllSame}

abbrev rank : Arguments → Sort → Rank
rank arguments result = record { arguments = arguments; result = result }

-- the ranks of each symbol of the kind
abbrev pub ranks_at : SymbolKind → List Rank
ranks_at kind.TruthValue = rank (each []) bool ∷ []
ranks_at kind.Negation = rank (each (bool ∷ [])) bool ∷ []
ranks_at kind.Implication = rank (many right_assoc bool) bool ∷ []
ranks_at kind.Connective = rank (many left_assoc bool) bool ∷ []
ranks_at kind.Equality = rank (many chainable (param 0)) bool ∷ []
ranks_at kind.Distinctness = rank (many pairwise (param 0)) bool ∷ []
ranks_at kind.Conditional = rank (each (bool ∷ param 0 ∷ param 0 ∷ [])) (param 0) ∷ []
ranks_at kind.Minus = rank (each (int ∷ [])) int ∷ rank (many left_assoc int) int ∷ []
ranks_at kind.Arithmetic = rank (many left_assoc int) int ∷ []
ranks_at kind.Modulus = rank (each (int ∷ int ∷ [])) int ∷ []
ranks_at kind.AbsoluteValue = rank (each (int ∷ [])) int ∷ []
ranks_at kind.Order = rank (many chainable int) bool ∷ []
ranks_at kind.Divisibility = rank (each (int ∷ [])) bool ∷ []
ranks_at kind.Select = rank (each (array (param 0) (param 1) ∷ param 0 ∷ [])) (param 1) ∷ []
ranks_at kind.Store = rank (each (array (param 0) (param 1) ∷ param 0 ∷ param 1 ∷ [])) (array (param 0) (param 1)) ∷ []

-- the argument sorts that the symbols of the kind take
abbrev pub Fits : SymbolKind → List Sort → Type 0
Fits kind.TruthValue args = length args ≡ 0
Fits kind.Negation args = (length args ≡ 1) × AllAre bool args
Fits kind.Implication args = (2 ≤ length args) × AllAre bool args
Fits kind.Connective args = (2 ≤ length args) × AllAre bool args
Fits kind.Equality args = (2 ≤ length args) × AllSame args
Fits kind.Distinctness args = (2 ≤ length args) × AllSame args
Fits kind.Conditional args = (s : Sort) × (args ≡ bool ∷ s ∷ s ∷ [])
Fits kind.Minus args = (1 ≤ length args) × AllAre int args
Fits kind.Arithmetic args = (2 ≤ length args) × AllAre int args
Fits kind.Modulus args = (length args ≡ 2) × AllAre int args
Fits kind.AbsoluteValue args = (length args ≡ 1) × AllAre int args
Fits kind.Order args = (2 ≤ length args) × AllAre int args
Fits kind.Divisibility args = (length args ≡ 1) × AllAre int args
Fits kind.Select args = (index : Sort) × (element : Sort) × (args ≡ array index element ∷ index ∷ [])
Fits kind.Store args = (index : Sort) × (element : Sort) × (args ≡ array index element ∷ index ∷ element ∷ [])

-- how the result sort is told
abbrev pub found_at : SymbolKind → RankFound
found_at kind.TruthValue = found.Bool
found_at kind.Negation = found.Bool
found_at kind.Implication = found.Bool
found_at kind.Connective = found.Bool
found_at kind.Equality = found.Bool
found_at kind.Distinctness = found.Bool
found_at kind.Conditional = found.Arg 1
found_at kind.Minus = found.Int
found_at kind.Arithmetic = found.Int
found_at kind.Modulus = found.Int
found_at kind.AbsoluteValue = found.Int
found_at kind.Order = found.Bool
found_at kind.Divisibility = found.Bool
found_at kind.Select = found.Element 0
found_at kind.Store = found.Arg 0

-- the number of a kind, by its place in the enum, and the kind of a number
abbrev pub number_of : SymbolKind → ℕ
number_of kind.TruthValue = 0
number_of kind.Negation = 1
number_of kind.Implication = 2
number_of kind.Connective = 3
number_of kind.Equality = 4
number_of kind.Distinctness = 5
number_of kind.Conditional = 6
number_of kind.Minus = 7
number_of kind.Arithmetic = 8
number_of kind.Modulus = 9
number_of kind.AbsoluteValue = 10
number_of kind.Order = 11
number_of kind.Divisibility = 12
number_of kind.Select = 13
number_of kind.Store = 14

abbrev pub kind_at : ℕ → SymbolKind
kind_at n =
    if n == 0 then kind.TruthValue
    else if n == 1 then kind.Negation
    else if n == 2 then kind.Implication
    else if n == 3 then kind.Connective
    else if n == 4 then kind.Equality
    else if n == 5 then kind.Distinctness
    else if n == 6 then kind.Conditional
    else if n == 7 then kind.Minus
    else if n == 8 then kind.Arithmetic
    else if n == 9 then kind.Modulus
    else if n == 10 then kind.AbsoluteValue
    else if n == 11 then kind.Order
    else if n == 12 then kind.Divisibility
    else if n == 13 then kind.Select
    else kind.Store

-- the kind of the codes that a table has for a name: one or none
abbrev pub kind_of_codes : List ℕ → Option SymbolKind
kind_of_codes [] = None
kind_of_codes (code ∷ codes) = Some (kind_at code)

-- the ranks of the kind, if there is one
abbrev pub ranks_of_kind : Option SymbolKind → List Rank
ranks_of_kind None = []
ranks_of_kind (Some k) = ranks_at k

-- the rows of the tables, ascending by the bytes of their names
abbrev row : List ℕ → SymbolKind → Row
row name k = record { name = name; code = number_of k }

abbrev pub core_rows : List Row
core_rows =
    row (codes "=") kind.Equality ∷
    row (codes "=>") kind.Implication ∷
    row (codes "and") kind.Connective ∷
    row (codes "distinct") kind.Distinctness ∷
    row (codes "false") kind.TruthValue ∷
    row (codes "ite") kind.Conditional ∷
    row (codes "not") kind.Negation ∷
    row (codes "or") kind.Connective ∷
    row (codes "true") kind.TruthValue ∷
    row (codes "xor") kind.Connective ∷ []

abbrev pub ints_rows : List Row
ints_rows =
    row (codes "*") kind.Arithmetic ∷
    row (codes "+") kind.Arithmetic ∷
    row (codes "-") kind.Minus ∷
    row (codes "<") kind.Order ∷
    row (codes "<=") kind.Order ∷
    row (codes ">") kind.Order ∷
    row (codes ">=") kind.Order ∷
    row (codes "abs") kind.AbsoluteValue ∷
    row (codes "div") kind.Arithmetic ∷
    row (codes "divisible") kind.Divisibility ∷
    row (codes "mod") kind.Modulus ∷ []

abbrev pub arrays_rows : List Row
arrays_rows =
    row (codes "select") kind.Select ∷
    row (codes "store") kind.Store ∷ []
