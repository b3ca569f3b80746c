-- The kinds of the tables stand for the ranks of the theories' declarations, name by name.
use Rattle.std.proofs.Common.{◌≡◌, ℕ, Bool, true, false, ◌||◌, ◌&&◌, List, [], ◌∷◌, ◌++◌, Option, Some, None, is_some, refl, ap, sym, subst, ◌∙◌, inl, inr, if◌then◌else◌, bytes_eq}
use Rattle.std.specs.List.{list_any, list_all}
use Rattle.std.specs.Cmp.{first_so, second_so}
use Rattle.std.proofs.lemmas.Bool.{cases_Bool}
use Rattle.std.proofs.lemmas.Slice.Eq.{bytes_eq-Decides}
use Rattle.sig_table.specs.declared.theories.Theories.{Theories}
use Rattle.sig_table.specs.Row.{Row, codes_of, listed}
use Rattle.sort_store.specs.Ranks.{Rank, RankedSymbol, is_symbol, ranks_of}
use Rattle.sort_store.specs.CoreRanks.{core_symbols}
use Rattle.theory_core.specs.declared.kind.SymbolKind.{SymbolKind}
use Rattle.theory_core.specs.declared.kind.SymbolKind.TheVariants as kind
use Rattle.theory_core.specs.IntsRanks.{ints_symbols}
use Rattle.theory_core.specs.ArraysRanks.{arrays_symbols}
use Rattle.theory_core.specs.TheorySymbols.{theory_symbols}
use Rattle.theory_core.specs.Kinds.{kind_at, kind_of_codes, ranks_at, ranks_of_kind, core_rows, ints_rows, arrays_rows}

-- at the name of each row the symbols have the ranks of the row's kind
abbrev pub Agree : List RankedSymbol → List Row → Type 0
Agree symbols [] = Unit {0}
Agree symbols (r ∷ rows) = (ranks_of r.name symbols ≡ ranks_at (kind_at r.code)) × Agree symbols rows

abbrev pub is_row : List ℕ → List Row → Bool
is_row name rows = list_any (λ r. bytes_eq r.name name) rows

-- each symbol has a row
abbrev pub are_listed : List RankedSymbol → List Row → Bool
are_listed symbols rows = list_all (λ s. is_row s.name rows) symbols

same_name : (a b : List ℕ) → bytes_eq a b ≡ true → a ≡ b
same_name a b e = (bytes_eq-Decides a b).0 e

-- a test of a list whose first element passes or fails
or_true : (a b : Bool) → a ≡ true → a || b ≡ false → ⊥
or_true a b p q = let t : true ≡ false = sym (ap (λ c. c || b) p) ∙ q in cc

or_false : (a b c : Bool) → a ≡ false → a || b ≡ c → b ≡ c
or_false a b c p q = sym (ap (λ d. d || b) p) ∙ q

pub no_ranks : (name : List ℕ) (symbols : List RankedSymbol) → is_symbol name symbols ≡ false → ranks_of name symbols ≡ []
no_ranks name [] e = refl
no_ranks name (s ∷ symbols) e = elim (cases_Bool (bytes_eq s.name name)) [
  | inl same ↦ absurd (or_true (bytes_eq s.name name) (is_symbol name symbols) same e)
  | inr other ↦ rw other (no_ranks name symbols (or_false (bytes_eq s.name name) (is_symbol name symbols) false other e))
]

-- what a test says of the name of each symbol it says of a name that is a symbol
pub at_symbol : (test : List ℕ → Bool) (symbols : List RankedSymbol) (name : List ℕ) → list_all (λ s. test s.name) symbols ≡ true → is_symbol name symbols ≡ true → test name ≡ true
at_symbol test [] name all e = cc
at_symbol test (s ∷ symbols) name all e = elim (cases_Bool (bytes_eq s.name name)) [
  | inl same ↦ subst (λ n. test n ≡ true) (same_name s.name name same) (first_so (test s.name) (list_all (λ s. test s.name) symbols) all)
  | inr other ↦ at_symbol test symbols name (second_so (test s.name) (list_all (λ s. test s.name) symbols) all) (or_false (bytes_eq s.name name) (is_symbol name symbols) true other e)
]

-- a name that has no row is no symbol
not_listed : (name : List ℕ) (symbols : List RankedSymbol) (rows : List Row) → are_listed symbols rows ≡ true → is_row name rows ≡ false → is_symbol name symbols ≡ false
not_listed name symbols rows all none = elim (cases_Bool (is_symbol name symbols)) [
  | inl is ↦ (let t : is_row name rows ≡ true = at_symbol (λ n. is_row n rows) symbols name all is in cc)
  | inr other ↦ other
]

-- the kind that a table gives for the name
kind_found : (name : List ℕ) (symbols : List RankedSymbol) (rows : List Row) → Agree symbols rows → (is_row name rows ≡ false → ranks_of name symbols ≡ []) → ranks_of name symbols ≡ ranks_of_kind (kind_of_codes (codes_of name rows))
kind_found name symbols [] a none = none refl
kind_found name symbols (r ∷ rows) a none = elim (cases_Bool (bytes_eq r.name name)) [
  | inl same ↦ rw same (ap (λ n. ranks_of n symbols) (sym (same_name r.name name same)) ∙ a.0)
  | inr other ↦ rw other (kind_found name symbols rows a.1 (λ e. none (ap (λ b. b || is_row name rows) other ∙ e)))
]

named_kind : (name : List ℕ) (symbols : List RankedSymbol) (rows : List Row) → Agree symbols rows → are_listed symbols rows ≡ true → ranks_of name symbols ≡ ranks_of_kind (kind_of_codes (codes_of name rows))
named_kind name symbols rows a all = kind_found name symbols rows a (λ none. no_ranks name symbols (not_listed name symbols rows all none))

core_agrees : Agree core_symbols core_rows
unfolding core_symbols
core_agrees = (refl, (refl, (refl, (refl, (refl, (refl, (refl, (refl, (refl, (refl, tt))))))))))

ints_agree : Agree ints_symbols ints_rows
unfolding ints_symbols
ints_agree = (refl, (refl, (refl, (refl, (refl, (refl, (refl, (refl, (refl, (refl, (refl, tt)))))))))))

arrays_agree : Agree arrays_symbols arrays_rows
unfolding arrays_symbols
arrays_agree = (refl, (refl, tt))

pub core_kind_of : (name : List ℕ) → ranks_of name core_symbols ≡ ranks_of_kind (kind_of_codes (codes_of name core_rows))
unfolding core_symbols
core_kind_of name = named_kind name core_symbols core_rows core_agrees refl

pub ints_kind_of : (name : List ℕ) → ranks_of name ints_symbols ≡ ranks_of_kind (kind_of_codes (codes_of name ints_rows))
unfolding ints_symbols
ints_kind_of name = named_kind name ints_symbols ints_rows ints_agree refl

pub arrays_kind_of : (name : List ℕ) → ranks_of name arrays_symbols ≡ ranks_of_kind (kind_of_codes (codes_of name arrays_rows))
unfolding arrays_symbols
arrays_kind_of name = named_kind name arrays_symbols arrays_rows arrays_agree refl

-- as the code has it
pub core_kind_found : (name : List ℕ) (table : List Row) (k : Option SymbolKind) → table ≡ core_rows → k ≡ kind_of_codes (codes_of name table) → ranks_of name core_symbols ≡ ranks_of_kind k
core_kind_found name table k t e = core_kind_of name ∙ sym (ap ranks_of_kind (e ∙ ap (λ rows. kind_of_codes (codes_of name rows)) t))

pub ints_kind_found : (name : List ℕ) (table : List Row) (k : Option SymbolKind) → table ≡ ints_rows → k ≡ kind_of_codes (codes_of name table) → ranks_of name ints_symbols ≡ ranks_of_kind k
ints_kind_found name table k t e = ints_kind_of name ∙ sym (ap ranks_of_kind (e ∙ ap (λ rows. kind_of_codes (codes_of name rows)) t))

pub arrays_kind_found : (name : List ℕ) (table : List Row) (k : Option SymbolKind) → table ≡ arrays_rows → k ≡ kind_of_codes (codes_of name table) → ranks_of name arrays_symbols ≡ ranks_of_kind k
arrays_kind_found name table k t e = arrays_kind_of name ∙ sym (ap ranks_of_kind (e ∙ ap (λ rows. kind_of_codes (codes_of name rows)) t))

pub listed_kind : (codes : List ℕ) (code : ℕ) (k : SymbolKind) → codes ≡ listed (Some code) → k ≡ kind_at code → Some k ≡ kind_of_codes codes
listed_kind codes code k e f = ap Some f ∙ sym (ap kind_of_codes e)

pub listed_none : (codes : List ℕ) → codes ≡ listed None → None ≡ kind_of_codes codes
listed_none codes e = sym (ap kind_of_codes e)

pub ruleset listed_words = (listed_kind, listed_none)

-- a kind is found exactly where the name is a symbol
abbrev is_empty : List Rank → Bool
is_empty [] = true
is_empty (r ∷ rs) = false

has_ranks : (k : SymbolKind) → is_empty (ranks_at k) ≡ false
has_ranks kind.TruthValue = refl
has_ranks kind.Negation = refl
has_ranks kind.Implication = refl
has_ranks kind.Connective = refl
has_ranks kind.Equality = refl
has_ranks kind.Distinctness = refl
has_ranks kind.Conditional = refl
has_ranks kind.Minus = refl
has_ranks kind.Arithmetic = refl
has_ranks kind.Modulus = refl
has_ranks kind.AbsoluteValue = refl
has_ranks kind.Order = refl
has_ranks kind.Divisibility = refl
has_ranks kind.Select = refl
has_ranks kind.Store = refl

no_symbol : (name : List ℕ) (symbols : List RankedSymbol) → ranks_of name symbols ≡ [] → is_symbol name symbols ≡ false
no_symbol name [] e = refl
no_symbol name (s ∷ symbols) e = elim (cases_Bool (bytes_eq s.name name)) [
  | inl same ↦ (let ranks : s.rank ∷ ranks_of name symbols ≡ [] = rw same at e in cc)
  | inr other ↦ (let ranks : ranks_of name symbols ≡ [] = rw other at e in ap (λ b. b || is_symbol name symbols) other ∙ no_symbol name symbols ranks)
]

pub kind_named : (name : List ℕ) (symbols : List RankedSymbol) (k : Option SymbolKind) → ranks_of name symbols ≡ ranks_of_kind k → is_symbol name symbols ≡ is_some k
kind_named name symbols None e = no_symbol name symbols e
kind_named name symbols (Some k) e = elim (cases_Bool (is_symbol name symbols)) [
  | inl is ↦ is
  | inr other ↦ (let none : is_empty (ranks_at k) ≡ true = ap is_empty (sym e ∙ no_ranks name symbols other) in let some = has_ranks k in cc)
]

-- the symbols of several theories
pub is_symbol-append : (name : List ℕ) (symbols others : List RankedSymbol) → is_symbol name (symbols ++ others) ≡ (is_symbol name symbols || is_symbol name others)
is_symbol-append name [] others = refl
is_symbol-append name (s ∷ symbols) others = elim (cases_Bool (bytes_eq s.name name)) [
  | inl same ↦ rw same refl
  | inr other ↦ rw other (is_symbol-append name symbols others)
]

is_symbol-if : (name : List ℕ) (b : Bool) (symbols : List RankedSymbol) → is_symbol name (if b then symbols else []) ≡ (b && is_symbol name symbols)
is_symbol-if name true symbols = refl
is_symbol-if name false symbols = refl

pub is_theory_symbol : (theories : Theories) (name : List ℕ)
    → is_symbol name (theory_symbols theories) ≡ ((is_symbol name core_symbols || (theories.ints && is_symbol name ints_symbols)) || (theories.arrays && is_symbol name arrays_symbols))
is_theory_symbol theories name =
    let ints = if theories.ints then ints_symbols else [] in
    let arrays = if theories.arrays then arrays_symbols else [] in
    is_symbol-append name (core_symbols ++ ints) arrays
    ∙ ap (λ b. b || is_symbol name arrays) (is_symbol-append name core_symbols ints)
    ∙ ap (λ b. (is_symbol name core_symbols || b) || is_symbol name arrays) (is_symbol-if name theories.ints ints_symbols)
    ∙ ap (λ b. (is_symbol name core_symbols || (theories.ints && is_symbol name ints_symbols)) || b) (is_symbol-if name theories.arrays arrays_symbols)

pub ruleset in_use_words = (is_theory_symbol, kind_named)
