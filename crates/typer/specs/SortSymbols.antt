-- What the symbol of a sort stands for (SMT-LIB 2.6, section 3.5, and the theory declarations Core, Ints, ArraysEx and
-- FixedSizeBitVectors). A name is a number, told by its text under a table of texts.
use Rattle.std.specs.Prelude.{ℕ, ◌==◌, Bool, ◌&&◌, ◌||◌, if◌then◌else◌, List, [], codes, Option, Some, None, option_map, slice_index_or}
use Rattle.std.specs.List.{position}
use Rattle.std.specs.Str.{bytes_eq}
use Rattle.sig_table.specs.declared.theories.Theories.{Theories}
use Rattle.sort_store.specs.declared.head.Head.{Head}
use Rattle.sort_store.specs.declared.head.Head.TheVariants as head
use Rattle.sort_store.specs.Tree.{Sort}
use Rattle.scope_stack.specs.Levels.{found}
use Rattle.typer.specs.Declarations.{SortDeclaration, free_sort, data_sort, defined_sort, Declarations}

-- a sort symbol with its arity, or a defined sort with the number of its parameters and its body
pub data Meaning : Type 0 where
  symbol_of : Head → ℕ → Meaning
  definition_of : ℕ → Sort → Meaning

-- the name has the text
abbrev pub is_text : List (List ℕ) → List ℕ → ℕ → Bool
is_text texts text name = bytes_eq (slice_index_or texts name []) text

-- a parameter of the command is the one at its place, and takes no argument
abbrev pub parameter : List ℕ → ℕ → Option Meaning
parameter params name = option_map (λ i. symbol_of (head.Param i) 0) (position (λ p. p == name) params)

-- a sort symbol of Core or of a theory that the logic has
abbrev pub theory_symbol : List (List ℕ) → Theories → ℕ → Option Meaning
theory_symbol texts theories name =
    if is_text texts (codes "Bool") name then Some (symbol_of head.Bool 0)
    else if theories.ints && is_text texts (codes "Int") name then Some (symbol_of head.Int 0)
    else if theories.arrays && is_text texts (codes "Array") name then Some (symbol_of head.Array 2)
    else None

-- the family of sorts (_ BitVec m)
abbrev pub is_bit_vector : List (List ℕ) → Theories → ℕ → Bool
is_bit_vector texts theories name = theories.bits && is_text texts (codes "BitVec") name

-- what a live declaration of the name stands for
abbrev pub declared_symbol : ℕ → SortDeclaration → Meaning
declared_symbol name (free_sort number arity) = symbol_of (head.Free number name) arity
declared_symbol name (data_sort number arity) = symbol_of (head.Data number name) arity
declared_symbol name (defined_sort params body) = definition_of params body

abbrev pub or_else : {A : Type 0} → Option A → Option A → Option A
or_else (Some x) other = Some x
or_else None other = other

-- a parameter of the command where the name is one, else a symbol of a theory or a live sort symbol
abbrev pub meaning : List (List ℕ) → Declarations → Theories → List ℕ → ℕ → Option Meaning
meaning texts declarations theories params name =
    or_else (parameter params name) (or_else (theory_symbol texts theories name) (option_map (declared_symbol name) (found name declarations.sorts)))

-- Core or a theory that the logic has uses the text for a sort
abbrev pub is_theory_text : Theories → List ℕ → Bool
is_theory_text theories text =
    bytes_eq text (codes "Bool") || (theories.ints && bytes_eq text (codes "Int")) || (theories.arrays && bytes_eq text (codes "Array"))
    || (theories.bits && bytes_eq text (codes "BitVec"))

abbrev pub is_theory_sort : List (List ℕ) → Theories → ℕ → Bool
is_theory_sort texts theories name = is_theory_text theories (slice_index_or texts name [])
