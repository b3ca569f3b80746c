-- The rules on sorts (SMT-LIB 2.6, section 3.5): one list of items for each production.
use Rattle.std.specs.Prelude.{◌≡◌, ℕ, ◌<◌, ◌≤◌, ◌^◌, ◌==◌, Bool, false, not, ◌||◌, IsTrue, if◌then◌else◌, List, [], ◌∷◌, codes, Option, Some, None, length, slice_index_or}
use Rattle.std.specs.List.{list_any}
use Rattle.sig_table.specs.declared.code.Code.TheVariants.{UnknownSort, WrongSortArity, WrongIndex, NumberTooLarge, SortTooLarge, CapturedSortParameter}
use Rattle.sig_table.specs.declared.theories.Theories.{Theories}
use Rattle.lex_core.specs.declared.place.Place.{Place}
use Rattle.lex_core.specs.declared.token.Tok.{Tok}
use Rattle.judgement.specs.Judging.{Judging, well_sorted, ill_sorted, done, ◌>>=◌, check, find}
use Rattle.term_grammar.specs.Words.{is_numeral}
use Rattle.term_grammar.specs.Syntax as syntax
use Rattle.term_grammar.specs.Syntax.{Identifier, symbol, indexed, identifier_at, named_sort, applied_sort, Sorts, with_sort}
use Rattle.sort_store.specs.declared.head.Head.{Head}
use Rattle.sort_store.specs.declared.head.Head.TheVariants as head
use Rattle.sort_store.specs.Tree.{Sort, sort, SortList, no_sorts, more_sorts, sorts, node_count}
use Rattle.sort_store.specs.Instance.{inst}
use Rattle.typer.specs.Declarations.{Declarations}
use Rattle.typer.specs.Numerals.{numeral_value}
use Rattle.typer.specs.SortSymbols.{Meaning, symbol_of, definition_of, is_text, is_bit_vector, meaning}

-- the sort symbol has no indices, is no parameter, and its name is that of a parameter of the command
abbrev pub is_captured : List (List ℕ) → List ℕ → Head → Bool
is_captured texts params head.Bool = list_any (is_text texts (codes "Bool")) params
is_captured texts params head.Int = list_any (is_text texts (codes "Int")) params
is_captured texts params head.Array = list_any (is_text texts (codes "Array")) params
is_captured texts params (head.BitVec m) = false
is_captured texts params (head.Free number name) = list_any (λ p. p == name) params
is_captured texts params (head.Data number name) = list_any (λ p. p == name) params
is_captured texts params (head.Param i) = false

-- .. so is some sort symbol of the sort
abbrev mutual
  pub has_captured : List (List ℕ) → List ℕ → Sort → Bool
  has_captured texts params (sort h ts) = is_captured texts params h || have_captured texts params ts

  pub have_captured : List (List ℕ) → List ℕ → SortList → Bool
  have_captured texts params no_sorts = false
  have_captured texts params (more_sorts t ts) = has_captured texts params t || have_captured texts params ts

-- the index, where there is one alone and it is a numeral
abbrev pub only_numeral : List Tok → Option Tok
only_numeral [] = None
only_numeral (t ∷ []) = if is_numeral t then Some t else None
only_numeral (t ∷ (u ∷ us)) = None

-- the value of an index that is a numeral
abbrev pub index_value : List (List ℕ) → Tok → ℕ
index_value texts t = numeral_value (slice_index_or texts t.name [])

-- a sort symbol of some arity with arguments that are judged already, in a sort that begins at a byte
abbrev pub judge_symbol : ℕ → List Sort → Head → ℕ → Judging Sort
judge_symbol at args h arity = do
  _ ← check (length args ≡ arity) WrongSortArity at
  _ ← check (node_count (sort h (sorts args)) ≤ 1000) SortTooLarge at
  done (sort h (sorts args))

-- a defined sort with its arguments put in its body
abbrev pub judge_definition : List (List ℕ) → List ℕ → ℕ → List Sort → ℕ → Sort → Judging Sort
judge_definition texts params at args arity body = do
  _ ← check (length args ≡ arity) WrongSortArity at
  _ ← check (node_count (inst args body) ≤ 1000) SortTooLarge at
  _ ← check (IsTrue (not (has_captured texts params (inst args body)))) CapturedSortParameter at
  done (inst args body)

abbrev pub judge_meaning : List (List ℕ) → List ℕ → ℕ → List Sort → Meaning → Judging Sort
judge_meaning texts params at args (symbol_of h arity) = judge_symbol at args h arity
judge_meaning texts params at args (definition_of arity body) = judge_definition texts params at args arity body

-- ( _ symbol index+ ) with arguments that are judged already: only (_ BitVec m) is a sort, without arguments
abbrev pub judge_indexed : List (List ℕ) → Theories → ℕ → List Sort → Tok → List Tok → Judging Sort
judge_indexed texts theories at args t is = do
  _ ← check (IsTrue (is_bit_vector texts theories t.name)) UnknownSort at
  _ ← check (length args ≡ 0) WrongSortArity at
  i ← find (λ i. only_numeral is ≡ Some i) WrongIndex at
  _ ← check (index_value texts i < 2 ^ 32) NumberTooLarge at
  _ ← check (1 ≤ index_value texts i) WrongIndex at
  done (sort (head.BitVec (index_value texts i)) no_sorts)

-- a symbol with arguments that are judged already
abbrev pub judge_name : List (List ℕ) → Declarations → Theories → List ℕ → ℕ → List Sort → ℕ → Judging Sort
judge_name texts declarations theories params at args name = do
  m ← find (λ m. meaning texts declarations theories params name ≡ Some m) UnknownSort at
  judge_meaning texts params at args m

-- an identifier with arguments that are judged already
abbrev pub judge_identifier : List (List ℕ) → Declarations → Theories → List ℕ → ℕ → List Sort → Identifier → Judging Sort
judge_identifier texts declarations theories params at args (symbol t) = judge_name texts declarations theories params at args t.name
judge_identifier texts declarations theories params at args (indexed _ t is) = judge_indexed texts theories at args t is

-- a sort under a table of texts, the live sort symbols, the theories of the logic and the parameters of the command
abbrev mutual
  pub judge_sort : List (List ℕ) → Declarations → Theories → List ℕ → syntax.Sort → Judging Sort
  judge_sort texts declarations theories params (named_sort i) = judge_identifier texts declarations theories params (identifier_at i) [] i
  judge_sort texts declarations theories params (applied_sort at i ss) = do
    args ← judge_sorts texts declarations theories params ss
    judge_identifier texts declarations theories params at args i

  pub judge_sorts : List (List ℕ) → Declarations → Theories → List ℕ → Sorts → Judging (List Sort)
  judge_sorts texts declarations theories params syntax.no_sorts = done []
  judge_sorts texts declarations theories params (with_sort s ss) = do
    t ← judge_sort texts declarations theories params s
    ts ← judge_sorts texts declarations theories params ss
    done (t ∷ ts)

-- The sort is well sorted with a tree, whatever names the command has declared so far; it declares none.
abbrev pub SortOf : List (List ℕ) → Declarations → Theories → List ℕ → syntax.Sort → Sort → Type 0
SortOf texts declarations theories params s t = (before : List ℕ) → judge_sort texts declarations theories params s before (well_sorted t before)

-- The first rule that the sort does not meet.
abbrev pub SortFault : List (List ℕ) → Declarations → Theories → List ℕ → syntax.Sort → Place → Type 0
SortFault texts declarations theories params s place = (before : List ℕ) → judge_sort texts declarations theories params s before (ill_sorted place)
