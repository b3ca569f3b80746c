-- The ranks of function symbols (SMT-LIB 2.6, sections 3.6 and 3.7). A rank is written with schemas and stands for their
-- instances.
use Rattle.std.specs.Prelude.{◌≡◌, ℕ, ◌≤◌, ◌⊎◌, Bool, List, [], ◌∷◌, length, map, filter, All, bytes_eq}
use Rattle.std.specs.List.{list_any}
use Rattle.sort_store.specs.declared.head.Head.TheVariants as heads
use Rattle.sort_store.specs.Tree.{Sort, sort, no_sorts}
use Rattle.sort_store.specs.Instance.{inst}

-- the attributes that let a function of two arguments take more; they ask the same of the argument sorts
pub data Attribute : Type 0 where
  left_assoc : Attribute
  right_assoc : Attribute
  chainable : Attribute
  pairwise : Attribute

pub data Arguments : Type 0 where
  -- one argument of each sort, in order
  each : List Sort → Arguments
  -- two or more arguments of the sort
  many : Attribute → Sort → Arguments

pub record Rank : Type 0 where
  pub arguments : Arguments
  pub result : Sort

-- the argument sorts where the parameters have these values; a parameter past the last value stands for itself
abbrev pub AreArguments : Arguments → List Sort → List Sort → Type 0
AreArguments (each schemas) values args = args ≡ map (inst values) schemas
AreArguments (many attribute schema) values args = (2 ≤ length args) × All (λ t. t ≡ inst values schema) args

-- the rank has an instance with these argument sorts and this result sort
pub record IsInstance (rank : Rank) (args : List Sort) (result : Sort) : Type 0 where
  pub values : List Sort
  pub takes : AreArguments rank.arguments values args
  pub gives : result ≡ inst values rank.result

-- one of the ranks has
abbrev pub HasRank : List Rank → List Sort → Sort → Type 0
HasRank [] args result = ⊥
HasRank (rank ∷ ranks) args result = IsInstance rank args result ⊎ HasRank ranks args result

-- a function symbol with a rank; a symbol with several ranks is overloaded
pub record RankedSymbol : Type 0 where
  pub name : List ℕ
  pub rank : Rank

abbrev pub symbol : List ℕ → Arguments → Sort → RankedSymbol
symbol name arguments result = record { name = name; rank = record { arguments = arguments; result = result } }

-- whether one of the symbols has the name
abbrev pub is_symbol : List ℕ → List RankedSymbol → Bool
is_symbol name symbols = list_any (λ s. bytes_eq s.name name) symbols

-- the ranks of the name
abbrev pub ranks_of : List ℕ → List RankedSymbol → List Rank
ranks_of name symbols = map (λ s. s.rank) (filter (λ s. bytes_eq s.name name) symbols)

-- the schema that is a parameter
abbrev pub param : ℕ → Sort
param i = sort (heads.Param i) no_sorts
