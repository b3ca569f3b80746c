-- Which ranks a function symbol on bit vectors has with indices and arguments, and what is wrong where it has none
-- (SMT-LIB 2.6, sections 3.6 and 3.7, and the theory declaration FixedSizeBitVectors). An argument is the width of its
-- sort, or none where that is no bit vector.
use Rattle.std.specs.Prelude.{◌≡◌, ◌≢◌, ℕ, ◌<◌, ◌≤◌, Bool, true, false, List, length, map, Option, Some, IsSomeAnd, unwrap_or, slice_get}
use Rattle.std.specs.List.{All, Contains}
use Rattle.theory_bv.specs.declared.index.Index.{Index}
use Rattle.theory_bv.specs.declared.index.Index.TheVariants.{Numeral, Large, Symbol}
use Rattle.theory_bv.specs.declared.rank.BvResult.{BvResult}
use Rattle.theory_bv.specs.declared.rank.BvResult.TheVariants.{Bool as BoolSort, Width}
use Rattle.theory_bv.specs.Declarations.{Declaration, Arguments, no_argument, one, two, two_alike, left_assoc, ResultSort, boolean, bit_vec}
use Rattle.theory_bv.specs.Indices.{greatest}
use Rattle.theory_bv.specs.Symbols.{declaration_of}

-- what a letter of a declaration stands for: the first or the second of the values, 0 where there are fewer
abbrev pub letter : List ℕ → ℕ → ℕ
letter values place = unwrap_or (slice_get values place) 0

-- The parts of a declaration at the values of the indices and the widths of the arguments.
abbrev pub condition : Declaration → List ℕ → Bool
condition d values = d.condition (letter values 0) (letter values 1)

abbrev pub within : Declaration → List ℕ → List ℕ → Bool
within d values widths = d.within (letter values 0) (letter values 1) (letter widths 0)

abbrev pub result_sort : Declaration → List ℕ → List ℕ → ResultSort
result_sort d values widths = d.result (letter values 0) (letter values 1) (letter widths 0) (letter widths 1)

abbrev pub AreAlike : List ℕ → Type 0
AreAlike widths = All (λ width. width ≡ letter widths 0) widths

-- bit vectors of these widths are such arguments
abbrev pub AreArguments : Arguments → List ℕ → Type 0
AreArguments no_argument widths = length widths ≡ 0
AreArguments one widths = length widths ≡ 1
AreArguments two widths = length widths ≡ 2
AreArguments two_alike widths = (length widths ≡ 2) × AreAlike widths
AreArguments left_assoc widths = (2 ≤ length widths) × AreAlike widths

-- The indices are numerals with these values, as many as the declaration has.
pub record HasIndices (d : Declaration) (is : List Index) (values : List ℕ) : Type 0 where
  pub numerals : is ≡ map Numeral values
  pub count : length values ≡ d.indices

-- These values meet its condition besides.
pub record HasGoodIndices (d : Declaration) (is : List Index) (values : List ℕ) : Type 0 where
  pub indices : HasIndices d is values
  pub condition : condition d values ≡ true

-- The arguments are bit vectors of these widths, as the declaration has them.
pub record HasArguments (d : Declaration) (ws : List (Option ℕ)) (widths : List ℕ) : Type 0 where
  pub bit_vectors : ws ≡ map Some widths
  pub sorts : AreArguments d.arguments widths

-- The declaration has an instance with these indices and arguments.
pub record HasInstance (d : Declaration) (is : List Index) (ws : List (Option ℕ)) (values widths : List ℕ) : Type 0 where
  pub indices : HasGoodIndices d is values
  pub arguments : HasArguments d ws widths
  pub within : within d values widths ≡ true

abbrev pub IsResult : ResultSort → BvResult → Type 0
IsResult boolean r = r ≡ BoolSort
IsResult (bit_vec width) r = (width ≤ greatest) × (r ≡ Width width)

-- no sort of bit vectors is so wide
abbrev pub IsTooLarge : ResultSort → Type 0
IsTooLarge boolean = ⊥
IsTooLarge (bit_vec width) = greatest < width

-- A rank of the declaration has these indices, these arguments and this result.
pub record HasRank (d : Declaration) (is : List Index) (ws : List (Option ℕ)) (r : BvResult) : Type 0 where
  pub values : List ℕ
  pub widths : List ℕ
  pub instance : HasInstance d is ws values widths
  pub result : IsResult (result_sort d values widths) r

-- The indices are good, and the declaration has no such arguments.
pub record HasNoRank (d : Declaration) (is : List Index) (ws : List (Option ℕ)) : Type 0 where
  pub values : List ℕ
  pub indices : HasGoodIndices d is values
  pub none : (widths : List ℕ) → HasArguments d ws widths → ⊥

-- What makes an index wrong: the number of indices, a symbol among them, their values alone, or the first one beside the
-- width of the argument.
pub data HasBadIndex (d : Declaration) (is : List Index) (ws : List (Option ℕ)) : Type 0 where
  wrong_count : length is ≢ d.indices → HasBadIndex d is ws
  symbol_index : Contains is Symbol → HasBadIndex d is ws
  wrong_value : (values : List ℕ) → HasIndices d is values → condition d values ≡ false → HasBadIndex d is ws
  past_width : (values widths : List ℕ) → HasGoodIndices d is values → HasArguments d ws widths → within d values widths ≡ false → HasBadIndex d is ws

-- What is too large: an index, or the width of the result.
pub data IsTooWide (d : Declaration) (is : List Index) (ws : List (Option ℕ)) : Type 0 where
  large_index : length is ≡ d.indices → (Contains is Symbol → ⊥) → Contains is Large → IsTooWide d is ws
  large_result : (values widths : List ℕ) → HasInstance d is ws values widths → IsTooLarge (result_sort d values widths) → IsTooWide d is ws

-- The same of a symbol, which has a declaration.
abbrev pub HasBvRank : List ℕ → List Index → List (Option ℕ) → BvResult → Type 0
HasBvRank name is ws r = IsSomeAnd (declaration_of name) (λ d. HasRank d is ws r)

abbrev pub HasNoBvRank : List ℕ → List Index → List (Option ℕ) → Type 0
HasNoBvRank name is ws = IsSomeAnd (declaration_of name) (λ d. HasNoRank d is ws)

abbrev pub HasBvBadIndex : List ℕ → List Index → List (Option ℕ) → Type 0
HasBvBadIndex name is ws = IsSomeAnd (declaration_of name) (λ d. HasBadIndex d is ws)

abbrev pub IsBvTooWide : List ℕ → List Index → List (Option ℕ) → Type 0
IsBvTooWide name is ws = IsSomeAnd (declaration_of name) (λ d. IsTooWide d is ws)
