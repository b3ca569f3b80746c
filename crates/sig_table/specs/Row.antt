-- What a table has: rows of a name and a code, the names ascending by their bytes.
use Rattle.std.specs.Prelude.{ℕ, Bool, true, ◌&&◌, List, [], ◌∷◌, Option, Some, None, map, filter}
use Rattle.std.specs.Ordering.{is_lt, nat_cmp}
use Rattle.std.specs.Cmp.Lexicographic.{slice_cmp}
use Rattle.std.specs.Str.{bytes_eq}

pub record Row : Type 0 where
  pub name : List ℕ
  pub code : ℕ

-- the first text comes before the second, byte by byte
abbrev pub comes_before : List ℕ → List ℕ → Bool
comes_before a b = is_lt (slice_cmp nat_cmp a b)

-- each name comes before the next
abbrev pub is_ascending : List Row → Bool
is_ascending [] = true
is_ascending (r ∷ []) = true
is_ascending (r ∷ s ∷ rows) = comes_before r.name s.name && is_ascending (s ∷ rows)

-- the codes of the rows with this name
abbrev pub codes_of : List ℕ → List Row → List ℕ
codes_of name rows = map (λ r. r.code) (filter (λ r. bytes_eq r.name name) rows)

-- the one code, or none
abbrev pub listed : Option ℕ → List ℕ
listed None = []
listed (Some code) = code ∷ []
