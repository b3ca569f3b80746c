-- The levels of one name space as one list, with the place where each pushed level begins.
use Rattle.std.specs.Prelude.{ℕ, ◌≤◌, ◌-◌, List, [], ◌∷◌, take, drop}

-- the levels of a list whose first entry has the place k: what stands before the first start, and what
-- begins at each start
abbrev pub first_from : {X : Type 0} → ℕ → List ℕ → List X → List X
first_from k [] es = es
first_from k (m ∷ ms) es = take (m - k) es

abbrev pub pushed_from : {X : Type 0} → ℕ → List ℕ → List X → List (List X)
pushed_from k [] es = []
pushed_from k (m ∷ ms) es = first_from m ms (drop (m - k) es) ∷ pushed_from m ms (drop (m - k) es)

abbrev pub first_of : {X : Type 0} → List ℕ → List X → List X
first_of ms es = first_from 0 ms es

abbrev pub pushed_of : {X : Type 0} → List ℕ → List X → List (List X)
pushed_of ms es = pushed_from 0 ms es

-- the starts ascend from k to the end
abbrev pub AreStarts : ℕ → List ℕ → ℕ → Type 0
AreStarts k [] end = k ≤ end
AreStarts k (m ∷ ms) end = (k ≤ m) × AreStarts m ms end
