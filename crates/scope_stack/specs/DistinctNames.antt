-- No two live declarations have one name.
use Rattle.std.specs.Prelude.{ℕ, ◌+◌, ◌≤◌, ◌==◌, if◌then◌else◌, List, [], ◌∷◌}

-- 1 where the declaration is of this name
abbrev pub count_at : {X : Type 0} → ℕ → ℕ × X → ℕ
count_at n d = if n == d.0 then 1 else 0

-- how many of the declarations have this name
abbrev pub count_of : {X : Type 0} → ℕ → List (ℕ × X) → ℕ
count_of n [] = 0
count_of n (d ∷ ds) = count_at n d + count_of n ds

pub record HasDistinctNames {X : Type 0} (ds : List (ℕ × X)) : Type 0 where
  pub once : (n : ℕ) → count_of n ds ≤ 1
