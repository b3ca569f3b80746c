-- Lists in which each item is replaced, and sorts in lists, by their trees.
use Rattle.std.proofs.Common.{◌≡◌, ◌||◌, Bool, ℕ, zero, suc, ◌<◌, ◌≤◌, List, [], ◌∷◌, length, map, get_or, ap, sym, ◌∙◌, refl, arith}
use Rattle.std.proofs.lemmas.List.{length-map}
use Rattle.std.specs.List.{Contains, list_any}
use Rattle.sort_store.specs.Tree.{Sort, NumberedSort, tree}

pub contains_map : {X Y : Type 0} (f : X → Y) (xs : List X) (x : X) → Contains xs x → Contains (map f xs) (f x)
contains_map f [] x c = absurd (omega (arith, c.1))
contains_map f (y ∷ xs) x (zero, l, e) = (0, omega arith, ap f e)
contains_map f (y ∷ xs) x (suc k, l, e) = let h = contains_map f xs x (k, omega (arith, l), e) in (suc h.0, omega (arith, h.1), h.2)

pub map_contains : {X Y : Type 0} (f : X → Y) (xs : List X) (y : Y) → Contains (map f xs) y → (x : X) × Contains xs x × (f x ≡ y)
map_contains f [] y c = absurd (omega (arith, c.1))
map_contains f (x ∷ xs) y (zero, l, e) = (x, (0, omega arith, refl), e)
map_contains f (x ∷ xs) y (suc k, l, e) = let (z, c, same) = map_contains f xs y (k, omega (arith, l), e) in (z, (suc c.0, omega (arith, c.1), c.2), same)

pub any_map : {X Y : Type 0} (f : X → Y) (p : Y → Bool) (xs : List X) → list_any p (map f xs) ≡ list_any (λ x. p (f x)) xs
any_map f p [] = refl
any_map f p (x ∷ xs) = ap (λ b. p (f x) || b) (any_map f p xs)

pub map_at : (rs : List NumberedSort) (k : ℕ) (d : NumberedSort) (s : Sort) → k < length rs → get_or (map tree rs) k s ≡ tree (get_or rs k d)
map_at [] k d s l = absurd (omega (arith, l))
map_at (r ∷ rs) zero d s l = refl
map_at (r ∷ rs) (suc k) d s l = map_at rs k d s (omega (arith, l))

-- a sort with the tree of one in the list
pub listed_at : (rs : List NumberedSort) (k : ℕ) (r other : NumberedSort) → k < length rs → other ≡ get_or rs k other → tree other ≡ tree r → Contains (map tree rs) (tree r)
listed_at rs k r other l at same = (k, omega (arith, l, length-map rs tree), map_at rs k other (tree r) l ∙ ap tree (sym at) ∙ same)

-- no sort in the list has the tree
pub none_listed : (rs : List NumberedSort) (r : NumberedSort) (n : ℕ) → length rs ≤ n → ((k : ℕ) (d : NumberedSort) → k < n → tree (get_or rs k d) ≡ tree r → ⊥) → Contains (map tree rs) (tree r) → ⊥
none_listed rs r n l none (k, below, at) =
    let within : k < length rs = omega (arith, below, length-map rs tree) in
    none k r (omega (arith, within, l)) (sym (map_at rs k r (tree r) within) ∙ at)

pub ruleset listed_words = (listed_at)
