-- How large an instance is, and what it is over the parts of its schema.
use Rattle.std.proofs.Common.{◌≡◌, ℕ, suc, zero, ◌+◌, ◌<◌, ◌≤◌, List, [], ◌∷◌, length, get_or, take, map, refl, ap, sym, ◌∙◌, add-one, arith, subst, None}
use Rattle.std.proofs.lemmas.List.{take_all}
use Rattle.sort_store.specs.Tree.{Sort, sort, sorts, more_sorts, NumberedSort, node, nodes, tree, trees, node_count, nodes_count}
use Rattle.sort_store.specs.declared.head.Head.{Head}
use Rattle.sort_store.specs.Size.{size_of, size_of_all}
use Rattle.sort_store.specs.Interned.{IsInterned, AllInterned}
use Rattle.sort_store.specs.Instance.{param_of, value_or, inst, insts, IsBelow, ParamsBelow, EachParamsBelow}
use Rattle.sort_store.proofs.NewEntries.{size_of_all-sorts}
use Rattle.sort_store.proofs.ArgumentLists.{size_at}

abbrev pub instance_sizes : List Sort → List NumberedSort → ℕ
instance_sizes ss rs = nodes_count (insts ss (trees (nodes rs)))

pub instance_sizes-take : (ss : List Sort) (xs : List NumberedSort) (i : ℕ) (d : NumberedSort) → i < length xs → instance_sizes ss (take (i + 1) xs) ≡ instance_sizes ss (take i xs) + node_count (inst ss (tree (get_or xs i d)))
instance_sizes-take ss xs i d l = rw add-one (by xs i l)
  where
    by : (xs : List NumberedSort) (i : ℕ) → i < length xs → instance_sizes ss (take (suc i) xs) ≡ instance_sizes ss (take i xs) + node_count (inst ss (tree (get_or xs i d)))
    by [] i l = absurd (omega arith)
    by (x ∷ xs) zero l = omega arith
    by (x ∷ xs) (suc i) l = omega (arith, by xs i (omega arith))

pub instance_sizes-all : (ss : List Sort) (xs : List NumberedSort) (i : ℕ) → length xs ≤ i → instance_sizes ss (take i xs) ≡ instance_sizes ss xs
instance_sizes-all ss xs i l = ap (instance_sizes ss) (take_all i xs l)

pub params_at : (n : ℕ) (xs : List NumberedSort) (i : ℕ) (d : NumberedSort) → i < length xs → EachParamsBelow n (trees (nodes xs)) → ParamsBelow n (tree (get_or xs i d))
params_at n [] i d l h = absurd (omega arith)
params_at n (x ∷ xs) zero d l h = h.0
params_at n (x ∷ xs) (suc i) d l h = params_at n xs i d (omega arith) h.1

pub ruleset inst_words = (size_at, instance_sizes-take, instance_sizes-all, params_at)

-- what goes in at a place
pub all_interned_at : (store : List Sort) (rs : List NumberedSort) (i : ℕ) (d : NumberedSort) → i < length rs → AllInterned store rs → IsInterned store (get_or rs i d)
all_interned_at store [] i d l h = absurd (omega arith)
all_interned_at store (r ∷ rs) zero d l h = h.0
all_interned_at store (r ∷ rs) (suc i) d l h = all_interned_at store rs i d (omega arith) h.1

-- the schemas' instances, one after another
pub insts-map : (ss : List Sort) (xs : List NumberedSort) → insts ss (trees (nodes xs)) ≡ sorts (map (λ x. inst ss (tree x)) xs)
insts-map ss [] = refl
insts-map ss (x ∷ xs) = ap (more_sorts (inst ss (tree x))) (insts-map ss xs)

pub inst_of_parts : (ss : List Sort) (r : NumberedSort) (n : ℕ) (h : Head) (xs : List NumberedSort) → node n h (nodes xs) ≡ r → param_of h ≡ None → inst ss (tree r) ≡ sort h (sorts (map (λ x. inst ss (tree x)) xs))
inst_of_parts ss r n h xs is none =
    ap (λ z. inst ss (tree z)) (sym is) ∙ ap (λ o. value_or o ss (sort h (insts ss (trees (nodes xs))))) none ∙ ap (sort h) (insts-map ss xs)

-- a part's instance is smaller than the whole
pub part_small : (ss : List Sort) (xs : List NumberedSort) (i : ℕ) (d : NumberedSort) → i < length xs → node_count (inst ss (tree (get_or xs i d))) ≤ nodes_count (sorts (map (λ x. inst ss (tree x)) xs))
part_small ss [] i d l = absurd (omega arith)
part_small ss (x ∷ xs) zero d l = omega arith
part_small ss (x ∷ xs) (suc i) d l = omega (arith, part_small ss xs i d (omega arith))

pub listed_size : (f : NumberedSort → Sort) (made xs : List NumberedSort) → map tree made ≡ map f xs → size_of_all made ≡ nodes_count (sorts (map f xs))
listed_size f made xs m = sym (size_of_all-sorts made) ∙ ap (λ z. nodes_count (sorts z)) m

-- the same for a list equal to the parts
pub inst_is : (ss : List Sort) (r : NumberedSort) (n : ℕ) (h : Head) (ys xs : List NumberedSort) → node n h (nodes ys) ≡ r → xs ≡ ys → param_of h ≡ None → inst ss (tree r) ≡ sort h (sorts (map (λ x. inst ss (tree x)) xs))
inst_is ss r n h ys xs is same none = inst_of_parts ss r n h ys is none ∙ ap (λ z. sort h (sorts (map (λ x. inst ss (tree x)) z))) (sym same)

pub part_below : (r : NumberedSort) (n : ℕ) (h : Head) (ys xs : List NumberedSort) (x : NumberedSort) (i : ℕ) → node n h (nodes ys) ≡ r → xs ≡ ys → i < length xs → x ≡ get_or xs i x → size_of x < size_of r
part_below r n h ys xs x i is same l at = omega (arith, ap size_of is, ap size_of_all same, ap size_of at, size_at xs i x l)

pub params_of_part : (n : ℕ) (r : NumberedSort) (m : ℕ) (h : Head) (ys xs : List NumberedSort) (x : NumberedSort) (i : ℕ) → node m h (nodes ys) ≡ r → xs ≡ ys → i < length xs → x ≡ get_or xs i x → ParamsBelow n (tree r)
    → ParamsBelow n (tree x)
params_of_part n r m h ys xs x i is same l at p =
    subst (λ z. ParamsBelow n (tree z)) (sym at) (params_at n xs i x l (subst (λ z. EachParamsBelow n (trees (nodes z))) (sym same) (subst (λ z. ParamsBelow n (tree z)) (sym is) p).1))

-- each parameter is below a number if the head and each part say so
each_below : (n : ℕ) (xs : List NumberedSort) → ((k : ℕ) (d : NumberedSort) → k < length xs → ParamsBelow n (tree (get_or xs k d))) → EachParamsBelow n (trees (nodes xs))
each_below n [] f = tt
each_below n (x ∷ xs) f = (f 0 x (omega arith), each_below n xs (λ k d l. f (suc k) d (omega arith)))

pub params_below_from_parts : (n : ℕ) (r : NumberedSort) (m : ℕ) (h : Head) (ys xs : List NumberedSort) → node m h (nodes ys) ≡ r → xs ≡ ys → IsBelow n (param_of h)
    → ((k : ℕ) (d : NumberedSort) → k < length xs → ParamsBelow n (tree (get_or xs k d))) → ParamsBelow n (tree r)
params_below_from_parts n r m h ys xs is same below f = subst (λ z. ParamsBelow n (tree z)) is (below, subst (λ z. EachParamsBelow n (trees (nodes z))) same (each_below n xs f))
