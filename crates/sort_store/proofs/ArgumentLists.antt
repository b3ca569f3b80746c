-- The arguments of a tree as a list, and when two lists of sorts have equal trees.
use Rattle.std.proofs.Common.{◌≡◌, ℕ, suc, zero, ◌<◌, ◌≤◌, List, [], ◌∷◌, length, get_or, map, refl, ap, sym, ◌∙◌, arith}
use Rattle.sort_store.specs.Tree.{Sort, SortList, more_sorts, sorts, NumberedSort, nodes, node_list, tree, trees}
use Rattle.sort_store.specs.Size.{size_of, size_of_all}

pub node_list-nodes : (rs : List NumberedSort) → node_list (nodes rs) ≡ rs
node_list-nodes [] = refl
node_list-nodes (r ∷ rs) = ap (λ z. r ∷ z) (node_list-nodes rs)

pub trees-nodes : (rs : List NumberedSort) → trees (nodes rs) ≡ sorts (map tree rs)
trees-nodes [] = refl
trees-nodes (r ∷ rs) = ap (more_sorts (tree r)) (trees-nodes rs)

-- the parts of the list of arguments
pub first_same : (t u : Sort) (ts us : SortList) → more_sorts t ts ≡ more_sorts u us → t ≡ u
first_same t u ts us e = cc

pub rest_same : (t u : Sort) (ts us : SortList) → more_sorts t ts ≡ more_sorts u us → ts ≡ us
rest_same t u ts us e = cc

pub sorts_same : (ts us : List Sort) → sorts ts ≡ sorts us → ts ≡ us
sorts_same [] [] e = refl
sorts_same [] (u ∷ us) e = cc
sorts_same (t ∷ ts) [] e = cc
sorts_same (t ∷ ts) (u ∷ us) e =
    let f = first_same t u (sorts ts) (sorts us) e in
    let r = sorts_same ts us (rest_same t u (sorts ts) (sorts us) e) in
    cc

pub ruleset parts_given = (node_list-nodes)

-- two lists whose trees are equal
pub same_at : (xs ys : List NumberedSort) (i : ℕ) (d e : NumberedSort) → i < length xs → map tree xs ≡ map tree ys → tree (get_or xs i d) ≡ tree (get_or ys i e)
same_at [] ys i d e l s = absurd (omega arith)
same_at (x ∷ xs) [] i d e l s = cc
same_at (x ∷ xs) (y ∷ ys) zero d e l s = cc
same_at (x ∷ xs) (y ∷ ys) (suc i) d e l s = let r : map tree xs ≡ map tree ys = cc in same_at xs ys i d e (omega arith) r

pub same_length : (xs ys : List NumberedSort) → map tree xs ≡ map tree ys → length xs ≡ length ys
same_length [] [] s = refl
same_length [] (y ∷ ys) s = cc
same_length (x ∷ xs) [] s = cc
same_length (x ∷ xs) (y ∷ ys) s = let r : map tree xs ≡ map tree ys = cc in ap suc (same_length xs ys r)

pub same_from_each : (xs ys : List NumberedSort) → length xs ≡ length ys → ((k : ℕ) (d e : NumberedSort) → k < length xs → tree (get_or xs k d) ≡ tree (get_or ys k e)) → map tree xs ≡ map tree ys
same_from_each [] [] l f = refl
same_from_each [] (y ∷ ys) l f = absurd (omega arith)
same_from_each (x ∷ xs) [] l f = absurd (omega arith)
same_from_each (x ∷ xs) (y ∷ ys) l f =
    let h = f 0 x x (omega arith) in
    let r = same_from_each xs ys (omega arith) (λ k d e b. f (suc k) d e (omega arith)) in
    cc

pub trees_same : (rs ss : List NumberedSort) → trees (nodes rs) ≡ trees (nodes ss) → map tree rs ≡ map tree ss
trees_same rs ss e = sorts_same (map tree rs) (map tree ss) (sym (trees-nodes rs) ∙ e ∙ trees-nodes ss)

pub same_trees : (rs ss : List NumberedSort) → map tree rs ≡ map tree ss → trees (nodes rs) ≡ trees (nodes ss)
same_trees rs ss e = trees-nodes rs ∙ ap sorts e ∙ sym (trees-nodes ss)

pub size_at : (xs : List NumberedSort) (i : ℕ) (d : NumberedSort) → i < length xs → size_of (get_or xs i d) ≤ size_of_all xs
size_at [] i d l = absurd (omega arith)
size_at (x ∷ xs) zero d l = omega arith
size_at (x ∷ xs) (suc i) d l = omega (arith, size_at xs i d (omega arith))

pub made_same : (rs ss : List NumberedSort) → trees (nodes rs) ≡ sorts (map tree ss) → map tree rs ≡ map tree ss
made_same rs ss e = sorts_same (map tree rs) (map tree ss) (sym (trees-nodes rs) ∙ e)

pub same_made : (rs ss : List NumberedSort) → map tree rs ≡ map tree ss → trees (nodes rs) ≡ sorts (map tree ss)
same_made rs ss e = trees-nodes rs ∙ ap sorts e

pub length-trees : (rs : List NumberedSort) → length (map tree rs) ≡ length rs
length-trees [] = refl
length-trees (r ∷ rs) = ap suc (length-trees rs)

pub ruleset same_words = (size_at, made_same, same_made, same_at, same_length, same_from_each, trees_same, same_trees)
