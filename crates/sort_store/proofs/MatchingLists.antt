-- When a list of schemas fits a list of sorts under a binding.
use Rattle.std.proofs.Common.{◌≡◌, ℕ, suc, zero, ◌<◌, Bool, true, false, List, [], ◌∷◌, length, get_or, map, refl, ap, sym, ◌∙◌, arith, subst, Option, Some, None, ◌⊎◌, inl, inr, IsTrue, ◌↔◌, rules}
use Rattle.sort_store.specs.Tree.{Sort, sorts, NumberedSort, nodes, tree, trees}
use Rattle.sort_store.specs.Instance.{inst}
use Rattle.sort_store.specs.Binding.{HasValue, Agrees, FitsEach, ParamInEach, FittedEach}
use Rattle.sort_store.specs.FitAnswers.{MakesUpTo, FittedUpTo, FitAnswerEach}
use Rattle.sort_store.proofs.ArgumentLists.{trees-nodes}
use Rattle.sort_store.proofs.MatchingLaws.{Binding, agrees_less, fill, fill_length, fill_at, param_somewhere}

map_from_each : (ss : List Sort) (xs ys : List NumberedSort) → length xs ≡ length ys → MakesUpTo ss (length xs) xs ys → map (inst ss) (map tree xs) ≡ map tree ys
map_from_each ss [] [] c f = refl
map_from_each ss [] (y ∷ ys) c f = absurd (omega arith)
map_from_each ss (x ∷ xs) [] c f = absurd (omega arith)
map_from_each ss (x ∷ xs) (y ∷ ys) c f =
    let e = f 0 x y (omega arith) in
    let es = map_from_each ss xs ys (omega arith) (λ k d e l. f (suc k) d e (omega arith)) in
    ap (λ z. z ∷ map (inst ss) (map tree xs)) e ∙ ap (λ z. tree y ∷ z) es

first_of_two : (t u : Sort) (ts us : List Sort) → t ∷ ts ≡ u ∷ us → t ≡ u
first_of_two t u ts us e = cc

rest_of_two : (t u : Sort) (ts us : List Sort) → t ∷ ts ≡ u ∷ us → ts ≡ us
rest_of_two t u ts us e = cc

each_from_map : (ss : List Sort) (xs ys : List NumberedSort) → map (inst ss) (map tree xs) ≡ map tree ys → MakesUpTo ss (length xs) xs ys
each_from_map ss [] ys e k d g l = absurd (omega arith)
each_from_map ss (x ∷ xs) [] e k d g l = cc
each_from_map ss (x ∷ xs) (y ∷ ys) e zero d g l = first_of_two (inst ss (tree x)) (tree y) (map (inst ss) (map tree xs)) (map tree ys) e
each_from_map ss (x ∷ xs) (y ∷ ys) e (suc k) d g l = each_from_map ss xs ys (rest_of_two (inst ss (tree x)) (tree y) (map (inst ss) (map tree xs)) (map tree ys) e) k d g (omega arith)

map_length : (ss : List Sort) (xs ys : List NumberedSort) → map (inst ss) (map tree xs) ≡ map tree ys → length xs ≡ length ys
map_length ss [] [] e = refl
map_length ss [] (y ∷ ys) e = cc
map_length ss (x ∷ xs) [] e = cc
map_length ss (x ∷ xs) (y ∷ ys) e = ap suc (map_length ss xs ys (rest_of_two (inst ss (tree x)) (tree y) (map (inst ss) (map tree xs)) (map tree ys) e))

pub misfit_length : (old : Binding) (xs ys : List NumberedSort) → (length xs ≡ length ys → ⊥) → FitsEach old (map tree xs) (map tree ys) → ⊥
misfit_length old xs ys n f = n (map_length f.values xs ys f.makes)

fitted_each : (old new : Binding) (xs ys : List NumberedSort) → length xs ≡ length ys → FittedUpTo (length xs) xs ys old new → FittedEach old new (map tree xs) ys
fitted_each old new xs ys c t =
    let same : trees (nodes xs) ≡ sorts (map tree xs) = trees-nodes xs in
    record {
      count = t.count;
      keeps = t.keeps;
      bound = λ j p. param_somewhere (HasValue new j) xs j (λ k d l q. t.bound k d l j q) (subst (ParamInEach j) (sym same) p);
      makes = λ ss a. map_from_each ss xs ys c (t.makes ss a);
      only = λ j. elim (t.only j) [ inl a ↦ inl a | inr p ↦ inr (subst (ParamInEach j) same p) ];
      most = λ ss a e. t.most ss a (each_from_map ss xs ys e);
      interned = λ s b k. t.interned s b k;
    }

pub fits_each_from_fitted : (d : Sort) (old new : Binding) (xs ys : List NumberedSort) → FittedEach old new (map tree xs) ys → FitsEach old (map tree xs) (map tree ys)
fits_each_from_fitted d old new xs ys f =
    let a : Agrees new (fill d new) = record { count = fill_length d new; same = fill_at d new } in
    record { values = fill d new; agree = agrees_less old new (fill d new) a f.count f.keeps; makes = f.makes (fill d new) a }

pub fits_each_if : (d : Sort) (w : Bool) (old new : Binding) (xs ys : List NumberedSort) → length xs ≡ length ys → FitAnswerEach w old new xs ys
    → (IsTrue w ↔ FitsEach old (map tree xs) (map tree ys)) × (IsTrue w → FittedEach old new (map tree xs) ys)
fits_each_if d true old new xs ys c t = let f = fitted_each old new xs ys c t in ((λ _. fits_each_from_fitted d old new xs ys f, λ _. search rules), λ _. f)
fits_each_if d false old new xs ys c t = ((λ e. absurd (search rules), λ f. absurd (t f.values f.agree (each_from_map f.values xs ys f.makes))), λ e. absurd (search rules))
