-- When a schema fits a sort under a binding, over parameters, heads and lists of arguments.
use Rattle.std.proofs.Common.{◌≡◌, ℕ, suc, zero, ◌+◌, ◌<◌, Bool, true, false, List, [], ◌∷◌, ◌++◌, replicate, add-one, length, get_or, set, refl, ap, sym, ◌∙◌, arith, subst, Option, Some, None, ◌⊎◌, inl, inr, Result, Ok, Err, slice_get, length-set, IsTrue, ◌↔◌, rules}
use Rattle.std.specs.Result.{IfOk}
use Rattle.std.proofs.lemmas.Option.{get_or_from_slice_get, slice_get-get_or}
use Rattle.sort_store.specs.declared.head.Head.{Head}
use Rattle.sort_store.specs.Tree.{Sort, sort, SortList, NumberedSort, node, NumberedSorts, nodes, tree, trees}
use Rattle.sort_store.specs.Instance.{param_of, value_or, inst, insts, IsBelow, ParamsBelow, EachParamsBelow}
use Rattle.sort_store.specs.Interned.{IsInterned}
use Rattle.sort_store.specs.Binding.{value_at, HasValue, Agrees, Fits, ParamAt, ParamIn, ParamInEach, Fitted}
use Rattle.sort_store.specs.FitAnswers.{FitAnswer, MakesUpTo, FittedUpTo, FitAnswerEach, HasOther, FitAnswerParam}
use Rattle.sort_store.proofs.InstanceLaws.{all_interned_at, params_at}
use Rattle.sort_store.proofs.ArgumentLists.{first_same, rest_same}

abbrev pub Binding : Type 0
Binding = List (Option NumberedSort)

-- numbers and lists
same_or_other : (i j : ℕ) → (i ≡ j) ⊎ (i ≡ j → ⊥)
same_or_other zero zero = inl refl
same_or_other zero (suc j) = inr (λ e. cc)
same_or_other (suc i) zero = inr (λ e. cc)
same_or_other (suc i) (suc j) = elim (same_or_other i j) [ inl e ↦ inl (ap suc e) | inr n ↦ inr (λ e. n (omega arith)) ]

below_or_last : (k i : ℕ) → k < i + 1 → (k < i) ⊎ (k ≡ i)
below_or_last k i l = elim (same_or_other k i) [ inl e ↦ inr e | inr n ↦ inl (omega (arith, n)) ]

any_default : (xs : List NumberedSort) (i : ℕ) (d e : NumberedSort) → i < length xs → get_or xs i d ≡ get_or xs i e
any_default [] i d e l = absurd (omega arith)
any_default (x ∷ xs) zero d e l = refl
any_default (x ∷ xs) (suc i) d e l = any_default xs i d e (omega arith)

last_at : (xs : List NumberedSort) (k i : ℕ) (x d : NumberedSort) → k ≡ i → i < length xs → x ≡ get_or xs i x → get_or xs k d ≡ x
last_at xs k i x d q l at = ap (λ z. get_or xs z d) q ∙ any_default xs i d x l ∙ sym at

value_at_set : (b : Binding) (i : ℕ) (o : Option NumberedSort) → i < length b → value_at (set b i o) i ≡ o
value_at_set [] i o l = absurd (omega arith)
value_at_set (v ∷ b) zero o l = refl
value_at_set (v ∷ b) (suc i) o l = value_at_set b i o (omega arith)

value_at_set_other : (b : Binding) (i j : ℕ) (o : Option NumberedSort) → (j ≡ i → ⊥) → value_at (set b i o) j ≡ value_at b j
value_at_set_other [] i j o n = refl
value_at_set_other (v ∷ b) zero zero o n = absurd (n refl)
value_at_set_other (v ∷ b) zero (suc j) o n = refl
value_at_set_other (v ∷ b) (suc i) zero o n = refl
value_at_set_other (v ∷ b) (suc i) (suc j) o n = value_at_set_other b i j o (λ e. n (ap suc e))

some_same : (v w : NumberedSort) (o : Option NumberedSort) → o ≡ Some v → o ≡ Some w → v ≡ w
some_same v w o p q = cc

pub agrees_less : (old new : Binding) (ss : List Sort) → Agrees new ss → length new ≡ length old → ((i : ℕ) (v : NumberedSort) → value_at old i ≡ Some v → value_at new i ≡ Some v) → Agrees old ss
agrees_less old new ss a count keeps = record { count = a.count ∙ count; same = λ i v e. a.same i v (keeps i v e) }

-- a schema that is a parameter
inst_param : (ss : List Sort) (h : Head) (ts : SortList) (i : ℕ) (t : Sort) → param_of h ≡ Some i → slice_get ss i ≡ Some t → inst ss (sort h ts) ≡ t
inst_param ss h ts i t p e = ap (λ o. value_or o ss (sort h (insts ss ts))) p ∙ get_or_from_slice_get ss i t (sort h (insts ss ts)) e

param_inst : (ss : List Sort) (h : Head) (ts : SortList) (i : ℕ) (t : Sort) → param_of h ≡ Some i → i < length ss → inst ss (sort h ts) ≡ t → slice_get ss i ≡ Some t
param_inst ss h ts i t p l e =
    let d = sort h (insts ss ts) in
    slice_get-get_or ss i d l ∙ ap Some (sym (ap (λ o. value_or o ss d) p) ∙ e)

is_param : (h : Head) (ts : SortList) (i j : ℕ) → param_of h ≡ Some i → ParamIn j (sort h ts) → j ≡ i
is_param h ts i j p q = subst (λ o. ParamAt o j (ParamInEach j ts)) p q

module _ (old : Binding) (h : Head) (ts : SortList) (i : ℕ) (r : NumberedSort) (p : param_of h ≡ Some i) (l : i < length old) where
  fitted_old : (v : NumberedSort) → value_at old i ≡ Some v → tree v ≡ tree r → Fitted old old (sort h ts) r
  fitted_old v e t = record {
    count = refl;
    keeps = λ j w q. q;
    bound = λ j q. (v, ap (value_at old) (is_param h ts i j p q) ∙ e);
    makes = λ ss a. inst_param ss h ts i (tree r) p (a.same i v e ∙ ap Some t);
    only = λ j. inl refl;
    most = λ ss a m. a;
    interned = λ s b k. b;
  }

  now : Binding
  now = set old i (Some r)

  fitted_new : value_at old i ≡ None → Fitted old (set old i (Some r)) (sort h ts) r
  fitted_new none =
      let there : value_at (set old i (Some r)) i ≡ Some r = value_at_set old i (Some r) l in
      record {
        count = length-set old i (Some r);
        keeps = λ j w q. elim (same_or_other j i) [ inl e ↦ cc (e, q, none) | inr n ↦ value_at_set_other old i j (Some r) n ∙ q ];
        bound = λ j q. (r, ap (value_at (set old i (Some r))) (is_param h ts i j p q) ∙ there);
        makes = λ ss a. inst_param ss h ts i (tree r) p (a.same i r there);
        only = λ j. elim (same_or_other j i) [ inl e ↦ inr (subst (λ o. ParamAt o j (ParamInEach j ts)) (sym p) e) | inr n ↦ inl (value_at_set_other old i j (Some r) n) ];
        most = λ ss a m. record {
          count = a.count ∙ sym (length-set old i (Some r));
          same = λ j w q.
              elim (same_or_other j i) [
                | inl e ↦ ap (slice_get ss) e ∙ param_inst ss h ts i (tree r) p (omega (arith, a.count)) m
                    ∙ ap (λ z. Some (tree z)) (some_same r w (value_at (set old i (Some r)) i) there (ap (value_at (set old i (Some r))) (sym e) ∙ q))
                | inr n ↦ a.same j w (sym (value_at_set_other old i j (Some r) n) ∙ q)
              ];
        };
        interned = λ s b k j w q.
            elim (same_or_other j i) [
              | inl e ↦ subst (IsInterned s) (some_same r w (value_at (set old i (Some r)) i) there (ap (value_at (set old i (Some r))) (sym e) ∙ q)) k
              | inr n ↦ b j w (sym (value_at_set_other old i j (Some r) n) ∙ q)
            ];
      }

  misfit_other : HasOther old i r → Fits old (sort h ts) (tree r) → ⊥
  misfit_other o f = o.other (sym (inst_param f.values h ts i (tree o.value) p (f.agree.same i o.value o.found)) ∙ f.makes)

  pub answers_param : (yes : Bool) (new : Binding) → FitAnswerParam yes old new i r → FitAnswer yes old new (sort h ts) r
  answers_param true new (inl f) = subst (λ b. Fitted old b (sort h ts) r) (sym f.unchanged) (fitted_old f.value f.found f.same)
  answers_param true new (inr f) = subst (λ b. Fitted old b (sort h ts) r) (sym f.puts) (fitted_new f.missing)
  answers_param false new o = misfit_other o

-- lists of schemas
param_in_each : (xs : List NumberedSort) (k : ℕ) (d : NumberedSort) (j : ℕ) → k < length xs → ParamIn j (tree (get_or xs k d)) → ParamInEach j (trees (nodes xs))
param_in_each [] k d j l p = absurd (omega arith)
param_in_each (x ∷ xs) zero d j l p = inl p
param_in_each (x ∷ xs) (suc k) d j l p = inr (param_in_each xs k d j (omega arith) p)

pub param_somewhere : (P : Type 0) (xs : List NumberedSort) (j : ℕ) → ((k : ℕ) (d : NumberedSort) → k < length xs → ParamIn j (tree (get_or xs k d)) → P) → ParamInEach j (trees (nodes xs)) → P
param_somewhere P [] j f p = absurd p
param_somewhere P (x ∷ xs) j f (inl p) = f 0 x (omega arith) p
param_somewhere P (x ∷ xs) j f (inr p) = param_somewhere P xs j (λ k d l. f (suc k) d (omega arith)) p

insts_from_each : (ss : List Sort) (xs ys : List NumberedSort) → length xs ≡ length ys → MakesUpTo ss (length xs) xs ys → insts ss (trees (nodes xs)) ≡ trees (nodes ys)
insts_from_each ss [] [] c f = refl
insts_from_each ss [] (y ∷ ys) c f = absurd (omega arith)
insts_from_each ss (x ∷ xs) [] c f = absurd (omega arith)
insts_from_each ss (x ∷ xs) (y ∷ ys) c f =
    let e = f 0 x y (omega arith) in
    let es = insts_from_each ss xs ys (omega arith) (λ k d e l. f (suc k) d e (omega arith)) in
    cc

each_from_insts : (ss : List Sort) (xs ys : List NumberedSort) → insts ss (trees (nodes xs)) ≡ trees (nodes ys) → MakesUpTo ss (length xs) xs ys
each_from_insts ss [] ys e k d g l = absurd (omega arith)
each_from_insts ss (x ∷ xs) [] e k d g l = cc
each_from_insts ss (x ∷ xs) (y ∷ ys) e zero d g l = first_same (inst ss (tree x)) (tree y) (insts ss (trees (nodes xs))) (trees (nodes ys)) e
each_from_insts ss (x ∷ xs) (y ∷ ys) e (suc k) d g l = each_from_insts ss xs ys (rest_same (inst ss (tree x)) (tree y) (insts ss (trees (nodes xs))) (trees (nodes ys)) e) k d g (omega arith)

insts_length : (ss : List Sort) (xs ys : List NumberedSort) → insts ss (trees (nodes xs)) ≡ trees (nodes ys) → length xs ≡ length ys
insts_length ss [] [] e = refl
insts_length ss [] (y ∷ ys) e = cc
insts_length ss (x ∷ xs) [] e = cc
insts_length ss (x ∷ xs) (y ∷ ys) e = ap suc (insts_length ss xs ys (rest_same (inst ss (tree x)) (tree y) (insts ss (trees (nodes xs))) (trees (nodes ys)) e))

module _ (xs ys : List NumberedSort) (i : ℕ) (x y : NumberedSort) (old mid : Binding) (t : FittedUpTo i xs ys old mid) (at : x ≡ get_or xs i x) (at' : y ≡ get_or ys i y) (l : i < length xs) (l' : i < length ys) where
  pub fitted_step : (new : Binding) → Fitted mid new (tree x) y → FittedUpTo (i + 1) xs ys old new
  fitted_step new f = record {
    count = f.count ∙ t.count;
    keeps = λ j v e. f.keeps j v (t.keeps j v e);
    bound = λ k d b j p.
        elim (below_or_last k i b) [
          | inl u ↦ (let h = t.bound k d u j p in (h.0, f.keeps j h.0 h.1))
          | inr q ↦ f.bound j (subst (λ z. ParamIn j (tree z)) (last_at xs k i x d q l at) p)
        ];
    makes = λ ss a k d e b.
        elim (below_or_last k i b) [
          | inl u ↦ t.makes ss (agrees_less mid new ss a f.count f.keeps) k d e u
          | inr q ↦ ap (λ z. inst ss (tree z)) (last_at xs k i x d q l at) ∙ f.makes ss a ∙ ap tree (sym (last_at ys k i y e q l' at'))
        ];
    only = λ j. elim (f.only j) [
      | inl a ↦ elim (t.only j) [ inl b ↦ inl (a ∙ b) | inr p ↦ inr p ]
      | inr p ↦ inr (param_in_each xs i x j l (subst (λ z. ParamIn j (tree z)) at p))
    ];
    most = λ ss a g. f.most ss (t.most ss a (λ k d e b. g k d e (omega arith))) (ap (λ z. inst ss (tree z)) at ∙ g i x y (omega arith) ∙ sym (ap tree at'));
    interned = λ s h hs. f.interned s (t.interned s h hs) (subst (IsInterned s) (sym at') (all_interned_at s ys i y l' hs));
  }

-- a schema that is no parameter
inst_head : (ss : List Sort) (h g : Head) (ts us : SortList) → param_of h ≡ None → inst ss (sort h ts) ≡ sort g us → sort h (insts ss ts) ≡ sort g us
inst_head ss h g ts us none e = sym (ap (λ o. value_or o ss (sort h (insts ss ts))) none) ∙ e

same_parts : (h g : Head) (ts us : SortList) → sort h ts ≡ sort g us → ts ≡ us
same_parts h g ts us e = cc

pub misfit_count : (old : Binding) (h g : Head) (xs ys : List NumberedSort) → param_of h ≡ None → (length xs ≡ length ys → ⊥) → Fits old (sort h (trees (nodes xs))) (sort g (trees (nodes ys))) → ⊥
misfit_count old h g xs ys none n f =
    n (insts_length f.values xs ys (same_parts h g (insts f.values (trees (nodes xs))) (trees (nodes ys)) (inst_head f.values h g (trees (nodes xs)) (trees (nodes ys)) none f.makes)))

pub answers_node : (yes : Bool) (old new : Binding) (h g : Head) (m : ℕ) (xs ys : List NumberedSort) → param_of h ≡ None → h ≡ g → length xs ≡ length ys → FitAnswerEach yes old new xs ys → FitAnswer yes old new (sort h (trees (nodes xs))) (node m g (nodes ys))
answers_node true old new h g m xs ys none same c t = record {
  count = t.count;
  keeps = t.keeps;
  bound = λ j p. param_somewhere (HasValue new j) xs j (λ k d l q. t.bound k d l j q) (subst (λ o. ParamAt o j (ParamInEach j (trees (nodes xs)))) none p);
  makes = λ ss a. ap (λ o. value_or o ss (sort h (insts ss (trees (nodes xs))))) none ∙ ap (sort h) (insts_from_each ss xs ys c (t.makes ss a)) ∙ ap (λ z. sort z (trees (nodes ys))) same;
  only = λ j. elim (t.only j) [ inl a ↦ inl a | inr p ↦ inr (subst (λ o. ParamAt o j (ParamInEach j (trees (nodes xs)))) (sym none) p) ];
  most = λ ss a e. t.most ss a (each_from_insts ss xs ys (same_parts h g (insts ss (trees (nodes xs))) (trees (nodes ys)) (inst_head ss h g (trees (nodes xs)) (trees (nodes ys)) none e)));
  interned = λ s b k. t.interned s b k.1;
}
answers_node false old new h g m xs ys none same c t =
    λ f. t f.values f.agree (each_from_insts f.values xs ys (same_parts h g (insts f.values (trees (nodes xs))) (trees (nodes ys)) (inst_head f.values h g (trees (nodes xs)) (trees (nodes ys)) none f.makes)))

-- any sort for a parameter with no value
abbrev pub fill : Sort → Binding → List Sort
fill d [] = []
fill d (Some v ∷ b) = tree v ∷ fill d b
fill d (None ∷ b) = d ∷ fill d b

pub fill_length : (d : Sort) (b : Binding) → length (fill d b) ≡ length b
fill_length d [] = refl
fill_length d (Some v ∷ b) = ap suc (fill_length d b)
fill_length d (None ∷ b) = ap suc (fill_length d b)

pub fill_at : (d : Sort) (b : Binding) (i : ℕ) (v : NumberedSort) → value_at b i ≡ Some v → slice_get (fill d b) i ≡ Some (tree v)
fill_at d [] i v e = cc
fill_at d (Some w ∷ b) zero v e = let s : w ≡ v = cc in ap (λ z. Some (tree z)) s
fill_at d (None ∷ b) zero v e = cc
fill_at d (Some w ∷ b) (suc i) v e = fill_at d b i v e
fill_at d (None ∷ b) (suc i) v e = fill_at d b i v e

pub fits_from_fitted : (old new : Binding) (schema : Sort) (r : NumberedSort) → Fitted old new schema r → Fits old schema (tree r)
fits_from_fitted old new schema r f =
    let a : Agrees new (fill schema new) = record { count = fill_length schema new; same = fill_at schema new } in
    record { values = fill schema new; agree = agrees_less old new (fill schema new) a f.count f.keeps; makes = f.makes (fill schema new) a }

pub answer_more : {E : Type 0} (P Q : Bool → Type 0) (o : Result Bool E) → ((yes : Bool) → P yes → Q yes) → IfOk o P → IfOk o Q
answer_more P Q (Ok w) f h = f w h
answer_more P Q (Err e) f h = tt

pub value_at_some : (b : Binding) (i : ℕ) (o : Option NumberedSort) → slice_get b i ≡ Some o → value_at b i ≡ o
value_at_some [] i o e = cc
value_at_some (v ∷ b) zero o e = cc
value_at_some (v ∷ b) (suc i) o e = value_at_some b i o e

pub value_at_none : (b : Binding) (i : ℕ) → slice_get b i ≡ None → value_at b i ≡ None
value_at_none [] i e = refl
value_at_none (v ∷ b) zero e = cc
value_at_none (v ∷ b) (suc i) e = value_at_none b i e

pub ruleset get_words = (value_at_some, value_at_none)

pub fit_param_words : (yes : Bool) (old : Binding) (i : ℕ) (v r : NumberedSort) → value_at old i ≡ Some v → (yes ≡ true → tree v ≡ tree r) → (tree v ≡ tree r → yes ≡ true) → FitAnswerParam yes old old i r
fit_param_words true old i v r e f g = inl (record { value = v; found = e; same = f refl; unchanged = refl })
fit_param_words false old i v r e f g = record { value = v; found = e; other = λ s. (let h = g s in cc) }

pub replicate_push : (n : ℕ) (o : Option NumberedSort) → replicate n o ++ o ∷ [] ≡ replicate (n + 1) o
replicate_push n o = rw add-one (by n o)
  where
    by : (n : ℕ) (o : Option NumberedSort) → replicate n o ++ o ∷ [] ≡ replicate (suc n) o
    by zero o = refl
    by (suc n) o = ap (λ z. o ∷ z) (by n o)

-- the clauses as the functions have them
pub below_of : (n : ℕ) (r : NumberedSort) (m : ℕ) (h : Head) (ts : NumberedSorts) (i : ℕ) → node m h ts ≡ r → param_of h ≡ Some i → ParamsBelow n (tree r) → i < n
below_of n r m h ts i is p q = subst (IsBelow n) p (subst (λ z. ParamsBelow n (tree z)) (sym is) q).0

pub params_each : (n : ℕ) (xs : List NumberedSort) (i : ℕ) (x : NumberedSort) → i < length xs → x ≡ get_or xs i x → EachParamsBelow n (trees (nodes xs)) → ParamsBelow n (tree x)
params_each n xs i x l at p = subst (λ z. ParamsBelow n (tree z)) (sym at) (params_at n xs i x l p)

pub fits_shown : (old : Binding) (s r a b : NumberedSort) → a ≡ s → b ≡ r → Fits old (tree s) (tree r) → Fits old (tree a) (tree b)
fits_shown old s r a b e g f = subst (λ z. Fits old (tree z) (tree b)) (sym e) (subst (λ z. Fits old (tree s) (tree z)) (sym g) f)

pub answers_shown : (w : Bool) (old new : Binding) (s r a b : NumberedSort) → a ≡ s → b ≡ r → FitAnswer w old new (tree a) b → FitAnswer w old new (tree s) r
answers_shown w old new s r a b e g f = subst (λ z. FitAnswer w old new (tree z) r) e (subst (λ z. FitAnswer w old new (tree a) z) g f)

pub answers_true : (w : Bool) (old new : Binding) (s : Sort) (r : NumberedSort) → w ≡ true → FitAnswer w old new s r → Fitted old new s r
answers_true w old new s r e a = subst (λ z. FitAnswer z old new s r) e a

pub fits_if : (w : Bool) (old new : Binding) (s : Sort) (r : NumberedSort) → FitAnswer w old new s r → (IsTrue w ↔ Fits old s (tree r)) × (IsTrue w → Fitted old new s r)
fits_if true old new s r a = ((λ t. fits_from_fitted old new s r a, λ f. search rules), λ t. a)
fits_if false old new s r a = ((λ t. absurd (search rules), λ f. absurd (a f)), λ t. absurd (search rules))

pub each_shown : (w : Bool) (old new : Binding) (xs ys us vs : List NumberedSort) → xs ≡ us → ys ≡ vs → FitAnswerEach w old new xs ys → FitAnswerEach w old new us vs
each_shown w old new xs ys us vs e g f = subst (λ z. FitAnswerEach w old new z vs) e (subst (λ z. FitAnswerEach w old new xs z) g f)

pub params_count : (n m : ℕ) (s : Sort) → m ≡ n → ParamsBelow n s → ParamsBelow m s
params_count n m s e p = subst (λ z. ParamsBelow z s) (sym e) p
