-- In a ready group each member of the unfolding has as many arguments at each datatype as that has parameters.
use Rattle.std.proofs.Common.{◌≡◌, Bool, true, false, nat_eq, if◌then◌else◌, ℕ, zero, suc, ◌<◌, List, [], ◌∷◌, ◌++◌, length, get_or, Option, Some, None, refl, ap, sym, ◌∙◌, subst, arith}
use Rattle.std.proofs.lemmas.List.{length-append}
use Rattle.std.specs.List.{Contains}
use Rattle.sort_store.specs.declared.head.Head.{Head}
use Rattle.sort_store.specs.declared.head.Head.TheVariants as head
use Rattle.sort_store.specs.Instance.{inst, insts, param_of, value_or, IsBelow, ParamsBelow, EachParamsBelow}
use Rattle.sort_store.specs.Tree.{Sort, sort, SortList, no_sorts, more_sorts, sorts}
use Rattle.term_store.specs.Command.{PlainDatatype}
use Rattle.dt_rules.specs.Groups.{known, numbered, param_sorts, own_sort, sort_list, HasArity, HasArities, EachHasArities, IsReadyGroup}
use Rattle.dt_rules.specs.Unfolding.{IsMember, own, added, Adds}

pub list_of_sorts : (ss : List Sort) → sort_list (sorts ss) ≡ ss
list_of_sorts [] = refl
list_of_sorts (s ∷ ss) = ap (λ z. s ∷ z) (list_of_sorts ss)

param_count : (n : ℕ) → length (param_sorts n) ≡ n
param_count zero = refl
param_count (suc n) = omega (arith, length-append (param_sorts n) (sort (head.Param n) no_sorts ∷ []), param_count n)

module _ (ts : List PlainDatatype) where
  each_append : (ss us : List Sort) → EachHasArities ts (sorts ss) → EachHasArities ts (sorts us) → EachHasArities ts (sorts (ss ++ us))
  each_append [] us h k = k
  each_append (s ∷ ss) us h k = (h.0, each_append ss us h.1 k)

  params_have : (n : ℕ) → EachHasArities ts (sorts (param_sorts n))
  params_have zero = tt
  params_have (suc n) = each_append (param_sorts n) (sort (head.Param n) no_sorts ∷ []) (params_have n) ((tt, tt), tt)

  each_at : (ss : List Sort) (k : ℕ) (d : Sort) → k < length ss → EachHasArities ts (sorts ss) → HasArities ts (get_or ss k d)
  each_at [] k d l h = absurd (omega (arith, l))
  each_at (s ∷ ss) zero d l h = h.0
  each_at (s ∷ ss) (suc k) d l h = each_at ss k d (omega (arith, l)) h.1

  pub each_contained : (ss : List Sort) (s : Sort) → EachHasArities ts (sorts ss) → Contains ss s → HasArities ts s
  each_contained ss s h (k, l, e) = subst (HasArities ts) e (each_at ss k s l h)

  same_count : (args : List Sort) (us : SortList) → length (sort_list (insts args us)) ≡ length (sort_list us)
  same_count args no_sorts = refl
  same_count args (more_sorts u us) = ap suc (same_count args us)

  module _ (args : List Sort) (all : EachHasArities ts (sorts args)) where
    put_in : (h : Head) (us : SortList) (o : Option ℕ) → IsBelow (length args) o → HasArity ts h (length (sort_list us)) → EachHasArities ts (insts args us) → HasArities ts (value_or o args (sort h (insts args us)))
    put_in h us None below arity each = (subst (HasArity ts h) (sym (same_count args us)) arity, each)
    put_in h us (Some i) below arity each = each_at args i _ below all

    mutual
      pub inst_has : (s : Sort) → ParamsBelow (length args) s → HasArities ts s → HasArities ts (inst args s)
      inst_has (sort h us) below has = put_in h us (param_of h) below.0 has.0 (insts_have us below.1 has.1)

      insts_have : (us : SortList) → EachParamsBelow (length args) us → EachHasArities ts us → EachHasArities ts (insts args us)
      insts_have no_sorts below has = tt
      insts_have (more_sorts u us) below has = (inst_has u below.0 has.0, insts_have us below.1 has.1)

pub some_same : {X : Type 0} (x y : X) → Some x ≡ Some y → x ≡ y
some_same x y e = cc

found_step : (x : PlainDatatype) (ts : List PlainDatatype) (t : PlainDatatype) (b : Bool) (rest : Option PlainDatatype) → (rest ≡ Some t → Contains ts t) → (if b then Some x else rest) ≡ Some t → Contains (x ∷ ts) t
found_step x ts t true rest f e = (0, omega arith, some_same x t e)
found_step x ts t false rest f e = let h = f e in (suc h.0, omega (arith, h.1), h.2)

-- what is found is among the datatypes
pub found_contained : (ts : List PlainDatatype) (n : ℕ) (t : PlainDatatype) → numbered ts n ≡ Some t → Contains ts t
found_contained [] n t e = cc
found_contained (x ∷ ts) n t e = found_step x ts t (nat_eq n x.no.0) (numbered ts n) (found_contained ts n t) e

module _ (kept group : List PlainDatatype) (ready : IsReadyGroup kept group) where
  abbrev ts : List PlainDatatype
  ts = known kept group

  own_has : (t : PlainDatatype) → Contains group t → HasArities ts (own_sort t)
  own_has t c = ((t, ready.apart t c, sym (ap length (list_of_sorts (param_sorts (length t.params))) ∙ param_count (length t.params))), params_have ts (length t.params))

  adds_has : (h : Head) (args : List Sort) (s : Sort) → HasArities ts (sort h (sorts args)) → Adds ts h args s → HasArities ts s
  adds_has (head.Data d n) args s has (t, found, (c, in_t, (f, in_c, e))) =
      let u = has.0 in
      let same : u.0 ≡ t = some_same u.0 t (sym u.1 ∙ found) in
      let count : length t.params ≡ length args = ap (λ (z : PlainDatatype). length z.params) (sym same) ∙ u.2 ∙ ap length (list_of_sorts args) in
      let field = ready.fields t c f (found_contained ts d.0 t found) in_t in_c in
      subst (HasArities ts) (sym e) (inst_has ts args has.1 f.sort (subst (λ z. ParamsBelow z f.sort) count field.params) field.arities)
  adds_has head.Array args s has p = each_contained ts args s has.1 p
  adds_has head.Bool args s has p = absurd p
  adds_has head.Int args s has p = absurd p
  adds_has (head.BitVec m) args s has p = absurd p
  adds_has (head.Free d n) args s has p = absurd p
  adds_has (head.Param i) args s has p = absurd p

  pub member_has : (s : Sort) → IsMember ts group s → HasArities ts s
  member_has _ (own t c) = own_has t c
  member_has _ (added h args s m e p) = adds_has h args s (member_has (sort h (sorts args)) m) p
