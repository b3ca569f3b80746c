-- A function symbol has a rank with some argument sorts or has none, and which result sorts these have is decided. A symbol
-- that is not ambiguous has one result sort at most.
use Rattle.std.proofs.Common.{◌≡◌, ℕ, zero, suc, ◌<◌, true, false, if◌then◌else◌, ◌⊎◌, inl, inr, List, [], ◌∷◌, length, map, Option, Some, None, slice_get, get_or, unwrap_or, refl, ap, sym, subst, ◌∙◌, arith}
use Rattle.std.proofs.Math.Dec.{eqb, ltb}
use Rattle.std.proofs.lemmas.Bool.{cases_Bool, eqb-true, eq-eqb, ltb-true, ltb-false}
use Rattle.std.proofs.lemmas.List.{get_or_past, same_lists}
use Rattle.std.proofs.lemmas.Option.{slice_get-get_or, unwrap_or-slice_get}
use Rattle.sig_table.specs.declared.theories.Theories.{Theories}
use Rattle.sort_store.specs.declared.head.Head.{Head}
use Rattle.sort_store.specs.Tree.{Sort, sort, SortList, no_sorts, more_sorts, sorts}
use Rattle.sort_store.specs.Instance.{param_of, value_or, inst, insts, IsBelow}
use Rattle.sort_store.specs.Binding.{ParamAt, ParamIn, ParamInEach}
use Rattle.sort_store.specs.Ranks.{ranks_of, HasRank}
use Rattle.sort_store.specs.CoreRanks.{bool}
use Rattle.sort_store.proofs.ArgumentLists.{first_same, rest_same, sorts_same}
use Rattle.theory_core.specs.TheorySymbols.{theory_symbols}
use Rattle.theory_core.proofs.SortsDecided.{sort_decided, sort_list_decided}
use Rattle.theory_core.proofs.RankLaws.{rank_once}
use Rattle.theory_core.proofs.RankDecisions.{IsDecided, decided_by, ranks_decided}
use Rattle.typer.specs.Declarations.{FunDeclaration}
use Rattle.typer.specs.LiveRanks.{HasInstance, is_ambiguous}
use Rattle.typer.proofs.Occurrences.{given}

-- the symbols of the theories
pub theory_rank_decided : (theories : Theories) (text : List ℕ) (args : List Sort)
    → ((t : Sort) × HasRank (ranks_of text (theory_symbols theories)) args t) ⊎ (((t : Sort) × HasRank (ranks_of text (theory_symbols theories)) args t) → ⊥)
theory_rank_decided theories text args = ranks_decided theories text args

pub theory_result_once : (theories : Theories) (text : List ℕ) (args : List Sort) (t u : Sort)
    → HasRank (ranks_of text (theory_symbols theories)) args t → HasRank (ranks_of text (theory_symbols theories)) args u → t ≡ u
theory_result_once theories text args t u p q = rank_once theories text args t u p q

pub theory_result_decided : (theories : Theories) (text : List ℕ) (args : List Sort) (t : Sort)
    → HasRank (ranks_of text (theory_symbols theories)) args t ⊎ (HasRank (ranks_of text (theory_symbols theories)) args t → ⊥)
theory_result_decided theories text args t = elim (theory_rank_decided theories text args) [
  | inl w ↦ decided_by (w.0 ≡ t) (HasRank (ranks_of text (theory_symbols theories)) args t) (λ e. subst (HasRank (ranks_of text (theory_symbols theories)) args) e w.1) (theory_result_once theories text args w.0 t w.1) (sort_decided w.0 t)
  | inr n ↦ inr (λ h. n (t, h))
]

-- The parameters of a declaration are the first n. A parameter past them has no value, and stays as other sort symbols do.
abbrev among_first : ℕ → Option ℕ → Option ℕ
among_first n None = None
among_first n (Some j) = if ltb j n then Some j else None

abbrev param_among : ℕ → Head → Option ℕ
param_among n h = among_first n (param_of h)

among_below : (n : ℕ) (o : Option ℕ) → IsBelow n (among_first n o)
among_below n None = tt
among_below n (Some j) = elim (cases_Bool (ltb j n)) [ inl e ↦ rw e (ltb-true j n e) | inr e ↦ rw e tt ]

among_values : (n : ℕ) (values : List Sort) → length values ≡ n → (o : Option ℕ) (d : Sort) → value_or o values d ≡ value_or (among_first n o) values d
among_values n values c None d = refl
among_values n values c (Some j) d = elim (cases_Bool (ltb j n)) [
  | inl e ↦ rw e refl
  | inr e ↦ (let l = ltb-false j n e in rw e (get_or_past values j d (omega (arith, l, c))))
]

inst_among : (n : ℕ) (values : List Sort) → length values ≡ n → (h : Head) (ts : SortList) → inst values (sort h ts) ≡ value_or (param_among n h) values (sort h (insts values ts))
inst_among n values c h ts = among_values n values c (param_of h) (sort h (insts values ts))

-- The parameter stands in the schema. One that has a value hides what is inside.
abbrev mutual
  Stands : ℕ → ℕ → Sort → Type 0
  Stands n i (sort h ts) = ParamAt (param_among n h) i (StandsInEach n i ts)

  StandsInEach : ℕ → ℕ → SortList → Type 0
  StandsInEach n i no_sorts = ⊥
  StandsInEach n i (more_sorts t ts) = Stands n i t ⊎ StandsInEach n i ts

-- Values that agree wherever a parameter stands make the same of a schema.
values_at : (n : ℕ) (v w : List Sort) → length v ≡ n → length w ≡ n → (j : ℕ) (x y : Sort) → j < n → slice_get v j ≡ slice_get w j → get_or v j x ≡ get_or w j y
values_at n v w c d j x y l e =
    let a : slice_get v j ≡ Some (get_or v j x) = slice_get-get_or v j x (omega (arith, l, c)) in
    let b : slice_get w j ≡ Some (get_or w j y) = slice_get-get_or w j y (omega (arith, l, d)) in
    cc

module _ (n : ℕ) (v w : List Sort) (c : length v ≡ n) (d : length w ≡ n) where
  agree_at : (o : Option ℕ) (x y : Sort) (In : ℕ → Type 0) → IsBelow n o → ((i : ℕ) → i < n → ParamAt o i (In i) → slice_get v i ≡ slice_get w i) → (((i : ℕ) → i < n → In i → slice_get v i ≡ slice_get w i) → x ≡ y) → value_or o v x ≡ value_or o w y
  agree_at None x y In b same inside = inside same
  agree_at (Some j) x y In b same inside = values_at n v w c d j x y b (same j b refl)

  mutual
    agree : (s : Sort) → ((i : ℕ) → i < n → Stands n i s → slice_get v i ≡ slice_get w i) → inst v s ≡ inst w s
    agree (sort h ts) same =
        inst_among n v c h ts
        ∙ agree_at (param_among n h) (sort h (insts v ts)) (sort h (insts w ts)) (λ i. StandsInEach n i ts) (among_below n (param_of h)) same (λ f. ap (sort h) (agree_each ts f))
        ∙ sym (inst_among n w d h ts)

    agree_each : (ts : SortList) → ((i : ℕ) → i < n → StandsInEach n i ts → slice_get v i ≡ slice_get w i) → insts v ts ≡ insts w ts
    agree_each no_sorts same = refl
    agree_each (more_sorts t ts) same =
        ap (λ z. more_sorts z (insts v ts)) (agree t (λ i l p. same i l (inl p))) ∙ ap (more_sorts (inst w t)) (agree_each ts (λ i l p. same i l (inr p)))

-- The value that a parameter has if the schema is to become the sort: the sort at the first place where it stands, and the
-- given one where it stands nowhere.
abbrev pick_at : Option ℕ → ℕ → Sort → Sort → Sort → Sort
pick_at None i t d inside = inside
pick_at (Some j) i t d inside = if eqb i j then t else d

abbrev arguments : Sort → SortList
arguments (sort h ts) = ts

abbrev mutual
  pick : ℕ → ℕ → Sort → Sort → Sort → Sort
  pick n i (sort h ss) t d = pick_at (param_among n h) i t d (pick_each n i ss (arguments t) d)

  pick_each : ℕ → ℕ → SortList → SortList → Sort → Sort
  pick_each n i no_sorts ts d = d
  pick_each n i (more_sorts s ss) no_sorts d = d
  pick_each n i (more_sorts s ss) (more_sorts t ts) d = pick n i s t (pick_each n i ss ts d)

-- Where values make the schema the sort, it is the value that they give the parameter.
module _ (n : ℕ) (values : List Sort) (c : length values ≡ n) (i : ℕ) where
  abbrev Is : Sort → Type 0
  Is t = slice_get values i ≡ Some t

  picked_here : (j : ℕ) (x t : Sort) → j < n → get_or values j x ≡ t → i ≡ j → Is t
  picked_here j x t l e s = ap (slice_get values) s ∙ slice_get-get_or values j x (omega (arith, l, c)) ∙ ap Some e

  picked_at : (o : Option ℕ) (x t d p : Sort) (In : Type 0) → IsBelow n o → value_or o values x ≡ t → (x ≡ t → In ⊎ Is d → Is p) → ParamAt o i In ⊎ Is d → Is (pick_at o i t d p)
  picked_at None x t d p In b e inside h = inside e h
  picked_at (Some j) x t d p In b e inside h = elim (cases_Bool (eqb i j)) [
    | inl q ↦ rw q (picked_here j x t b e (eqb-true i j q))
    | inr q ↦ rw q (elim h [ inl s ↦ (let r : eqb i j ≡ true = eq-eqb i j s in cc) | inr k ↦ k ])
  ]

  mutual
    picked : (s t d : Sort) → inst values s ≡ t → Stands n i s ⊎ Is d → Is (pick n i s t d)
    picked (sort h ss) t d e =
        picked_at (param_among n h) (sort h (insts values ss)) t d (pick_each n i ss (arguments t) d) (StandsInEach n i ss) (among_below n (param_of h)) (sym (inst_among n values c h ss) ∙ e)
        (λ f. picked_each ss (arguments t) d (ap arguments f))

    picked_each : (ss ts : SortList) (d : Sort) → insts values ss ≡ ts → StandsInEach n i ss ⊎ Is d → Is (pick_each n i ss ts d)
    picked_each no_sorts ts d e (inl p) = absurd p
    picked_each no_sorts ts d e (inr k) = k
    picked_each (more_sorts s ss) no_sorts d e h = cc
    picked_each (more_sorts s ss) (more_sorts t ts) d e h =
        let first : inst values s ≡ t = first_same (inst values s) t (insts values ss) ts e in
        let rest : insts values ss ≡ ts = rest_same (inst values s) t (insts values ss) ts e in
        elim h [
          | inl p ↦ elim p [
            | inl q ↦ picked s t (pick_each n i ss ts d) first (inl q)
            | inr q ↦ picked s t (pick_each n i ss ts d) first (inr (picked_each ss ts d rest (inl q)))
          ]
          | inr k ↦ picked s t (pick_each n i ss ts d) first (inr (picked_each ss ts d rest (inr k)))
        ]

-- the first n values of a function
abbrev values_of : (ℕ → Sort) → ℕ → List Sort
values_of f zero = []
values_of f (suc n) = f 0 ∷ values_of (λ i. f (suc i)) n

values_count : (f : ℕ → Sort) (n : ℕ) → length (values_of f n) ≡ n
values_count f zero = refl
values_count f (suc n) = ap suc (values_count (λ i. f (suc i)) n)

value_of : (f : ℕ → Sort) (n i : ℕ) → i < n → slice_get (values_of f n) i ≡ Some (f i)
value_of f zero i l = absurd (omega (arith, l))
value_of f (suc n) zero l = refl
value_of f (suc n) (suc i) l = value_of (λ k. f (suc k)) n i (omega (arith, l))

-- some values make the schemas these sorts
record SomeMake (n : ℕ) (ss ts : SortList) : Type 0 where
  values : List Sort
  count : length values ≡ n
  make : insts values ss ≡ ts

abbrev picked_values : ℕ → SortList → SortList → List Sort
picked_values n ss ts = values_of (λ i. pick_each n i ss ts bool) n

-- if some values do then these do
picked_make : (n : ℕ) (ss ts : SortList) → SomeMake n ss ts → insts (picked_values n ss ts) ss ≡ ts
picked_make n ss ts m =
    agree_each n (picked_values n ss ts) m.values (values_count (λ i. pick_each n i ss ts bool) n) m.count ss (
    λ i l p. value_of (λ k. pick_each n k ss ts bool) n i l ∙ sym (picked_each n m.values m.count i ss ts bool m.make (inl p))
    )
    ∙ m.make

make_decided : (n : ℕ) (ss ts : SortList) → IsDecided (SomeMake n ss ts)
make_decided n ss ts =
    decided_by (insts (picked_values n ss ts) ss ≡ ts) (SomeMake n ss ts) (λ e. record { values = picked_values n ss ts; count = values_count (λ i. pick_each n i ss ts bool) n; make = e }) (picked_make n ss ts)
    (sort_list_decided (insts (picked_values n ss ts) ss) ts)

-- the symbols of declarations
insts_sorts : (values ss : List Sort) → insts values (sorts ss) ≡ sorts (map (inst values) ss)
insts_sorts values [] = refl
insts_sorts values (s ∷ ss) = ap (more_sorts (inst values s)) (insts_sorts values ss)

takes_made : (values ss ts : List Sort) → insts values (sorts ss) ≡ sorts ts → map (inst values) ss ≡ ts
takes_made values ss ts e = sorts_same (map (inst values) ss) ts (sym (insts_sorts values ss) ∙ e)

pub made_takes : (values ss ts : List Sort) → map (inst values) ss ≡ ts → insts values (sorts ss) ≡ sorts ts
made_takes values ss ts e = insts_sorts values ss ∙ ap sorts e

pub instance_decided : (f : FunDeclaration) (args : List Sort) → ((t : Sort) × HasInstance f args t) ⊎ (((t : Sort) × HasInstance f args t) → ⊥)
instance_decided f args =
    decided_by (SomeMake f.params (sorts f.args) (sorts args)) ((t : Sort) × HasInstance f args t) (
    λ m. (inst m.values f.result, record { values = m.values; count = m.count; takes = takes_made m.values f.args args m.make; gives = refl })
    ) (λ w. record { values = w.1.values; count = w.1.count; make = made_takes w.1.values f.args args w.1.takes }) (make_decided f.params (sorts f.args) (sorts args))

pub instance_result_decided : (f : FunDeclaration) (args : List Sort) (t : Sort) → HasInstance f args t ⊎ (HasInstance f args t → ⊥)
instance_result_decided f args t =
    decided_by (SomeMake f.params (sorts (f.result ∷ f.args)) (sorts (t ∷ args))) (HasInstance f args t) (
    λ m. record {
      values = m.values;
      count = m.count;
      takes = takes_made m.values f.args args (rest_same (inst m.values f.result) t (insts m.values (sorts f.args)) (sorts args) m.make);
      gives = first_same (inst m.values f.result) t (insts m.values (sorts f.args)) (sorts args) m.make;
    }
    ) (
    λ h. record {
      values = h.values;
      count = h.count;
      make = ap (λ z. more_sorts z (insts h.values (sorts f.args))) h.gives ∙ ap (more_sorts t) (made_takes h.values f.args args h.takes);
    }
    ) (make_decided f.params (sorts (f.result ∷ f.args)) (sorts (t ∷ args)))

-- Values that make the same of a schema agree on each parameter that stands in it.
module _ (v w : List Sort) (i : ℕ) (c : i < length v) (d : i < length w) where
  told_at : (o : Option ℕ) (x y : Sort) (In : Type 0) → ParamAt o i In → value_or o v x ≡ value_or o w y → (In → x ≡ y → slice_get v i ≡ slice_get w i) → slice_get v i ≡ slice_get w i
  told_at None x y In p e f = f p e
  told_at (Some j) x y In p e f =
      let same : get_or v i x ≡ get_or w i y = ap (λ k. get_or v k x) p ∙ e ∙ ap (λ k. get_or w k y) (sym p) in
      slice_get-get_or v i x c ∙ ap Some same ∙ sym (slice_get-get_or w i y d)

  mutual
    told : (s : Sort) → ParamIn i s → inst v s ≡ inst w s → slice_get v i ≡ slice_get w i
    told (sort h ts) p e = told_at (param_of h) (sort h (insts v ts)) (sort h (insts w ts)) (ParamInEach i ts) p e (λ q r. told_each ts q (let s : insts v ts ≡ insts w ts = ap arguments r in s))

    told_each : (ts : SortList) → ParamInEach i ts → insts v ts ≡ insts w ts → slice_get v i ≡ slice_get w i
    told_each no_sorts p e = absurd p
    told_each (more_sorts t ts) (inl p) e = told t p (first_same (inst v t) (inst w t) (insts v ts) (insts w ts) e)
    told_each (more_sorts t ts) (inr p) e = told_each ts p (rest_same (inst v t) (inst w t) (insts v ts) (insts w ts) e)

same_value : (v w : List Sort) (i : ℕ) (d : Sort) → slice_get v i ≡ slice_get w i → get_or v i d ≡ get_or w i d
same_value v w i d e = sym (unwrap_or-slice_get v i d) ∙ ap (λ o. unwrap_or o d) e ∙ unwrap_or-slice_get w i d

pub instance_result_once : (f : FunDeclaration) (args : List Sort) (t u : Sort) → is_ambiguous f ≡ false → HasInstance f args t → HasInstance f args u → t ≡ u
instance_result_once f args t u clear a b =
    let made : insts a.values (sorts f.args) ≡ insts b.values (sorts f.args) = made_takes a.values f.args args a.takes ∙ sym (made_takes b.values f.args args b.takes) in
    let same : a.values ≡ b.values =
    same_lists a.values b.values (a.count ∙ sym b.count) (
    λ i d l. same_value a.values b.values i d (told_each a.values b.values i l (omega (arith, l, a.count, b.count)) (sorts f.args) (given f.params i f.args clear (omega (arith, l, a.count))) made)
    ) in
    sym a.gives ∙ ap (λ z. inst z f.result) same ∙ b.gives
