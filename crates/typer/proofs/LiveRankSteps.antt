-- What matching the declaration of a live function symbol with argument sorts says of its ranks.
use Rattle.std.proofs.Common.{◌≡◌, ℕ, zero, suc, ◌<◌, ◌≤◌, Bool, true, false, List, [], ◌∷◌, length, map, replicate, Option, Some, None, Result, Ok, Err, refl, ap, sym, ◌∙◌, subst, IsTrue, ◌↔◌}
use Rattle.sort_store.specs.Tree.{Sort, sort, SortList, no_sorts, more_sorts, NumberedSort, tree, node_count}
use Rattle.sort_store.specs.declared.head.Head.TheVariants as head
use Rattle.sort_store.specs.Instance.{inst, insts}
use Rattle.sort_store.specs.Binding.{value_at, HasValue, Agrees, Fits, FitsEach, FittedEach}
use Rattle.scope_stack.specs.declared.entry.FunEntry.{FunEntry}
use Rattle.typer.specs.Declarations.{FunDeclaration, fun_declaration}
use Rattle.typer.specs.LiveRanks.{HasInstance, is_ambiguous}
use Rattle.sort_store.proofs.MatchingLists.{fits_each_from_fitted}
use Rattle.std.specs.Result.{IfErr, IfOk}
use Rattle.sort_store.specs.Interned.{IsInterned, AllInterned}
use Rattle.typer.specs.Answers.{Answers, fault_at, tree_answer}
use Rattle.dt_rules.specs.declared.error.TyError.{TyError}
use Rattle.dt_rules.specs.declared.error.TyError.TheVariants as error
use Rattle.typer.specs.LiveRanks.{judge_live}
use Rattle.typer.proofs.Occurrences.{given}
use Rattle.typer.proofs.RankAnswers.{no_rank, not_given, too_large, has_rank, other_rank, has_asked_rank, of_copy}
use Rattle.sig_table.specs.declared.code.Code.TheVariants.{NoRank, AmbiguousConstructor, WrongQualifiedSort, SortTooLarge}

abbrev pub Binding : Type 0
Binding = List (Option NumberedSort)

-- a binding of no values
none_at : (n i : ℕ) (v : NumberedSort) → value_at (replicate n None) i ≡ Some v → ⊥
none_at zero i v e = cc
none_at (suc n) zero v e = cc
none_at (suc n) (suc i) v e = none_at n i v e

none_length : (n : ℕ) (o : Option NumberedSort) → length (replicate n o) ≡ n
none_length zero o = refl
none_length (suc n) o = ap suc (none_length n o)

any_agree : (n : ℕ) (values : List Sort) → length values ≡ n → Agrees (replicate n None) values
any_agree n values e = record { count = e ∙ sym (none_length n None); same = λ i v f. absurd (none_at n i v f) }

module _ (f : FunEntry) where
  abbrev F : FunDeclaration
  F = fun_declaration f

  abbrev no_values : Binding
  no_values = replicate f.params None

  -- some values make the declaration's argument sorts these
  pub some_rank : (args : List Sort) → FitsEach no_values (map tree f.args) args → (s : Sort) × HasInstance F args s
  some_rank args h = (inst h.values (tree f.result), record { values = h.values; count = h.agree.count ∙ none_length f.params None; takes = h.makes; gives = refl })

  pub no_instance : (args : List Sort) → (FitsEach no_values (map tree f.args) args → ⊥) → (s : Sort) → HasInstance F args s → ⊥
  no_instance args n s h = n (record { values = h.values; agree = any_agree f.params h.values h.count; makes = h.takes })

  module _ (new : Binding) (args : List NumberedSort) (fitted : FittedEach no_values new (map tree f.args) args) where
    instance_of : (values : List Sort) → Agrees new values → HasInstance F (map tree args) (inst values (tree f.result))
    instance_of values a = record { values = values; count = a.count ∙ fitted.count ∙ none_length f.params None; takes = fitted.makes values a; gives = refl }

    pub given_rank : (values : List Sort) (t : Sort) → Agrees new values → t ≡ inst values (tree f.result) → HasInstance F (map tree args) t
    given_rank values t a e = subst (HasInstance F (map tree args)) (sym e) (instance_of values a)

    pub asked_rank : (t : Sort) → Fits new (tree f.result) t → HasInstance F (map tree args) t
    asked_rank t h = given_rank h.values t h.agree (sym h.makes)

    pub not_asked : (t : Sort) → (Fits new (tree f.result) t → ⊥) → HasInstance F (map tree args) t → ⊥
    not_asked t n h = n (record { values = h.values; agree = fitted.most h.values (any_agree f.params h.values h.count) h.takes; makes = h.gives })

    -- where the symbol is not ambiguous, each parameter has a value
    pub all_given : is_ambiguous F ≡ false → (i : ℕ) → i < f.params → HasValue new i
    all_given e i l = fitted.bound i (given f.params i (map tree f.args) e l)

    pub count_given : length new ≡ f.params
    count_given = fitted.count ∙ none_length f.params None

    some_instance : (s : Sort) × HasInstance F (map tree args) s
    some_instance = some_rank (map tree args) (fits_each_from_fitted (tree f.result) no_values new f.args args fitted)

    -- the outcomes, where a sort is asked for
    pub asked_is : (at : ℕ) (w : Bool) (asked : NumberedSort) (r : Result NumberedSort TyError) → w ≡ true → (IsTrue w ↔ Fits new (tree f.result) (tree asked))
        → IfOk r (λ t. t ≡ asked) → IfErr r (λ e. e ≡ error.NoMemory) → Answers (tree_answer r) (judge_live F at (map tree args) (Some (tree asked)))
    asked_is at w asked r e fits ok err = of_copy r asked (judge_live F at (map tree args) (Some (tree asked))) ok err (has_asked_rank (HasInstance F (map tree args)) (is_ambiguous F) at (tree asked) (asked_rank (tree asked) (fits.0 e)))

    pub asked_is_not : (at : ℕ) (w : Bool) (asked : NumberedSort) (e : TyError) → w ≡ false → (IsTrue w ↔ Fits new (tree f.result) (tree asked)) → e ≡ fault_at WrongQualifiedSort at
        → Answers {A = Sort} (Err e) (judge_live F at (map tree args) (Some (tree asked)))
    asked_is_not at w asked e false_is fits same = subst (λ z. Answers {A = Sort} (Err z) (judge_live F at (map tree args) (Some (tree asked)))) (sym same)
        (other_rank (HasInstance F (map tree args)) (is_ambiguous F) at some_instance.0 (tree asked) some_instance.1 (not_asked (tree asked) (λ h. by w false_is (fits.1 h))))
      where
        by : (w : Bool) → w ≡ false → IsTrue w → ⊥
        by w e t = cc

    -- .. and where none is
    pub not_all_given : (at : ℕ) (e : TyError) → is_ambiguous F ≡ true → e ≡ fault_at AmbiguousConstructor at → Answers {A = Sort} (Err e) (judge_live F at (map tree args) None)
    not_all_given at e t same = subst (λ z. Answers {A = Sort} (Err z) (judge_live F at (map tree args) None)) (sym same) (not_given (HasInstance F (map tree args)) (is_ambiguous F) at some_instance.0 some_instance.1 t)

    pub given_is : (at : ℕ) (values : List Sort) (t : Sort) → is_ambiguous F ≡ false → Agrees new values → t ≡ inst values (tree f.result) → node_count (inst values (tree f.result)) ≤ 1000
        → Answers (Ok t) (judge_live F at (map tree args) None)
    given_is at values t e a same l = has_rank (HasInstance F (map tree args)) (is_ambiguous F) at t (given_rank values t a same) e (subst (λ z. node_count z ≤ 1000) (sym same) l)

    pub given_large : (at : ℕ) (values : List Sort) (e : TyError) → is_ambiguous F ≡ false → Agrees new values → 1000 < node_count (inst values (tree f.result)) → e ≡ fault_at SortTooLarge at
        → Answers {A = Sort} (Err e) (judge_live F at (map tree args) None)
    given_large at values e u a l same = subst (λ z. Answers {A = Sort} (Err z) (judge_live F at (map tree args) None)) (sym same)
        (too_large (HasInstance F (map tree args)) (is_ambiguous F) at (inst values (tree f.result)) (instance_of values a) u l)

    pub values_interned : (store : List Sort) → AllInterned store args → (i : ℕ) (v : NumberedSort) → value_at new i ≡ Some v → IsInterned store v
    values_interned store h = fitted.interned store (λ i v e. absurd (none_at f.params i v e)) h

-- a test that fails
pub fails : (w : Bool) (P : Type 0) → w ≡ false → (P → IsTrue w) → P → ⊥
fails w P e f p = by w e (f p)
  where
    by : (w : Bool) → w ≡ false → IsTrue w → ⊥
    by w e t = cc

-- the arguments as the code has them
module _ (f : FunEntry) (old : Binding) (schemas : List NumberedSort) (none : old ≡ replicate f.params None) (same : schemas ≡ f.args) where
  pub no_match : (at : ℕ) (w : Bool) (args : List Sort) (asked : Option Sort) (e : TyError) → w ≡ false → (IsTrue w ↔ FitsEach old (map tree schemas) args) → e ≡ fault_at NoRank at
      → Answers {A = Sort} (Err e) (judge_live (fun_declaration f) at args asked)
  no_match at w args asked e false_is fits fault = subst (λ z. Answers {A = Sort} (Err z) (judge_live (fun_declaration f) at args asked)) (sym fault)
      (no_rank (HasInstance (fun_declaration f) args) (is_ambiguous (fun_declaration f)) at asked
      (no_instance f args (λ h. fails w (FitsEach old (map tree schemas) args) false_is fits.1
      (subst (λ b. FitsEach b (map tree schemas) args) (sym none) (subst (λ z. FitsEach (replicate f.params None) (map tree z) args) (sym same) h)))))

  pub matched_interned : (new : Binding) (args : List NumberedSort) (store : List Sort) → FittedEach old new (map tree schemas) args → AllInterned store args → (i : ℕ) (v : NumberedSort) → value_at new i ≡ Some v → IsInterned store v
  matched_interned new args store h k = values_interned f new args (subst (λ z. FittedEach (replicate f.params None) new (map tree z) args) same (subst (λ b. FittedEach b new (map tree schemas) args) none h)) store k

-- a schema without parameters is its only instance
mutual
  pub inst_none : (t : Sort) → inst [] t ≡ t
  inst_none (sort head.Bool ts) = ap (sort head.Bool) (insts_none ts)
  inst_none (sort head.Int ts) = ap (sort head.Int) (insts_none ts)
  inst_none (sort head.Array ts) = ap (sort head.Array) (insts_none ts)
  inst_none (sort (head.BitVec m) ts) = ap (sort (head.BitVec m)) (insts_none ts)
  inst_none (sort (head.Free d n) ts) = ap (sort (head.Free d n)) (insts_none ts)
  inst_none (sort (head.Data d n) ts) = ap (sort (head.Data d n)) (insts_none ts)
  inst_none (sort (head.Param i) ts) = ap (sort (head.Param i)) (insts_none ts)

  insts_none : (ts : SortList) → insts [] ts ≡ ts
  insts_none no_sorts = refl
  insts_none (more_sorts t ts) = ap (λ z. more_sorts z (insts [] ts)) (inst_none t) ∙ ap (more_sorts t) (insts_none ts)

pub map_none : (ts : List Sort) → map (inst []) ts ≡ ts
map_none [] = refl
map_none (t ∷ ts) = ap (λ z. z ∷ map (inst []) ts) (inst_none t) ∙ ap (λ z. t ∷ z) (map_none ts)

no_list : (ss : List Sort) → length ss ≡ 0 → ss ≡ []
no_list [] e = refl
no_list (s ∷ ss) e = cc

module _ (f : FunEntry) (closed : f.params ≡ 0) where
  pub closed_rank : (args : List Sort) → args ≡ map tree f.args → HasInstance (fun_declaration f) args (tree f.result)
  closed_rank args e = record { values = []; count = sym closed; takes = map_none (map tree f.args) ∙ sym e; gives = inst_none (tree f.result) }

  pub closed_args : (args : List Sort) (s : Sort) → HasInstance (fun_declaration f) args s → args ≡ map tree f.args
  closed_args args s h = sym h.takes ∙ ap (λ vs. map (inst vs) (map tree f.args)) (no_list h.values (h.count ∙ closed)) ∙ map_none (map tree f.args)

  pub closed_result : (args : List Sort) (s : Sort) → HasInstance (fun_declaration f) args s → s ≡ tree f.result
  closed_result args s h = sym h.gives ∙ ap (λ vs. inst vs (tree f.result)) (no_list h.values (h.count ∙ closed)) ∙ inst_none (tree f.result)

  pub closed_given : is_ambiguous (fun_declaration f) ≡ false
  closed_given = rw closed refl

  pub closed_other : (at : ℕ) (args : List Sort) (asked : Option Sort) (e : TyError) → (args ≡ map tree f.args → ⊥) → e ≡ fault_at NoRank at → Answers {A = Sort} (Err e) (judge_live (fun_declaration f) at args asked)
  closed_other at args asked e n same = subst (λ z. Answers {A = Sort} (Err z) (judge_live (fun_declaration f) at args asked)) (sym same) (no_rank (HasInstance (fun_declaration f) args) (is_ambiguous (fun_declaration f)) at asked (λ s h. n (closed_args args s h)))

  pub closed_copy : (at : ℕ) (args : List Sort) (r : Result NumberedSort TyError) → args ≡ map tree f.args → IfOk r (λ t. t ≡ f.result) → IfErr r (λ e. e ≡ error.NoMemory) → node_count (tree f.result) ≤ 1000
      → Answers (tree_answer r) (judge_live (fun_declaration f) at args None)
  closed_copy at args r e ok err l = of_copy r f.result (judge_live (fun_declaration f) at args None) ok err (has_rank (HasInstance (fun_declaration f) args) (is_ambiguous (fun_declaration f)) at (tree f.result) (closed_rank args e) closed_given l)

  pub closed_asked_copy : (at : ℕ) (args : List Sort) (asked : Sort) (r : Result NumberedSort TyError) → args ≡ map tree f.args → asked ≡ tree f.result → IfOk r (λ t. t ≡ f.result) → IfErr r (λ e. e ≡ error.NoMemory)
      → Answers (tree_answer r) (judge_live (fun_declaration f) at args (Some asked))
  closed_asked_copy at args asked r e a ok err = of_copy r f.result (judge_live (fun_declaration f) at args (Some asked)) ok err
      (subst (λ z. Answers (Ok z) (judge_live (fun_declaration f) at args (Some asked))) a
      (has_asked_rank (HasInstance (fun_declaration f) args) (is_ambiguous (fun_declaration f)) at asked (subst (HasInstance (fun_declaration f) args) (sym a) (closed_rank args e))))

  pub closed_not_asked : (at : ℕ) (args : List Sort) (asked : Sort) (e : TyError) → args ≡ map tree f.args → (asked ≡ tree f.result → ⊥) → e ≡ fault_at WrongQualifiedSort at → Answers {A = Sort} (Err e) (judge_live (fun_declaration f) at args (Some asked))
  closed_not_asked at args asked e s n same = subst (λ z. Answers {A = Sort} (Err z) (judge_live (fun_declaration f) at args (Some asked))) (sym same)
      (other_rank (HasInstance (fun_declaration f) args) (is_ambiguous (fun_declaration f)) at (tree f.result) asked (closed_rank args s) (λ h. n (closed_result args asked h)))
