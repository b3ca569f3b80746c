-- The ranks of Core and of the theories of a logic, from those of each theory.
use Rattle.std.proofs.Common.{◌≡◌, ℕ, zero, suc, ◌<◌, ◌≤◌, Bool, true, false, List, [], ◌∷◌, ◌++◌, length, map, Option, Some, None, Result, Ok, Err, ◌⊎◌, inl, inr, ◌↔◌, slice_get, get_or, refl, ap, sym, ◌∙◌, subst, arith, append_assoc}
use Rattle.std.specs.Option.{IsSome, IfSome, IsSomeAnd, option_map}
use Rattle.std.specs.Result.{IfErr, IfOk}
use Rattle.std.proofs.lemmas.List.{map-append, length-map}
use Rattle.std.proofs.lemmas.List.Elements.{filter-append}
use Rattle.std.specs.List.{filter}
use Rattle.std.specs.Str.{bytes_eq}
use Rattle.sig_table.specs.declared.theories.Theories.{Theories}
use Rattle.sig_table.specs.declared.code.Code.TheVariants.{NoRank, WrongQualifiedSort}
use Rattle.sort_store.specs.Tree.{Sort, NumberedSort, node, no_nodes, more_nodes, parts, tree, node_count}
use Rattle.sort_store.specs.Interned.{IsInterned, AllInterned, HasNoRepeats, InternedTogether, Grows}
use Rattle.sort_store.proofs.GrownStores.{interned_grown}
use Rattle.sort_store.proofs.InstanceLaws.{all_interned_at}
use Rattle.sort_store.specs.Ranks.{Rank, RankedSymbol, ranks_of, HasRank}
use Rattle.sort_store.specs.CoreRanks.{core_symbols}
use Rattle.theory_core.specs.declared.rank_found.RankFound.{RankFound}
use Rattle.theory_core.specs.declared.rank_found.RankFound.TheVariants as found
use Rattle.theory_core.specs.Answers.{Answers, IsFoundSort, IsWithin, HasSomeRank, TellsResults}
use Rattle.theory_core.specs.Laws.{HaveOneResult}
use Rattle.theory_core.specs.TheorySymbols.{theory_symbols}
use Rattle.theory_core.specs.IntsRanks.{ints_symbols}
use Rattle.theory_core.specs.ArraysRanks.{array, arrays_symbols}
use Rattle.typer.specs.Answers as typer
use Rattle.typer.specs.Answers.{fault_at}
use Rattle.dt_rules.specs.declared.error.TyError.{TyError}
use Rattle.typer.specs.FunctionSymbols.{if_present, symbols_past_core, judge_theory}
use Rattle.typer.proofs.RankAnswers.{asked_result, no_rank}

-- the ranks of two lists of symbols together
ranks_of-append : (name : List ℕ) (a b : List RankedSymbol) → ranks_of name (a ++ b) ≡ ranks_of name a ++ ranks_of name b
ranks_of-append name a b = ap (map (λ s. s.rank)) (filter-append (λ s. bytes_eq s.name name) a b) ∙ map-append (λ s. s.rank) (filter (λ s. bytes_eq s.name name) a) (filter (λ s. bytes_eq s.name name) b)

module _ (args : List Sort) (t : Sort) where
  left : (r s : List Rank) → HasRank r args t → HasRank (r ++ s) args t
  left [] s h = absurd h
  left (x ∷ r) s (inl h) = inl h
  left (x ∷ r) s (inr h) = inr (left r s h)

  right : (r s : List Rank) → HasRank s args t → HasRank (r ++ s) args t
  right [] s h = h
  right (x ∷ r) s h = inr (right r s h)

  either : (r s : List Rank) → HasRank (r ++ s) args t → HasRank r args t ⊎ HasRank s args t
  either [] s h = inr h
  either (x ∷ r) s (inl h) = inl (inl h)
  either (x ∷ r) s (inr h) = elim (either r s h) [ inl k ↦ inl (inr k) | inr k ↦ inr k ]

module _ (name : List ℕ) (args : List Sort) (a b : List RankedSymbol) where
  of_left : (t : Sort) → HasRank (ranks_of name a) args t → HasRank (ranks_of name (a ++ b)) args t
  of_left t h = subst (λ r. HasRank r args t) (sym (ranks_of-append name a b)) (left args t (ranks_of name a) (ranks_of name b) h)

  of_right : (t : Sort) → HasRank (ranks_of name b) args t → HasRank (ranks_of name (a ++ b)) args t
  of_right t h = subst (λ r. HasRank r args t) (sym (ranks_of-append name a b)) (right args t (ranks_of name a) (ranks_of name b) h)

  of_either : (t : Sort) → HasRank (ranks_of name (a ++ b)) args t → HasRank (ranks_of name a) args t ⊎ HasRank (ranks_of name b) args t
  of_either t h = either args t (ranks_of name a) (ranks_of name b) (subst (λ r. HasRank r args t) (ranks_of-append name a b) h)

  -- the first list has such a rank, and so the only one
  pub first_told : (f : RankFound) → ((t u : Sort) → HasRank (ranks_of name (a ++ b)) args t → HasRank (ranks_of name (a ++ b)) args u → t ≡ u) → Answers (Some f) (ranks_of name a) args → Answers (Some f) (ranks_of name (a ++ b)) args
  first_told f one h =
      let some = h.some.0 refl in
      record {
        result = λ t. (λ e. of_left t ((h.result t).0 e), λ k. subst (IsFoundSort f args) (one some.0 t (of_left some.0 some.1) k) ((h.result some.0).1 some.1));
        some = (λ _. (some.0, of_left some.0 some.1), λ _. refl);
        place = h.place;
      }

  -- the first list has no such rank
  pub second_told : (o : Option RankFound) → Answers None (ranks_of name a) args → Answers o (ranks_of name b) args → Answers o (ranks_of name (a ++ b)) args
  second_told o n h = record {
    result = λ t. (λ e. of_right t ((h.result t).0 e), λ k. elim (of_either t k) [ inl p ↦ absurd ((n.result t).1 p) | inr p ↦ (h.result t).1 p ]);
    some = (λ s. (let k = h.some.0 s in (k.0, of_right k.0 k.1)), λ k. elim (of_either k.0 k.1) [ inl p ↦ absurd ((n.result k.0).1 p) | inr p ↦ h.some.1 (k.0, p) ]);
    place = h.place;
  }

  pub one_of_second : HaveOneResult (a ++ b) → (t u : Sort) → HasRank (ranks_of name b) args t → HasRank (ranks_of name b) args u → t ≡ u
  one_of_second one t u p q = one name args t u (of_right t p) (of_right u q)

pub none_told : (name : List ℕ) (args : List Sort) → Answers None (ranks_of name []) args
none_told name args = record { result = λ t. (λ x. x, λ x. x); some = (λ e. cc, λ k. absurd k.1); place = tt }

-- the symbols of a theory that the logic has, or has not
pub present_told : (name : List ℕ) (rs : List NumberedSort) (symbols : List RankedSymbol) (present : Bool) (o : Option RankFound) → present ≡ true → TellsResults o (ranks_of name symbols) (map tree rs)
    → (IsSome o ↔ HasSomeRank (ranks_of name symbols) (map tree rs)) → IfSome o (λ f. IsWithin f (length rs)) → Answers o (ranks_of name (if_present present symbols)) (map tree rs)
present_told name rs symbols present o e result some place =
    subst (λ b. Answers o (ranks_of name (if_present b symbols)) (map tree rs)) (sym e)
    (record { result = result; some = some; place = subst (λ n. IfSome o (λ f. IsWithin f n)) (sym (length-map rs tree)) place })

pub absent_told : (name : List ℕ) (args : List Sort) (symbols : List RankedSymbol) (present : Bool) → present ≡ false → Answers None (ranks_of name (if_present present symbols)) args
absent_told name args symbols present e = subst (λ b. Answers None (ranks_of name (if_present b symbols)) args) (sym e) (none_told name args)

-- the element sort of an array sort
pub array_parts : (r : NumberedSort) (index element : Sort) → tree r ≡ array index element → (x : NumberedSort) × (slice_get (parts r) 1 ≡ Some x) × (array index (tree x) ≡ tree r)
array_parts (node n h no_nodes) index element e = cc
array_parts (node n h (more_nodes x no_nodes)) index element e = cc
array_parts (node n h (more_nodes x (more_nodes y no_nodes))) index element e = (y, refl, (let s : tree y ≡ element = cc in ap (array index) s ∙ sym e))
array_parts (node n h (more_nodes x (more_nodes y (more_nodes z rs)))) index element e = cc

interned_element : (store : List Sort) (r x : NumberedSort) → IsInterned store r → slice_get (parts r) 1 ≡ Some x → IsInterned store x
interned_element store (node n h no_nodes) x k e = cc
interned_element store (node n h (more_nodes y no_nodes)) x k e = cc
interned_element store (node n h (more_nodes y (more_nodes z rs))) x k e = (let s : z ≡ x = cc in subst (IsInterned store) s k.1.1.0)

pub copied_interned : (store : List Sort) (a : Result NumberedSort TyError) (x : NumberedSort) → IfOk a (λ t. t ≡ x) → IsInterned store x → IfOk a (λ t. IsInterned store t)
copied_interned store (Ok t) x e h = subst (IsInterned store) (sym e) h
copied_interned store (Err f) x e h = tt

module _ (r x : NumberedSort) (stands : Some x ≡ slice_get (parts r) 1) (a : Result NumberedSort TyError) (ok : IfOk a (λ t. t ≡ x)) where
  pub element_told : (index element : Sort) → tree r ≡ array index element → IfOk a (λ t. (i : Sort) × (tree r ≡ array i (tree t)))
  element_told index element e = by a ok
    where
      same : (y : NumberedSort) → slice_get (parts r) 1 ≡ Some y → y ≡ x
      same y f = let g : Some x ≡ Some y = stands ∙ f in cc

      by : (a : Result NumberedSort TyError) → IfOk a (λ t. t ≡ x) → IfOk a (λ t. (i : Sort) × (tree r ≡ array i (tree t)))
      by (Ok t) h = let p = array_parts r index element e in (index, sym p.2 ∙ ap (λ z. array index (tree z)) (same p.0 p.1 ∙ sym h))
      by (Err f) h = tt

  pub element_interned : (store : List Sort) → IsInterned store r → IfOk a (λ t. IsInterned store t)
  element_interned store k = copied_interned store a x ok (interned_element store r x k (sym stands))

-- the sort that an answer tells
pub argument_interned : (store : List Sort) (rs : List NumberedSort) (f : RankFound) (i : ℕ) (x : NumberedSort) (a : Result NumberedSort TyError) → AllInterned store rs → f ≡ found.Arg i → IsWithin f (length rs) → x ≡ get_or rs i x
    → IfOk a (λ t. t ≡ x) → IfOk a (λ t. IsInterned store t)
argument_interned store rs f i x a h e w at ok = copied_interned store a x ok (subst (IsInterned store) (sym at) (all_interned_at store rs i x (subst (λ g. IsWithin g (length rs)) e w) h))

pub element_is_told : (args : List Sort) (f : RankFound) (i : ℕ) (x : NumberedSort) (a : Result NumberedSort TyError) → f ≡ found.Element i → slice_get args i ≡ Some (tree x) → IfOk a (λ t. (index : Sort) × (tree x ≡ array index (tree t)))
    → IfOk a (λ t. IsFoundSort f args (tree t))
element_is_told args f i x (Ok t) e at h = subst (λ g. IsFoundSort g args (tree t)) (sym e) (h.0, at ∙ ap Some h.1)
element_is_told args f i x (Err g) e at h = tt

pub tree_at : (rs : List NumberedSort) (i : ℕ) (x : NumberedSort) → i < length rs → x ≡ get_or rs i x → slice_get (map tree rs) i ≡ Some (tree x)
tree_at [] i x l e = absurd (omega (arith, l))
tree_at (r ∷ rs) zero x l e = ap (λ z. Some (tree z)) (sym e)
tree_at (r ∷ rs) (suc i) x l e = tree_at rs i x (omega (arith, l)) e

-- the outcomes of the rule on ranks
module _ (theories : Theories) (text : List ℕ) (at : ℕ) (args : List Sort) where
  abbrev Has : Sort → Type 0
  Has t = HasRank (ranks_of text (theory_symbols theories)) args t

  pub no_theory_rank : (asked : Option Sort) (o : Option RankFound) (e : TyError) → Answers o (ranks_of text (theory_symbols theories)) args → o ≡ None → e ≡ fault_at NoRank at → typer.Answers {A = Sort} (Err e) (judge_theory theories text at args asked)
  no_theory_rank asked o e h n same = subst (λ z. typer.Answers {A = Sort} (Err z) (judge_theory theories text at args asked)) (sym same)
      (no_rank Has false at asked (λ s r. ((subst (λ p. Answers p (ranks_of text (theory_symbols theories)) args) n h).result s).1 r))

  -- the result sort, or another one is asked for
  pub theory_rank_is : (o : Option RankFound) (f : RankFound) → Answers o (ranks_of text (theory_symbols theories)) args → o ≡ Some f → HaveOneResult (theory_symbols theories)
      → (s : NumberedSort) → IsFoundSort f args (tree s) → node_count (tree s) ≤ 1000 → (asked : Option NumberedSort) (r : Result NumberedSort TyError) → IfOk r (λ t. (t ≡ s) × IfSome asked (λ a. tree s ≡ tree a))
      → IfErr r (λ e. (e ≡ fault_at WrongQualifiedSort at) × IsSomeAnd asked (λ a. tree s ≡ tree a → ⊥)) → typer.Answers (typer.tree_answer r) (judge_theory theories text at args (option_map tree asked))
  theory_rank_is o f h same one s told small asked r ok err = asked_result Has at s asked r has (λ t k. one text args (tree s) t has k) small ok err
    where
      has : Has (tree s)
      has = ((subst (λ p. Answers p (ranks_of text (theory_symbols theories)) args) same h).result (tree s)).0 told

pub asked_together : (old new : List Sort) (r : NumberedSort) (asked : Option NumberedSort) → IfSome asked (IsInterned old) → Grows old new → HasNoRepeats new → IsInterned new r → IfSome asked (λ a. InternedTogether r a)
asked_together old new r None h g distinct k = tt
asked_together old new r (Some a) h g distinct k = record { store = new; distinct = distinct; first = k; second = interned_grown old new a g h }

pub on_interned : (store : List Sort) (rs : List NumberedSort) (i : ℕ) (x : NumberedSort) → AllInterned store rs → i < length rs → x ≡ get_or rs i x → IsInterned store x
on_interned store rs i x h l at = subst (IsInterned store) (sym at) (all_interned_at store rs i x l h)

pub theory_symbols_are : (theories : Theories) → theory_symbols theories ≡ core_symbols ++ symbols_past_core theories
theory_symbols_are theories = append_assoc core_symbols (if_present theories.ints ints_symbols) (if_present theories.arrays arrays_symbols)

pub one_result_in : (theories : Theories) → HaveOneResult (theory_symbols theories) → HaveOneResult (core_symbols ++ symbols_past_core theories)
one_result_in theories h = subst HaveOneResult (theory_symbols_are theories) h

pub told_of_all : (theories : Theories) (name : List ℕ) (o : Option RankFound) (args : List Sort) → Answers o (ranks_of name (core_symbols ++ symbols_past_core theories)) args → Answers o (ranks_of name (theory_symbols theories)) args
told_of_all theories name o args h = subst (λ z. Answers o (ranks_of name z) args) (sym (theory_symbols_are theories)) h
