-- The ranks of a kind have an instance exactly where its test passes, and its result sort is the one told.
use Rattle.std.proofs.Common.{◌≡◌, ℕ, zero, suc, ◌≤◌, ◌↔◌, length, List, [], ◌∷◌, map, replicate, Option, Some, None, refl, ap, sym, subst, ◌∙◌, inl, inr, arith, IsSome, IfSome}
use Rattle.std.specs.List.{slice_get}
use Rattle.sort_store.specs.Tree.{Sort, NumberedSort, tree}
use Rattle.sort_store.specs.Instance.{inst}
use Rattle.sort_store.specs.Ranks.{Attribute, left_assoc, right_assoc, chainable, pairwise, each, many, Rank, IsInstance, HasRank, param}
use Rattle.sort_store.specs.CoreRanks.{bool}
use Rattle.sort_store.proofs.ArgumentLists.{length-trees}
use Rattle.theory_core.specs.declared.kind.SymbolKind.{SymbolKind}
use Rattle.theory_core.specs.declared.kind.SymbolKind.TheVariants as kind
use Rattle.theory_core.specs.declared.rank_found.RankFound.{RankFound}
use Rattle.theory_core.specs.declared.rank_found.RankFound.TheVariants as found
use Rattle.theory_core.specs.IntsRanks.{int}
use Rattle.theory_core.specs.ArraysRanks.{array}
use Rattle.theory_core.specs.Arguments.{AllAre, AllSame}
use Rattle.theory_core.specs.Answers.{IsFoundSort, IsWithin, HasSomeRank, TellsResults, Answers}
use Rattle.theory_core.specs.Kinds.{ranks_at, ranks_of_kind, Fits, found_at}

-- as many sorts, each the one
all_of_replicate : (n : ℕ) (s : Sort) (ts : List Sort) → ts ≡ replicate n s → (length ts ≡ n) × AllAre s ts
all_of_replicate zero s [] e = (refl, λ k d l. absurd (omega (arith, l)))
all_of_replicate zero s (t ∷ ts) e = cc
all_of_replicate (suc n) s [] e = cc
all_of_replicate (suc n) s (t ∷ ts) e =
    let first : t ≡ s = cc in
    let rest = all_of_replicate n s ts (let r : ts ≡ replicate n s = cc in r) in
    (ap suc rest.0, all_more first rest.1)
  where
    all_more : t ≡ s → AllAre s ts → AllAre s (t ∷ ts)
    all_more f h zero d l = f
    all_more f h (suc k) d l = h k d (omega (arith, l))

replicate_of_all : (n : ℕ) (s : Sort) (ts : List Sort) → length ts ≡ n → AllAre s ts → ts ≡ replicate n s
replicate_of_all zero s [] l h = refl
replicate_of_all zero s (t ∷ ts) l h = absurd (omega arith)
replicate_of_all (suc n) s [] l h = absurd (omega arith)
replicate_of_all (suc n) s (t ∷ ts) l h =
    let first : t ≡ s = h zero s (omega arith) in
    let rest : ts ≡ replicate n s = replicate_of_all n s ts (omega arith) (λ k d m. h (suc k) d (omega (arith, m))) in
    cc

abbrev rank : List Sort → Sort → Rank
rank schemas result = record { arguments = each schemas; result = result }

abbrev repeated : Attribute → Sort → Sort → Rank
repeated attribute schema result = record { arguments = many attribute schema; result = result }

-- no value of a parameter changes the sort
abbrev IsClosed : Sort → Type 0
IsClosed s = (values : List Sort) → inst values s ≡ s

-- a rank of so many arguments of one sort
fixed_rank : (schemas : List Sort) (n : ℕ) (s u : Sort) → ((values : List Sort) → map (inst values) schemas ≡ replicate n s) → IsClosed u → (ts : List Sort) (t : Sort)
    → IsInstance (rank schemas u) ts t ↔ (((length ts ≡ n) × AllAre s ts) × (t ≡ u))
fixed_rank schemas n s u same closed ts t = (
  λ i. (all_of_replicate n s ts (i.takes ∙ same i.values), i.gives ∙ closed i.values),
  λ p. record { values = []; takes = replicate_of_all n s ts p.0.0 p.0.1 ∙ sym (same []); gives = p.1 ∙ sym (closed []) },
)

-- a rank with an attribute
repeated_rank : (a : Attribute) (s u : Sort) → IsClosed s → IsClosed u → (ts : List Sort) (t : Sort) → IsInstance (repeated a s u) ts t ↔ (((2 ≤ length ts) × AllAre s ts) × (t ≡ u))
repeated_rank a s u closed result_closed ts t = (
  λ i. ((i.takes.0, λ k d l. i.takes.1 k d l ∙ closed i.values), i.gives ∙ result_closed i.values),
  λ p. record { values = []; takes = (p.0.0, λ k d l. p.0.1 k d l ∙ sym (closed [])); gives = p.1 ∙ sym (result_closed []) },
)

same_rank : (a : Attribute) (ts : List Sort) (t : Sort) → IsInstance (repeated a (param 0) bool) ts t ↔ (((2 ≤ length ts) × AllSame ts) × (t ≡ bool))
same_rank a ts t = (
  λ i. ((i.takes.0, (inst i.values (param 0), i.takes.1)), i.gives),
  λ p. record { values = p.0.1.0 ∷ []; takes = (p.0.0, p.0.1.1); gives = p.1 },
)

-- the one rank of a symbol
single : (r : Rank) (ts : List Sort) (t : Sort) (P : Type 0) → (IsInstance r ts t ↔ P) → HasRank (r ∷ []) ts t ↔ P
single r ts t P d = (λ h. elim h [ inl i ↦ d.0 i | inr n ↦ absurd n ], λ p. inl (d.1 p))

conditional_rank : (ts : List Sort) (t : Sort) → HasRank (ranks_at kind.Conditional) ts t ↔ (Fits kind.Conditional ts × IsFoundSort (found.Arg 1) ts t)
conditional_rank ts t =
    single (rank (bool ∷ param 0 ∷ param 0 ∷ []) (param 0)) ts t (Fits kind.Conditional ts × IsFoundSort (found.Arg 1) ts t) (
      λ i. ((inst i.values (param 0), i.takes), ap (λ l. slice_get l 1) i.takes ∙ ap Some (sym i.gives)),
      λ p.
          let same : Some t ≡ Some p.0.0 = sym p.1 ∙ ap (λ l. slice_get l 1) p.0.1 in
          record { values = p.0.0 ∷ []; takes = p.0.1; gives = cc },
    )

second_argument : (x y z w : Sort) → array x y ≡ array z w → y ≡ w
second_argument x y z w e = cc

select_rank : (ts : List Sort) (t : Sort) → HasRank (ranks_at kind.Select) ts t ↔ (Fits kind.Select ts × IsFoundSort (found.Element 0) ts t)
select_rank ts t =
    single (rank (array (param 0) (param 1) ∷ param 0 ∷ []) (param 1)) ts t (Fits kind.Select ts × IsFoundSort (found.Element 0) ts t) (
      λ i. ((inst i.values (param 0), inst i.values (param 1), i.takes), (inst i.values (param 0), ap (λ l. slice_get l 0) i.takes ∙ ap (λ s. Some (array (inst i.values (param 0)) s)) (sym i.gives))),
      λ p.
          let found : Some (array p.1.0 t) ≡ Some (array p.0.0 p.0.1) = sym p.1.1 ∙ ap (λ l. slice_get l 0) p.0.2 in
          let same : array p.1.0 t ≡ array p.0.0 p.0.1 = cc in
          record { values = p.0.0 ∷ p.0.1 ∷ []; takes = p.0.2; gives = second_argument p.1.0 t p.0.0 p.0.1 same },
    )

store_rank : (ts : List Sort) (t : Sort) → HasRank (ranks_at kind.Store) ts t ↔ (Fits kind.Store ts × IsFoundSort (found.Arg 0) ts t)
store_rank ts t =
    single (rank (array (param 0) (param 1) ∷ param 0 ∷ param 1 ∷ []) (array (param 0) (param 1))) ts t (Fits kind.Store ts × IsFoundSort (found.Arg 0) ts t) (
      λ i. ((inst i.values (param 0), inst i.values (param 1), i.takes), ap (λ l. slice_get l 0) i.takes ∙ ap Some (sym i.gives)),
      λ p.
          let same : Some t ≡ Some (array p.0.0 p.0.1) = sym p.1 ∙ ap (λ l. slice_get l 0) p.0.2 in
          record { values = p.0.0 ∷ p.0.1 ∷ []; takes = p.0.2; gives = cc },
    )

-- one argument, or two and more
minus_rank : (ts : List Sort) (t : Sort) → HasRank (ranks_at kind.Minus) ts t ↔ (((1 ≤ length ts) × AllAre int ts) × (t ≡ int))
minus_rank ts t = (
  λ h. elim h [
    | inl i ↦ (let p = (fixed_rank (int ∷ []) 1 int int (λ v. refl) (λ v. refl) ts t).0 i in ((omega (arith, p.0.0), p.0.1), p.1))
    | inr h ↦ elim h [
      | inl i ↦ (let p = (repeated_rank left_assoc int int (λ v. refl) (λ v. refl) ts t).0 i in ((omega (arith, p.0.0), p.0.1), p.1))
      | inr n ↦ absurd n
    ]
  ],
  by ts,
)
  where
    by : (ts : List Sort) → ((1 ≤ length ts) × AllAre int ts) × (t ≡ int) → HasRank (ranks_at kind.Minus) ts t
    by [] p = absurd (omega (arith, p.0.0))
    by (x ∷ []) p = inl ((fixed_rank (int ∷ []) 1 int int (λ v. refl) (λ v. refl) (x ∷ []) t).1 ((refl, p.0.1), p.1))
    by (x ∷ y ∷ xs) p = inr (inl ((repeated_rank left_assoc int int (λ v. refl) (λ v. refl) (x ∷ y ∷ xs) t).1 ((omega arith, p.0.1), p.1)))

no_arguments : (ts : List Sort) (t : Sort) → HasRank (ranks_at kind.TruthValue) ts t ↔ ((length ts ≡ 0) × (t ≡ bool))
no_arguments ts t =
    let d = fixed_rank [] 0 bool bool (λ v. refl) (λ v. refl) ts t in
    single (rank [] bool) ts t ((length ts ≡ 0) × (t ≡ bool)) (λ i. (let p = d.0 i in (p.0.0, p.1)), λ p. d.1 ((p.0, λ k e l. absurd (omega (arith, l, p.0))), p.1))

-- a symbol of the kind has a rank with these sorts exactly where the test passes and the result sort is the one told
pub kind_rank : (k : SymbolKind) (ts : List Sort) (t : Sort) → HasRank (ranks_at k) ts t ↔ (Fits k ts × IsFoundSort (found_at k) ts t)
kind_rank kind.TruthValue ts t = no_arguments ts t
kind_rank kind.Negation ts t = single _ ts t _ (fixed_rank (bool ∷ []) 1 bool bool (λ v. refl) (λ v. refl) ts t)
kind_rank kind.Implication ts t = single _ ts t _ (repeated_rank right_assoc bool bool (λ v. refl) (λ v. refl) ts t)
kind_rank kind.Connective ts t = single _ ts t _ (repeated_rank left_assoc bool bool (λ v. refl) (λ v. refl) ts t)
kind_rank kind.Equality ts t = single _ ts t _ (same_rank chainable ts t)
kind_rank kind.Distinctness ts t = single _ ts t _ (same_rank pairwise ts t)
kind_rank kind.Conditional ts t = conditional_rank ts t
kind_rank kind.Minus ts t = minus_rank ts t
kind_rank kind.Arithmetic ts t = single _ ts t _ (repeated_rank left_assoc int int (λ v. refl) (λ v. refl) ts t)
kind_rank kind.Modulus ts t = single _ ts t _ (fixed_rank (int ∷ int ∷ []) 2 int int (λ v. refl) (λ v. refl) ts t)
kind_rank kind.AbsoluteValue ts t = single _ ts t _ (fixed_rank (int ∷ []) 1 int int (λ v. refl) (λ v. refl) ts t)
kind_rank kind.Order ts t = single _ ts t _ (repeated_rank chainable int bool (λ v. refl) (λ v. refl) ts t)
kind_rank kind.Divisibility ts t = single _ ts t _ (fixed_rank (int ∷ []) 1 int bool (λ v. refl) (λ v. refl) ts t)
kind_rank kind.Select ts t = select_rank ts t
kind_rank kind.Store ts t = store_rank ts t

-- where the test passes a sort is told, by an argument that is there
pub told_sort : (k : SymbolKind) (ts : List Sort) → Fits k ts → (t : Sort) × IsFoundSort (found_at k) ts t
told_sort kind.TruthValue ts h = (bool, refl)
told_sort kind.Negation ts h = (bool, refl)
told_sort kind.Implication ts h = (bool, refl)
told_sort kind.Connective ts h = (bool, refl)
told_sort kind.Equality ts h = (bool, refl)
told_sort kind.Distinctness ts h = (bool, refl)
told_sort kind.Conditional ts h = (h.0, ap (λ l. slice_get l 1) h.1)
told_sort kind.Minus ts h = (int, refl)
told_sort kind.Arithmetic ts h = (int, refl)
told_sort kind.Modulus ts h = (int, refl)
told_sort kind.AbsoluteValue ts h = (int, refl)
told_sort kind.Order ts h = (bool, refl)
told_sort kind.Divisibility ts h = (bool, refl)
told_sort kind.Select ts h = (h.1, (h.0, ap (λ l. slice_get l 0) h.2))
told_sort kind.Store ts h = (array h.0 h.1, ap (λ l. slice_get l 0) h.2)

told_place : (k : SymbolKind) (ts : List Sort) → Fits k ts → IsWithin (found_at k) (length ts)
told_place kind.TruthValue ts h = tt
told_place kind.Negation ts h = tt
told_place kind.Implication ts h = tt
told_place kind.Connective ts h = tt
told_place kind.Equality ts h = tt
told_place kind.Distinctness ts h = tt
told_place kind.Conditional ts h = omega (arith, ap length h.1)
told_place kind.Minus ts h = tt
told_place kind.Arithmetic ts h = tt
told_place kind.Modulus ts h = tt
told_place kind.AbsoluteValue ts h = tt
told_place kind.Order ts h = tt
told_place kind.Divisibility ts h = tt
told_place kind.Select ts h = omega (arith, ap length h.2)
told_place kind.Store ts h = omega (arith, ap length h.2)

-- the answers of the code
answer_of : (k : SymbolKind) (ts : List Sort) → Fits k ts → Answers (Some (found_at k)) (ranks_at k) ts
answer_of k ts h = record {
  result = λ t. (λ p. (kind_rank k ts t).1 (h, p), λ r. ((kind_rank k ts t).0 r).1);
  some = (λ _. (let w = told_sort k ts h in (w.0, (kind_rank k ts w.0).1 (h, w.1))), λ _. refl);
  place = told_place k ts h;
}

pub answer_fits : (o : Option SymbolKind) (k : SymbolKind) (ts : List Sort) (f : RankFound) → o ≡ Some k → f ≡ found_at k → Fits k ts → Answers (Some f) (ranks_of_kind o) ts
answer_fits o k ts f e told h = subst (λ p. Answers (Some f) (ranks_of_kind p) ts) (sym e) (subst (λ g. Answers (Some g) (ranks_at k) ts) (sym told) (answer_of k ts h))

misfit : (k : SymbolKind) (ts : List Sort) → (Fits k ts → ⊥) → Answers None (ranks_at k) ts
misfit k ts n = record {
  result = λ t. (λ e. absurd e, λ r. n ((kind_rank k ts t).0 r).0);
  some = (λ e. cc, λ w. absurd (n ((kind_rank k ts w.0).0 w.1).0));
  place = tt;
}

pub answer_misfits : (o : Option SymbolKind) (k : SymbolKind) (ts : List Sort) → o ≡ Some k → (Fits k ts → ⊥) → Answers None (ranks_of_kind o) ts
answer_misfits o k ts e n = subst (λ p. Answers None (ranks_of_kind p) ts) (sym e) (misfit k ts n)

no_answer : (ts : List Sort) → Answers None [] ts
no_answer ts = record { result = λ t. (λ n. absurd n, λ n. absurd n); some = (λ e. cc, λ w. absurd w.1); place = tt }

pub answer_none : (o : Option SymbolKind) (ts : List Sort) → o ≡ None → Answers None (ranks_of_kind o) ts
answer_none o ts e = subst (λ p. Answers None (ranks_of_kind p) ts) (sym e) (no_answer ts)

pub ruleset answer_words = (answer_none, answer_fits, answer_misfits)

-- the same by the ranks of a name
pub named_result : (answer : Option RankFound) (ranks others : List Rank) (ts : List Sort) → others ≡ ranks → Answers answer ranks ts → TellsResults answer others ts
named_result answer ranks others ts e a = subst (λ rs. TellsResults answer rs ts) (sym e) a.result

pub named_some : (answer : Option RankFound) (ranks others : List Rank) (ts : List Sort) → others ≡ ranks → Answers answer ranks ts → IsSome answer ↔ HasSomeRank others ts
named_some answer ranks others ts e a = subst (λ rs. IsSome answer ↔ HasSomeRank rs ts) (sym e) a.some

pub named_place : (answer : Option RankFound) (ranks : List Rank) (rs : List NumberedSort) → Answers answer ranks (map tree rs) → IfSome answer (λ found. IsWithin found (length rs))
named_place answer ranks rs a = subst (λ n. IfSome answer (λ found. IsWithin found n)) (length-trees rs) a.place

pub ruleset named_words = (named_result, named_some, named_place)
