-- A function symbol of the theories has a rank with some argument sorts or has none.
use Rattle.std.proofs.Common.{◌≡◌, ℕ, zero, suc, ◌≤◌, Bool, true, false, ◌⊎◌, length, List, [], ◌∷◌, Option, Some, None, refl, ap, sym, subst, inl, inr, arith, get_or}
use Rattle.std.proofs.Math.Dec.{eqb, ltb}
use Rattle.std.proofs.lemmas.Bool.{cases_Bool, eqb-true, eqb-false, ltb-true, ltb-false}
use Rattle.sig_table.specs.declared.theories.Theories.{Theories}
use Rattle.sig_table.specs.Row.{codes_of}
use Rattle.sort_store.specs.Tree.{Sort}
use Rattle.sort_store.specs.Ranks.{RankedSymbol, ranks_of}
use Rattle.sort_store.specs.CoreRanks.{bool, core_symbols}
use Rattle.theory_core.specs.declared.kind.SymbolKind.{SymbolKind}
use Rattle.theory_core.specs.declared.kind.SymbolKind.TheVariants as kind
use Rattle.theory_core.specs.IntsRanks.{int, ints_symbols}
use Rattle.theory_core.specs.ArraysRanks.{array, arrays_symbols}
use Rattle.theory_core.specs.Arguments.{AllAre, AllSame, arguments_of}
use Rattle.theory_core.specs.Answers.{HasSomeRank}
use Rattle.theory_core.specs.Kinds.{ranks_of_kind, kind_of_codes, core_rows, ints_rows, arrays_rows, Fits}
use Rattle.theory_core.specs.TheorySymbols.{theory_symbols}
use Rattle.theory_core.specs.Laws.{HaveDecidedRanks}
use Rattle.theory_core.proofs.SortsDecided.{sort_decided, sorts_decided}
use Rattle.theory_core.proofs.KindRanks.{kind_rank, told_sort}
use Rattle.theory_core.proofs.SymbolNames.{core_kind_of, ints_kind_of, arrays_kind_of}
use Rattle.theory_core.proofs.TheoryRanks.{HasRankIf, theory_rank}

abbrev pub IsDecided : Type 0 → Type 0
IsDecided P = P ⊎ (P → ⊥)

both_decided : (P Q : Type 0) → IsDecided P → IsDecided Q → IsDecided (P × Q)
both_decided P Q (inl p) (inl q) = inl (p, q)
both_decided P Q (inl p) (inr n) = inr (λ h. n h.1)
both_decided P Q (inr n) q = inr (λ h. n h.0)

either_decided : (P Q : Type 0) → IsDecided P → IsDecided Q → IsDecided (P ⊎ Q)
either_decided P Q (inl p) q = inl (inl p)
either_decided P Q (inr n) (inl q) = inl (inr q)
either_decided P Q (inr n) (inr m) = inr (λ h. elim h [ inl p ↦ n p | inr q ↦ m q ])

pub decided_by : (P Q : Type 0) → (P → Q) → (Q → P) → IsDecided P → IsDecided Q
decided_by P Q f g (inl p) = inl (f p)
decided_by P Q f g (inr n) = inr (λ q. n (g q))

count_is : (n m : ℕ) → IsDecided (n ≡ m)
count_is n m = elim (cases_Bool (eqb n m)) [ inl t ↦ inl (eqb-true n m t) | inr f ↦ inr (eqb-false n m f) ]

at_least : (n m : ℕ) → IsDecided (n ≤ m)
at_least n m = elim (cases_Bool (ltb m n)) [ inl t ↦ inr (λ l. (let b = ltb-true m n t in absurd (omega (arith, l)))) | inr f ↦ inl (ltb-false m n f) ]

-- lists of one sort
all_more : (s t : Sort) (ts : List Sort) → t ≡ s → AllAre s ts → AllAre s (t ∷ ts)
all_more s t ts e h zero d l = e
all_more s t ts e h (suc k) d l = h k d (omega (arith, l))

all_rest : (s t : Sort) (ts : List Sort) → AllAre s (t ∷ ts) → AllAre s ts
all_rest s t ts h k d l = h (suc k) d (omega (arith, l))

all_first : (s t : Sort) (ts : List Sort) → AllAre s (t ∷ ts) → t ≡ s
all_first s t ts h = h zero s (omega arith)

all_decided : (s : Sort) (ts : List Sort) → IsDecided (AllAre s ts)
all_decided s [] = inl (λ k d l. absurd (omega (arith, l)))
all_decided s (t ∷ ts) = decided_by ((t ≡ s) × AllAre s ts) (AllAre s (t ∷ ts)) (λ p. all_more s t ts p.0 p.1) (λ h. (all_first s t ts h, all_rest s t ts h)) (both_decided _ _ (sort_decided t s) (all_decided s ts))

same_decided : (ts : List Sort) → IsDecided (AllSame ts)
same_decided [] = inl (bool, λ k d l. absurd (omega (arith, l)))
same_decided (t ∷ ts) =
    decided_by (AllAre t (t ∷ ts)) (AllSame (t ∷ ts)) (λ h. (t, h)) (λ w. subst (λ s. AllAre s (t ∷ ts)) (sym (all_first w.0 t ts w.1)) w.1) (all_decided t (t ∷ ts))

exactly : (n : ℕ) (s : Sort) (ts : List Sort) → IsDecided ((length ts ≡ n) × AllAre s ts)
exactly n s ts = both_decided _ _ (count_is (length ts) n) (all_decided s ts)

or_more : (n : ℕ) (s : Sort) (ts : List Sort) → IsDecided ((n ≤ length ts) × AllAre s ts)
or_more n s ts = both_decided _ _ (at_least n (length ts)) (all_decided s ts)

same_or_more : (n : ℕ) (ts : List Sort) → IsDecided ((n ≤ length ts) × AllSame ts)
same_or_more n ts = both_decided _ _ (at_least n (length ts)) (same_decided ts)

-- the sort at a place, and the element sort of an array sort
abbrev at : List Sort → ℕ → Sort
at ts i = get_or ts i bool

abbrev element_of : Sort → Sort
element_of s = at (arguments_of s) 1

conditional_decided : (ts : List Sort) → IsDecided (Fits kind.Conditional ts)
conditional_decided ts =
    let second = at ts 1 in
    decided_by (ts ≡ bool ∷ second ∷ second ∷ []) (Fits kind.Conditional ts) (λ e. (second, e)) (λ w. subst (λ s. ts ≡ bool ∷ s ∷ s ∷ []) (sym (ap (λ l. at l 1) w.1)) w.1) (sorts_decided ts (bool ∷ second ∷ second ∷ []))

select_decided : (ts : List Sort) → IsDecided (Fits kind.Select ts)
select_decided ts =
    let index = at ts 1 in
    let element = element_of (at ts 0) in
    decided_by (ts ≡ array index element ∷ index ∷ []) (Fits kind.Select ts) (λ e. (index, element, e)) (
    λ w. subst (λ i. ts ≡ array i element ∷ i ∷ []) (sym (ap (λ l. at l 1) w.2)) (subst (λ s. ts ≡ array w.0 s ∷ w.0 ∷ []) (sym (ap (λ l. element_of (at l 0)) w.2)) w.2)
    ) (sorts_decided ts (array index element ∷ index ∷ []))

store_decided : (ts : List Sort) → IsDecided (Fits kind.Store ts)
store_decided ts =
    let index = at ts 1 in
    let element = at ts 2 in
    decided_by (ts ≡ array index element ∷ index ∷ element ∷ []) (Fits kind.Store ts) (λ e. (index, element, e)) (
    λ w. subst (λ i. ts ≡ array i element ∷ i ∷ element ∷ []) (sym (ap (λ l. at l 1) w.2)) (subst (λ s. ts ≡ array w.0 s ∷ w.0 ∷ s ∷ []) (sym (ap (λ l. at l 2) w.2)) w.2)
    ) (sorts_decided ts (array index element ∷ index ∷ element ∷ []))

fits_decided : (k : SymbolKind) (ts : List Sort) → IsDecided (Fits k ts)
fits_decided kind.TruthValue ts = count_is (length ts) 0
fits_decided kind.Negation ts = exactly 1 bool ts
fits_decided kind.Implication ts = or_more 2 bool ts
fits_decided kind.Connective ts = or_more 2 bool ts
fits_decided kind.Equality ts = same_or_more 2 ts
fits_decided kind.Distinctness ts = same_or_more 2 ts
fits_decided kind.Conditional ts = conditional_decided ts
fits_decided kind.Minus ts = or_more 1 int ts
fits_decided kind.Arithmetic ts = or_more 2 int ts
fits_decided kind.Modulus ts = exactly 2 int ts
fits_decided kind.AbsoluteValue ts = exactly 1 int ts
fits_decided kind.Order ts = or_more 2 int ts
fits_decided kind.Divisibility ts = exactly 1 int ts
fits_decided kind.Select ts = select_decided ts
fits_decided kind.Store ts = store_decided ts

-- the ranks of a kind, and of a name whose kind is known
kind_decided : (k : Option SymbolKind) (ts : List Sort) → IsDecided (HasSomeRank (ranks_of_kind k) ts)
kind_decided None ts = inr (λ w. w.1)
kind_decided (Some k) ts =
    decided_by (Fits k ts) (HasSomeRank (ranks_of_kind (Some k)) ts) (λ h. (let told = told_sort k ts h in (told.0, (kind_rank k ts told.0).1 (h, told.1)))) (λ w. ((kind_rank k ts w.0).0 w.1).0) (fits_decided k ts)

named_decided : (symbols : List RankedSymbol) (kind : List ℕ → Option SymbolKind) → ((name : List ℕ) → ranks_of name symbols ≡ ranks_of_kind (kind name)) → HaveDecidedRanks symbols
named_decided symbols kind ranks name ts = subst (λ rs. IsDecided (HasSomeRank rs ts)) (sym (ranks name)) (kind_decided (kind name) ts)

core_decided : HaveDecidedRanks core_symbols
core_decided = named_decided core_symbols (λ name. kind_of_codes (codes_of name core_rows)) core_kind_of

ints_decided : HaveDecidedRanks ints_symbols
ints_decided = named_decided ints_symbols (λ name. kind_of_codes (codes_of name ints_rows)) ints_kind_of

arrays_decided : HaveDecidedRanks arrays_symbols
arrays_decided = named_decided arrays_symbols (λ name. kind_of_codes (codes_of name arrays_rows)) arrays_kind_of

-- the symbols that a logic may lack
decided_if : (b : Bool) (symbols : List RankedSymbol) (name : List ℕ) (ts : List Sort) → IsDecided (HasSomeRank (ranks_of name symbols) ts) → IsDecided ((t : Sort) × HasRankIf b symbols name ts t)
decided_if true symbols name ts d = decided_by _ _ (λ w. (w.0, (refl, w.1))) (λ w. (w.0, w.1.1)) d
decided_if false symbols name ts d = inr (λ w. (let e = w.1.0 in cc))

-- the theories of a logic together
pub ranks_decided : (theories : Theories) → HaveDecidedRanks (theory_symbols theories)
ranks_decided theories name ts =
    let core = HasSomeRank (ranks_of name core_symbols) ts in
    let ints = (t : Sort) × HasRankIf theories.ints ints_symbols name ts t in
    let arrays = (t : Sort) × HasRankIf theories.arrays arrays_symbols name ts t in
    decided_by ((core ⊎ ints) ⊎ arrays) (HasSomeRank (ranks_of name (theory_symbols theories)) ts) (
    λ h.
    elim h [
      | inl p ↦ elim p [
        | inl w ↦ (w.0, (theory_rank theories name ts w.0).1 (inl (inl w.1)))
        | inr w ↦ (w.0, (theory_rank theories name ts w.0).1 (inl (inr w.1)))
      ]
      | inr w ↦ (w.0, (theory_rank theories name ts w.0).1 (inr w.1))
    ]
    ) (
    λ w.
    elim ((theory_rank theories name ts w.0).0 w.1) [
      | inl p ↦ elim p [ inl h ↦ inl (inl (w.0, h)) | inr h ↦ inl (inr (w.0, h)) ]
      | inr h ↦ inr (w.0, h)
    ]
    ) (either_decided _ _ (either_decided core ints (core_decided name ts) (decided_if theories.ints ints_symbols name ts (ints_decided name ts))) (decided_if theories.arrays arrays_symbols name ts (arrays_decided name ts)))
