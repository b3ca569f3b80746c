-- In rows whose names ascend, a name stands once at most, and a binary search finds its row.
use Rattle.std.proofs.Common.{◌≡◌, ℕ, zero, suc, ◌<◌, ◌≤◌, true, false, List, [], ◌∷◌, length, get_or, Result, Ok, Err, MatchResult, refl, sym, ◌∙◌, ap, inl, inr, arith}
use Rattle.std.specs.Cmp.Lexicographic.{slice_cmp}
use Rattle.std.specs.declared.cmp.Ordering.{Ordering}
use Rattle.std.specs.declared.cmp.Ordering.TheVariants.{Less, Equal, Greater}
use Rattle.std.specs.Ordering.{is_lt, is_eq, nat_cmp, ordering_index, ordering_reverse}
use Rattle.std.proofs.lemmas.Map.Text.{is_eq-slice_cmp}
use Rattle.std.specs.List.Sorted.{IsNonDecreasingBy, IsSearchInRange, IsBinarySearchResult}
use Rattle.std.specs.Cmp.{first_so, second_so}
use Rattle.std.specs.Str.{bytes_eq}
use Rattle.std.proofs.lemmas.Bool.{cases_lt}
use Rattle.std.proofs.lemmas.Cmp.{nat_list_cmp_total, alike_right}
use Rattle.sig_table.specs.Row.{Row, comes_before, is_ascending, codes_of}

-- the order of texts by their bytes
abbrev order : List ℕ → List ℕ → Ordering
order = slice_cmp nat_cmp

less_than : (o : Ordering) → is_lt o ≡ true → o ≡ Less
less_than Less h = refl
less_than Equal h = cc
less_than Greater h = cc

index_small : (o : Ordering) → ordering_index o ≤ 2
index_small Less = omega arith
index_small Equal = omega arith
index_small Greater = omega arith

-- two texts are one where neither comes before the other
same_by_order : (a b : List ℕ) (o : Ordering) → order a b ≡ o → bytes_eq a b ≡ is_eq o
same_by_order a b o h = sym (is_eq-slice_cmp a b) ∙ ap is_eq h

-- a text that comes before another compares no greater to a third
compares_below : (a b c : List ℕ) → order a b ≡ Less → (o : Ordering) → order b c ≡ o → ordering_index (order a c) ≤ ordering_index o
compares_below a b c before Less h = rw (nat_list_cmp_total.trans a b c before h) (omega arith)
compares_below a b c before Equal h = rw (sym (alike_right nat_list_cmp_total b c a h) ∙ before) (omega arith)
compares_below a b c before Greater h = index_small (order a c)

-- the first name comes before the second, and the rows after the first ascend
first_before : (r s : Row) (rows : List Row) → is_ascending (r ∷ s ∷ rows) ≡ true → order r.name s.name ≡ Less
first_before r s rows h = less_than (order r.name s.name) (first_so (comes_before r.name s.name) (is_ascending (s ∷ rows)) h)

rest_ascends : (r : Row) (rows : List Row) → is_ascending (r ∷ rows) ≡ true → is_ascending rows ≡ true
rest_ascends r [] h = refl
rest_ascends r (s ∷ rows) h = second_so (comes_before r.name s.name) (is_ascending (s ∷ rows)) h

-- the first name comes before the name at each later place
before_later : (r : Row) (rows : List Row) → is_ascending (r ∷ rows) ≡ true → (i : ℕ) (d : Row) → i < length rows → order r.name (get_or rows i d).name ≡ Less
before_later r [] h i d lt = absurd (omega arith)
before_later r (s ∷ rows) h zero d lt = first_before r s rows h
before_later r (s ∷ rows) h (suc i) d lt =
    let after : order s.name (get_or rows i d).name ≡ Less = before_later s rows (rest_ascends r (s ∷ rows) h) i d (omega arith) in
    nat_list_cmp_total.trans r.name s.name (get_or rows i d).name (first_before r s rows h) after

-- so the comparisons with a name rise along the rows, as a binary search asks
comparisons_rise : (name : List ℕ) (rows : List Row) → is_ascending rows ≡ true → IsNonDecreasingBy (λ row. ordering_index (order row.name name)) rows
comparisons_rise name [] h i j d le lt = absurd (omega arith)
comparisons_rise name (r ∷ rows) h zero zero d le lt = omega arith
comparisons_rise name (r ∷ rows) h zero (suc j) d le lt =
    compares_below r.name (get_or rows j d).name name (before_later r rows h j d (omega arith)) (order (get_or rows j d).name name) refl
comparisons_rise name (r ∷ rows) h (suc i) zero d le lt = absurd (omega arith)
comparisons_rise name (r ∷ rows) h (suc i) (suc j) d le lt = comparisons_rise name rows (rest_ascends r rows h) i j d (omega arith) (omega arith)

-- where no row has the name there is no code
no_codes : (name : List ℕ) (rows : List Row) → ((i : ℕ) (d : Row) → i < length rows → bytes_eq (get_or rows i d).name name ≡ false) → codes_of name rows ≡ []
no_codes name [] none = refl
no_codes name (r ∷ rows) none =
    let first : bytes_eq r.name name ≡ false = none 0 r (omega arith) in
    rw first (no_codes name rows (λ i d lt. none (suc i) d (omega arith)))

-- the row at a place is the only one of its name
codes_at : (name : List ℕ) (rows : List Row) → is_ascending rows ≡ true → (i : ℕ) (d : Row) → i < length rows → order (get_or rows i d).name name ≡ Equal → codes_of name rows ≡ (get_or rows i d).code ∷ []
codes_at name [] h i d lt same = absurd (omega arith)
codes_at name (r ∷ rows) h zero d lt same =
    let first : bytes_eq r.name name ≡ true = same_by_order r.name name Equal same in
    rw first (ap (λ cs. r.code ∷ cs) (no_codes name rows (λ i e within.
    same_by_order (get_or rows i e).name name Greater
    (nat_list_cmp_total.antisymm (get_or rows i e).name name
    ∙ ap ordering_reverse (sym (nat_list_cmp_total.congr r.name name (get_or rows i e).name same) ∙ before_later r rows h i e within)))))
codes_at name (r ∷ rows) h (suc i) d lt same =
    let less : order r.name name ≡ Less =
    sym (alike_right nat_list_cmp_total (get_or rows i d).name name r.name same) ∙ before_later r rows h i d (omega arith) in
    let other : bytes_eq r.name name ≡ false = same_by_order r.name name Less less in
    rw other (codes_at name rows (rest_ascends r rows h) i d (omega arith) same)

-- a binary search by the order of the names finds the row of the name, or there is none
pub searched : (name : List ℕ) (rows : List Row) → is_ascending rows ≡ true → (d : Row) (r : Result ℕ ℕ) → IsSearchInRange r (length rows)
    → IsBinarySearchResult (λ row. slice_cmp nat_cmp row.name name) rows r
    → MatchResult r (λ i. codes_of name rows ≡ (get_or rows i d).code ∷ []) (λ _. codes_of name rows ≡ [])
searched name rows h d (Ok i) within equal = codes_at name rows h i d within (equal d)
searched name rows h d (Err i) within parted =
    let parts = parted (comparisons_rise name rows h) in
    no_codes name rows (λ j e lt. elim (cases_lt j i) [
      | inl below ↦ same_by_order (get_or rows j e).name name Less (parts.0 j e (omega arith) below)
      | inr above ↦ same_by_order (get_or rows j e).name name Greater (parts.1 j e above lt)
    ])
