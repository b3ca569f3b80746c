-- Each call keeps the live names distinct.
use Rattle.std.proofs.Common.{◌≡◌, ℕ, suc, zero, ◌+◌, ◌-◌, ◌≤◌, Bool, true, false, List, [], ◌∷◌, ◌++◌, length, take, replicate, min, Some, None, Result, OnOk, OnErr, refl, ap, sym, subst, ◌∙◌, arith}
use Rattle.std.specs.Map.{lookup}
use Rattle.std.proofs.lemmas.List.{length-take, length-append, length-replicate}
use Rattle.scope_stack.specs.Levels.{joined, live, found, add_last, with_last, declared, opened, closed, only_globals, no_levels, Levels, is_name}
use Rattle.scope_stack.specs.DistinctNames.{count_at, count_of, HasDistinctNames}
use Rattle.scope_stack.specs.Environment.{IsConsistent}
use Rattle.scope_stack.specs.declared.entry.FunEntry.{FunEntry}
use Rattle.scope_stack.specs.declared.entry.SortEntry.{SortEntry}
use Rattle.scope_stack.proofs.LevelsInOneList.{on_both}

count-empty : (X : Type 0) (n k : ℕ) → count_of {X = X} n (joined (replicate k [])) ≡ 0
count-empty X n zero = refl
count-empty X n (suc k) = count-empty X n k

module _ {X : Type 0} (n : ℕ) where
  count-append : (xs ys : List (ℕ × X)) → count_of n (xs ++ ys) ≡ count_of n xs + count_of n ys
  count-append [] ys = omega arith
  count-append (x ∷ xs) ys = omega (arith, count-append xs ys)

  count-add_last : (d : ℕ × X) (l : List (ℕ × X)) (ls : List (List (ℕ × X))) → count_of n (joined (add_last d l ls)) ≡ count_of n (joined (l ∷ ls)) + count_at n d
  count-add_last d l [] = omega (arith, count-append (l ++ d ∷ []) [], count-append l (d ∷ []), count-append l [])
  count-add_last d l (m ∷ ls) = omega (arith, count-append l (joined (add_last d m ls)), count-append l (joined (m ∷ ls)), count-add_last d m ls)

  count-joined : (ls ms : List (List (ℕ × X))) → count_of n (joined (ls ++ ms)) ≡ count_of n (joined ls) + count_of n (joined ms)
  count-joined [] ms = omega arith
  count-joined (l ∷ ls) ms = omega (arith, count-append l (joined (ls ++ ms)), count-append l (joined ls), count-joined ls ms)

  count-take : (k : ℕ) (ls : List (List (ℕ × X))) → count_of n (joined (take k ls)) ≤ count_of n (joined ls)
  count-take zero ls = omega arith
  count-take (suc k) [] = omega arith
  count-take (suc k) (l ∷ ls) = omega (arith, count-append l (joined (take k ls)), count-append l (joined ls), count-take k ls)

  count-live : (first : List (ℕ × X)) (pushed : List (List (ℕ × X))) (globals : List (ℕ × X)) → count_of n (first ++ joined pushed ++ globals) ≡ count_of n first + count_of n (joined pushed) + count_of n globals
  count-live first pushed globals = omega (arith, count-append (first ++ joined pushed) globals, count-append first (joined pushed))

  count-declared : (g : Bool) (d : ℕ × X) (s : Levels X) → count_of n (live (declared g d s)) ≡ count_of n (live s) + count_at n d
  count-declared true d s = omega (arith, count-live s.first s.pushed (s.globals ++ d ∷ []), count-live s.first s.pushed s.globals, count-append s.globals (d ∷ []))
  count-declared false d s = count-with_last d s.first s.pushed s.globals
    where
      count-with_last : (d : ℕ × X) (first : List (ℕ × X)) (pushed : List (List (ℕ × X))) (globals : List (ℕ × X)) → count_of n (live (with_last d first pushed globals)) ≡ count_of n (first ++ joined pushed ++ globals) + count_at n d
      count-with_last d first [] globals = omega (arith, count-live (first ++ d ∷ []) [] globals, count-live first [] globals, count-append first (d ∷ []))
      count-with_last d first (l ∷ ls) globals = omega (arith, count-live first (add_last d l ls) globals, count-live first (l ∷ ls) globals, count-add_last d l ls)

-- a name that is not live
count_absent : {X : Type 0} (name : ℕ) (ds : List (ℕ × X)) → lookup (is_name name) ds ≡ None → count_of name ds ≡ 0
count_absent name [] e = refl
count_absent name (d ∷ ds) e = grind (arith, count_absent name ds)

count_at_most : {X : Type 0} (n : ℕ) (d : ℕ × X) → count_at n d ≤ 1
count_at_most n d = grind arith

once_more : {X : Type 0} (n : ℕ) (d : ℕ × X) (ds : List (ℕ × X)) → count_of n ds ≤ 1 → count_of d.0 ds ≡ 0 → count_of n ds + count_at n d ≤ 1
once_more n d ds h z = grind arith

pub distinct_declared : {X : Type 0} (g : Bool) (name : ℕ) (x : X) (s : Levels X) → HasDistinctNames (live s) → found name s ≡ None → HasDistinctNames (live (declared g (name, x) s))
distinct_declared g name x s h e = record { once = λ n. subst (λ k. k ≤ 1) (sym (count-declared n g (name, x) s)) (once_more n (name, x) (live s) (h.once n) (count_absent name (live s) e)) }

pub distinct_opened : {X : Type 0} (k : ℕ) (s : Levels X) → HasDistinctNames (live s) → HasDistinctNames (live (opened k s))
distinct_opened {X = X} k s h = record { once = λ n. omega (arith, h.once n, count-live n s.first (s.pushed ++ replicate k []) s.globals, count-live n s.first s.pushed s.globals, count-joined n s.pushed (replicate k []), count-empty X n k) }

pub distinct_closed : {X : Type 0} (k : ℕ) (s : Levels X) → HasDistinctNames (live s) → HasDistinctNames (live (closed k s))
distinct_closed k s h = record { once = λ n. omega (arith, h.once n, count-live n s.first (take (length s.pushed - k) s.pushed) s.globals, count-live n s.first s.pushed s.globals, count-take n (length s.pushed - k) s.pushed) }

pub distinct_globals : {X : Type 0} (s : Levels X) → HasDistinctNames (live s) → HasDistinctNames (live (only_globals s))
distinct_globals s h = record { once = λ n. omega (arith, h.once n, count-live n [] [] s.globals, count-live n s.first s.pushed s.globals) }

pub distinct_none : {X : Type 0} → HasDistinctNames (live (no_levels {X = X}))
distinct_none = record { once = λ n. omega arith }

-- what is live is found, whatever the order
found_once : {X : Type 0} (name : ℕ) (x : X) (ds es : List (ℕ × X)) → count_of name (ds ++ (name, x) ∷ es) ≤ 1 → lookup (is_name name) (ds ++ (name, x) ∷ es) ≡ Some x
found_once name x [] es l = grind arith
found_once name x (d ∷ ds) es l = grind (arith, found_once name x ds es, count-append name ds ((name, x) ∷ es))

pub found_live : {X : Type 0} (name : ℕ) (x : X) (ds es : List (ℕ × X)) → HasDistinctNames (ds ++ (name, x) ∷ es) → lookup (is_name name) (ds ++ (name, x) ∷ es) ≡ Some x
found_live name x ds es h = found_once name x ds es (h.once name)

-- the invariant of `Scopes` after each step
pub consistent_none : IsConsistent no_levels no_levels
consistent_none = record { same_levels = refl; few_levels = omega arith; funs_distinct = distinct_none; sorts_distinct = distinct_none }

pub consistent_fun : {E : Type 0} (r : Result (Unit {0}) E) (g : Bool) (name : ℕ) (x : FunEntry) (f f2 : Levels FunEntry) (s : Levels SortEntry) → IsConsistent f s → found name f ≡ None → length f2.pushed ≡ length f.pushed → OnOk r (f2 ≡ declared g (name, x) f) → OnErr r (f2 ≡ f) → IsConsistent f2 s
consistent_fun r g name x f f2 s h e l ok err = record {
  same_levels = l ∙ h.same_levels;
  few_levels = omega (arith, h.few_levels, l);
  funs_distinct = on_both r ok err (λ p. subst (λ z. HasDistinctNames (live z)) (sym p) (distinct_declared g name x f h.funs_distinct e)) (λ p. subst (λ z. HasDistinctNames (live z)) (sym p) h.funs_distinct);
  sorts_distinct = h.sorts_distinct;
}

pub consistent_sort : {E : Type 0} (r : Result (Unit {0}) E) (g : Bool) (name : ℕ) (x : SortEntry) (f : Levels FunEntry) (s s2 : Levels SortEntry) → IsConsistent f s → found name s ≡ None → length s2.pushed ≡ length s.pushed → OnOk r (s2 ≡ declared g (name, x) s) → OnErr r (s2 ≡ s) → IsConsistent f s2
consistent_sort r g name x f s s2 h e l ok err = record {
  same_levels = h.same_levels ∙ sym l;
  few_levels = h.few_levels;
  funs_distinct = h.funs_distinct;
  sorts_distinct = on_both r ok err (λ p. subst (λ z. HasDistinctNames (live z)) (sym p) (distinct_declared g name x s h.sorts_distinct e)) (λ p. subst (λ z. HasDistinctNames (live z)) (sym p) h.sorts_distinct);
}

pub consistent_closed : (k : ℕ) (f : Levels FunEntry) (s : Levels SortEntry) → IsConsistent f s → IsConsistent (closed k f) (closed k s)
consistent_closed k f s h = record {
  same_levels = ap (λ n. n) (length-take (length f.pushed - k) f.pushed ∙ ap (λ n. min (n - k) n) h.same_levels ∙ sym (length-take (length s.pushed - k) s.pushed));
  few_levels = omega (arith, h.few_levels, length-take (length f.pushed - k) f.pushed);
  funs_distinct = distinct_closed k f h.funs_distinct;
  sorts_distinct = distinct_closed k s h.sorts_distinct;
}

pub consistent_opened : (k : ℕ) (f : Levels FunEntry) (s : Levels SortEntry) → length f.pushed + k ≤ 65535 → IsConsistent f s → IsConsistent (opened k f) (opened k s)
consistent_opened k f s l h = record {
  same_levels = length-append f.pushed (replicate k []) ∙ ap (λ n. n + length (replicate {A = List (ℕ × FunEntry)} k [])) h.same_levels ∙ ap (λ n. length s.pushed + n) (length-replicate k [] ∙ sym (length-replicate k [])) ∙ sym (length-append s.pushed (replicate k []));
  few_levels = omega (arith, l, length-append f.pushed (replicate k []), length-replicate {A = List (ℕ × FunEntry)} k []);
  funs_distinct = distinct_opened k f h.funs_distinct;
  sorts_distinct = distinct_opened k s h.sorts_distinct;
}

pub consistent_globals : (f : Levels FunEntry) (s : Levels SortEntry) → IsConsistent f s → IsConsistent (only_globals f) (only_globals s)
consistent_globals f s h = record { same_levels = refl; few_levels = omega arith; funs_distinct = distinct_globals f h.funs_distinct; sorts_distinct = distinct_globals s h.sorts_distinct }

pub ruleset consistent_words = (consistent_none, consistent_fun, consistent_sort, consistent_closed, consistent_opened, consistent_globals)
