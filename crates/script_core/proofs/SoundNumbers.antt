-- Numbers that are given one after the other are distinct, and levels keep their number where something is declared.
use Rattle.std.proofs.Common.{◌≡◌, ℕ, zero, suc, ◌+◌, ◌-◌, ◌<◌, ◌≤◌, Bool, true, false, List, [], ◌∷◌, ◌++◌, length, replicate, Some, refl, ap, ◌∙◌, arith, length-append}
use Rattle.std.specs.Prelude.{slice_get}
use Rattle.std.proofs.lemmas.List.{length-replicate, length-take-le}
use Rattle.scope_stack.specs.Levels.{Levels, add_last, closed, declared, opened, with_last}
use Rattle.term_store.specs.SoundTerms.{AreDistinct}
use Rattle.typer.proofs.LiveDeclarations.{Each}

-- each number is one of those from n on, and greater than those before it
abbrev pub AscendFrom : ℕ → List ℕ → Type 0
AscendFrom n [] = Unit {0}
AscendFrom n (m ∷ ms) = (n ≤ m) × AscendFrom (m + 1) ms

-- .. and less than a number past them all
abbrev pub AscendTo : ℕ → List ℕ → ℕ → Type 0
AscendTo n [] top = n ≤ top
AscendTo n (m ∷ ms) top = (n ≤ m) × AscendTo (m + 1) ms top

pub ascend_span : (n : ℕ) (ms : List ℕ) (top : ℕ) → AscendTo n ms top → n ≤ top
ascend_span n [] top h = h
ascend_span n (m ∷ ms) top h = omega (arith, h.0, ascend_span (m + 1) ms top h.1)

pub ascend_from : (n : ℕ) (ms : List ℕ) (top : ℕ) → AscendTo n ms top → AscendFrom n ms
ascend_from n [] top h = tt
ascend_from n (m ∷ ms) top h = (h.0, ascend_from (m + 1) ms top h.1)

ascend_later : (n low : ℕ) (ms : List ℕ) (top : ℕ) → low ≤ n → AscendTo n ms top → AscendTo low ms top
ascend_later n low [] top l h = omega (arith, l, h)
ascend_later n low (m ∷ ms) top l h = (omega (arith, l, h.0), h.1)

-- some numbers, and others after them
pub ascend_on : (n : ℕ) (ms : List ℕ) (mid : ℕ) (ks : List ℕ) (top : ℕ) → AscendTo n ms mid → AscendTo mid ks top → AscendTo n (ms ++ ks) top
ascend_on n [] mid ks top h k = ascend_later mid n ks top h k
ascend_on n (m ∷ ms) mid ks top h k = (h.0, ascend_on (m + 1) ms mid ks top h.1 k)

pub ascend_below : (n : ℕ) (ms : List ℕ) (top : ℕ) → AscendTo n ms top → Each (λ m. m < top) ms
ascend_below n [] top h = tt
ascend_below n (m ∷ ms) top h = (omega (arith, ascend_span (m + 1) ms top h.1), ascend_below (m + 1) ms top h.1)

pub ascend_first : (n : ℕ) (ms ks : List ℕ) → AscendFrom n (ms ++ ks) → AscendFrom n ms
ascend_first n [] ks h = tt
ascend_first n (m ∷ ms) ks h = (h.0, ascend_first (m + 1) ms ks h.1)

pub ascend_lower : (n low : ℕ) (ms : List ℕ) → low ≤ n → AscendFrom n ms → AscendFrom low ms
ascend_lower n low [] l h = tt
ascend_lower n low (m ∷ ms) l h = (omega (arith, l, h.0), h.1)

least : (n : ℕ) (ms : List ℕ) (i k : ℕ) → AscendFrom n ms → slice_get ms i ≡ Some k → n ≤ k
least n [] i k h e = cc
least n (m ∷ ms) zero k h e = let same : m ≡ k = cc in omega (arith, h.0, same)
least n (m ∷ ms) (suc i) k h e = omega (arith, h.0, least (m + 1) ms i k h.1 e)

places_once : (n : ℕ) (ms : List ℕ) (i j k : ℕ) → AscendFrom n ms → slice_get ms i ≡ Some k → slice_get ms j ≡ Some k → i ≡ j
places_once n [] i j k h e f = cc
places_once n (m ∷ ms) zero zero k h e f = refl
places_once n (m ∷ ms) zero (suc j) k h e f = let same : m ≡ k = cc in absurd (omega (arith, same, least (m + 1) ms j k h.1 f))
places_once n (m ∷ ms) (suc i) zero k h e f = let same : m ≡ k = cc in absurd (omega (arith, same, least (m + 1) ms i k h.1 e))
places_once n (m ∷ ms) (suc i) (suc j) k h e f = ap suc (places_once (m + 1) ms i j k h.1 e f)

pub distinct_numbers : (n : ℕ) (ms : List ℕ) → AscendFrom n ms → AreDistinct ms
distinct_numbers n ms h = record { distinct = λ i j k e f. places_once n ms i j k h e f }

-- how many levels are open
length-add_last : {X : Type 0} (d : X) (l : List X) (ls : List (List X)) → length (add_last d l ls) ≡ suc (length ls)
length-add_last d l [] = refl
length-add_last d l (m ∷ ls) = ap suc (length-add_last d m ls)

length-with_last : {X : Type 0} (d : ℕ × X) (first : List (ℕ × X)) (pushed : List (List (ℕ × X))) (globals : List (ℕ × X)) → length (with_last d first pushed globals).pushed ≡ length pushed
length-with_last d first [] globals = refl
length-with_last d first (l ∷ ls) globals = length-add_last d l ls

pub length-declared : {X : Type 0} (global : Bool) (d : ℕ × X) (s : Levels X) → length (declared global d s).pushed ≡ length s.pushed
length-declared true d s = refl
length-declared false d s = length-with_last d s.first s.pushed s.globals

pub length-opened : {X : Type 0} (n : ℕ) (s : Levels X) → length (opened n s).pushed ≡ length s.pushed + n
length-opened {X} n s = length-append s.pushed (replicate n []) ∙ ap (λ (m : ℕ). length s.pushed + m) (length-replicate n (the_empty X))
  where
    the_empty : (X : Type 0) → List (ℕ × X)
    the_empty X = []

pub length-closed : {X : Type 0} (n : ℕ) (s : Levels X) → length (closed n s).pushed ≡ length s.pushed - n
length-closed n s = length-take-le (length s.pushed - n) s.pushed (omega arith)
