-- What holds of each live declaration, after each call that changes the levels.
use Rattle.std.proofs.Common.{ℕ, zero, suc, ◌-◌, Bool, true, false, List, [], ◌∷◌, ◌++◌, length, take, replicate, arith}
use Rattle.std.specs.List.{All}
use Rattle.scope_stack.specs.Levels.{Levels, joined, live, add_last, with_last, declared, opened, closed, only_globals}

-- it holds of each, by recursion
abbrev pub Each : {X : Type 0} → (X → Type 0) → List X → Type 0
Each P [] = Unit {0}
Each P (x ∷ xs) = P x × Each P xs

pub each_of_all : {X : Type 0} (P : X → Type 0) (xs : List X) → All P xs → Each P xs
each_of_all P [] h = tt
each_of_all P (x ∷ xs) h = (h zero x (omega arith), each_of_all P xs (λ k d l. h (suc k) d (omega (arith, l))))

pub all_of_each : {X : Type 0} (P : X → Type 0) (xs : List X) → Each P xs → All P xs
all_of_each P [] h k d l = absurd (omega (arith, l))
all_of_each P (x ∷ xs) h zero d l = h.0
all_of_each P (x ∷ xs) h (suc k) d l = all_of_each P xs h.1 k d (omega (arith, l))

module _ {X : Type 0} (P : X → Type 0) where
  both : (xs ys : List X) → Each P xs → Each P ys → Each P (xs ++ ys)
  both [] ys h k = k
  both (x ∷ xs) ys h k = (h.0, both xs ys h.1 k)

  left_of : (xs ys : List X) → Each P (xs ++ ys) → Each P xs
  left_of [] ys h = tt
  left_of (x ∷ xs) ys h = (h.0, left_of xs ys h.1)

  right_of : (xs ys : List X) → Each P (xs ++ ys) → Each P ys
  right_of [] ys h = h
  right_of (x ∷ xs) ys h = right_of xs ys h.1

  added : (d : X) (l : List X) (ls : List (List X)) → P d → Each P (joined (l ∷ ls)) → Each P (joined (add_last d l ls))
  added d l [] p h = both (l ++ d ∷ []) [] (both l (d ∷ []) (left_of l [] h) (p, tt)) tt
  added d l (m ∷ ls) p h = both l (joined (add_last d m ls)) (left_of l (joined (m ∷ ls)) h) (added d m ls p (right_of l (joined (m ∷ ls)) h))

  opened_levels : (n : ℕ) (ls : List (List X)) → Each P (joined ls) → Each P (joined (ls ++ replicate n []))
  opened_levels zero [] h = tt
  opened_levels (suc n) [] h = opened_levels n [] tt
  opened_levels n (l ∷ ls) h = both l (joined (ls ++ replicate n [])) (left_of l (joined ls) h) (opened_levels n ls (right_of l (joined ls) h))

  closed_levels : (n : ℕ) (ls : List (List X)) → Each P (joined ls) → Each P (joined (take n ls))
  closed_levels zero ls h = tt
  closed_levels (suc n) [] h = tt
  closed_levels (suc n) (l ∷ ls) h = both l (joined (take n ls)) (left_of l (joined ls) h) (closed_levels n ls (right_of l (joined ls) h))

module _ {X : Type 0} (P : ℕ × X → Type 0) where
  -- the parts of the live declarations
  first_part : (s : Levels X) → Each P (live s) → Each P s.first
  first_part s h = left_of P s.first (joined s.pushed) (left_of P (s.first ++ joined s.pushed) s.globals h)

  pushed_part : (s : Levels X) → Each P (live s) → Each P (joined s.pushed)
  pushed_part s h = right_of P s.first (joined s.pushed) (left_of P (s.first ++ joined s.pushed) s.globals h)

  globals_part : (s : Levels X) → Each P (live s) → Each P s.globals
  globals_part s h = right_of P (s.first ++ joined s.pushed) s.globals h

  whole : (s : Levels X) → Each P s.first → Each P (joined s.pushed) → Each P s.globals → Each P (live s)
  whole s f p g = both P (s.first ++ joined s.pushed) s.globals (both P s.first (joined s.pushed) f p) g

  put_last : (d : ℕ × X) (first : List (ℕ × X)) (pushed : List (List (ℕ × X))) (globals : List (ℕ × X)) → P d → Each P first → Each P (joined pushed) → Each P globals → Each P (live (with_last d first pushed globals))
  put_last d first [] globals p f h g = whole (with_last d first [] globals) (both P first (d ∷ []) f (p, tt)) tt g
  put_last d first (l ∷ ls) globals p f h g = whole (with_last d first (l ∷ ls) globals) f (added P d l ls p h) g

  pub each_declared : (global : Bool) (d : ℕ × X) (s : Levels X) → P d → Each P (live s) → Each P (live (declared global d s))
  each_declared true d s p h = whole (declared true d s) (first_part s h) (pushed_part s h) (both P s.globals (d ∷ []) (globals_part s h) (p, tt))
  each_declared false d s p h = put_last d s.first s.pushed s.globals p (first_part s h) (pushed_part s h) (globals_part s h)

  pub each_opened : (n : ℕ) (s : Levels X) → Each P (live s) → Each P (live (opened n s))
  each_opened n s h = whole (opened n s) (first_part s h) (opened_levels P n s.pushed (pushed_part s h)) (globals_part s h)

  pub each_closed : (n : ℕ) (s : Levels X) → Each P (live s) → Each P (live (closed n s))
  each_closed n s h = whole (closed n s) (first_part s h) (closed_levels P (length s.pushed - n) s.pushed (pushed_part s h)) (globals_part s h)

  pub each_global : (s : Levels X) → Each P (live s) → Each P (live (only_globals s))
  each_global s h = whole (only_globals s) tt tt (globals_part s h)
