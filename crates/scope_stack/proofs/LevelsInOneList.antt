-- What a declaration, an opened level and a closed level do to the one list that holds all levels.
use Rattle.std.proofs.Common.{◌≡◌, ℕ, suc, zero, ◌+◌, ◌-◌, ◌<◌, ◌≤◌, Bool, List, [], ◌∷◌, ◌++◌, length, take, drop, get_or, replicate, Some, None, refl, ap, sym, subst, ◌∙◌, arith, append_assoc, append-nil, Result, Ok, Err, OnOk, OnErr}
use Rattle.std.proofs.lemmas.List.{drop_all, take_all, replicate_more, take-append-drop, take-append-le, drop-append-le, length-drop, length-take-le, take-take, drop-take}
use Rattle.std.specs.Map.{lookup}
use Rattle.scope_stack.specs.Levels.{joined, add_last, with_last, levels_of}
use Rattle.scope_stack.specs.LevelStarts.{first_from, pushed_from, AreStarts}

-- the levels joined are the list
pub joined_is : {X : Type 0} (k : ℕ) (ms : List ℕ) (es : List X) → first_from k ms es ++ joined (pushed_from k ms es) ≡ es
joined_is k [] es = append-nil es
joined_is k (m ∷ ms) es = ap (λ l. take (m - k) es ++ l) (joined_is m ms (drop (m - k) es)) ∙ take-append-drop (m - k) es

pub length-pushed : {X : Type 0} (k : ℕ) (ms : List ℕ) (es : List X) → length (pushed_from k ms es) ≡ length ms
length-pushed k [] es = refl
length-pushed k (m ∷ ms) es = ap suc (length-pushed m ms (drop (m - k) es))

module _ {K X : Type 0} (test : K → Bool) where
  pub lookup_left : (xs ys : List (K × X)) (v : X) → lookup test xs ≡ Some v → lookup test (xs ++ ys) ≡ Some v
  lookup_left [] ys v e = cc
  lookup_left (x ∷ xs) ys v e = grind (arith, lookup_left xs ys v)

  pub lookup_right : (xs ys : List (K × X)) → lookup test xs ≡ None → lookup test (xs ++ ys) ≡ lookup test ys
  lookup_right [] ys e = refl
  lookup_right (x ∷ xs) ys e = grind (arith, lookup_right xs ys)

  absent_left : (xs ys : List (K × X)) → lookup test (xs ++ ys) ≡ None → lookup test xs ≡ None
  absent_left [] ys e = refl
  absent_left (x ∷ xs) ys e = grind (arith, absent_left xs ys)

  live_is : (ms : List ℕ) (es gs : List (K × X)) → lookup test (first_from 0 ms es ++ joined (pushed_from 0 ms es) ++ gs) ≡ lookup test (es ++ gs)
  live_is ms es gs = ap (λ l. lookup test (l ++ gs)) (joined_is 0 ms es)

  pub found_scoped : (ms : List ℕ) (es gs : List (K × X)) (v : X) → lookup test es ≡ Some v → Some v ≡ lookup test (first_from 0 ms es ++ joined (pushed_from 0 ms es) ++ gs)
  found_scoped ms es gs v e = sym (live_is ms es gs ∙ lookup_left es gs v e)

  pub found_global : (ms : List ℕ) (es gs : List (K × X)) → lookup test es ≡ None → lookup test gs ≡ lookup test (first_from 0 ms es ++ joined (pushed_from 0 ms es) ++ gs)
  found_global ms es gs e = sym (live_is ms es gs ∙ lookup_right es gs e)

  pub absent_scoped : (ms : List ℕ) (es gs : List (K × X)) → lookup test (first_from 0 ms es ++ joined (pushed_from 0 ms es) ++ gs) ≡ None → lookup test es ≡ None
  absent_scoped ms es gs e = absent_left es gs (sym (live_is ms es gs) ∙ e)

  pub absent_global : (ms : List ℕ) (es gs : List (K × X)) → lookup test (first_from 0 ms es ++ joined (pushed_from 0 ms es) ++ gs) ≡ None → lookup test gs ≡ None
  absent_global ms es gs e = sym (lookup_right es gs (absent_scoped ms es gs e)) ∙ sym (live_is ms es gs) ∙ e

pub starts_le : (k : ℕ) (ms : List ℕ) (end : ℕ) → AreStarts k ms end → k ≤ end
starts_le k [] end h = h
starts_le k (m ∷ ms) end h = omega (arith, h.0, starts_le m ms end h.1)

-- where the part from a start on ends
end_at : {X : Type 0} (k m : ℕ) (es : List X) (end : ℕ) → k ≤ m → m ≤ end → end ≡ k + length es → end ≡ m + length (drop (m - k) es)
end_at k m es end a b e = omega (arith, length-drop (m - k) es)

-- a declaration more
pub add_last_is : {X : Type 0} (k : ℕ) (ms : List ℕ) (es : List X) (d : X) (end : ℕ) → AreStarts k ms end → end ≡ k + length es → first_from k ms (es ++ d ∷ []) ∷ pushed_from k ms (es ++ d ∷ []) ≡ add_last d (first_from k ms es) (pushed_from k ms es)
add_last_is k [] es d end h e = refl
add_last_is k (m ∷ ms) es d end h e =
    let b : m ≤ end = starts_le m ms end h.1 in
    let t : take (m - k) (es ++ d ∷ []) ≡ take (m - k) es = take-append-le (m - k) es (d ∷ []) (omega (arith, h.0)) in
    let r : drop (m - k) (es ++ d ∷ []) ≡ drop (m - k) es ++ d ∷ [] = drop-append-le (m - k) es (d ∷ []) (omega (arith, h.0)) in
    ap (λ l. l ∷ (first_from m ms (drop (m - k) (es ++ d ∷ [])) ∷ pushed_from m ms (drop (m - k) (es ++ d ∷ [])))) t
    ∙ ap (λ l. take (m - k) es ∷ (first_from m ms l ∷ pushed_from m ms l)) r
    ∙ ap (λ l. take (m - k) es ∷ l) (add_last_is m ms (drop (m - k) es) d end h.1 (end_at k m es end h.0 b e))

tail_same : {X : Type 0} (x y : X) (xs ys : List X) → x ∷ xs ≡ y ∷ ys → xs ≡ ys
tail_same x y xs ys e = cc

pub with_last_is : {X : Type 0} (ms : List ℕ) (es gs : List (ℕ × X)) (d : ℕ × X) → AreStarts 0 ms (length es) → levels_of (first_from 0 ms (es ++ d ∷ [])) (pushed_from 0 ms (es ++ d ∷ [])) gs ≡ with_last d (first_from 0 ms es) (pushed_from 0 ms es) gs
with_last_is [] es gs d h = refl
with_last_is (m ∷ ms) es gs d h =
    let b : m ≤ length es = starts_le m ms (length es) h.1 in
    let t : take (m - 0) (es ++ d ∷ []) ≡ take (m - 0) es = take-append-le (m - 0) es (d ∷ []) (omega arith) in
    let r : drop (m - 0) (es ++ d ∷ []) ≡ drop (m - 0) es ++ d ∷ [] = drop-append-le (m - 0) es (d ∷ []) (omega arith) in
    ap (λ l. levels_of l (first_from m ms (drop (m - 0) (es ++ d ∷ [])) ∷ pushed_from m ms (drop (m - 0) (es ++ d ∷ []))) gs) t
    ∙ ap (λ l. levels_of (take (m - 0) es) (first_from m ms l ∷ pushed_from m ms l) gs) r
    ∙ ap (λ l. levels_of (take (m - 0) es) l gs) (add_last_is m ms (drop (m - 0) es) d (length es) h.1 (end_at 0 m es (length es) h.0 b (omega arith)))

pub starts_more : (k : ℕ) (ms : List ℕ) (end more : ℕ) → AreStarts k ms end → end ≤ more → AreStarts k ms more
starts_more k [] end more h l = omega (arith, h)
starts_more k (m ∷ ms) end more h l = (h.0, starts_more m ms end more h.1 l)

-- a level more
open_first : {X : Type 0} (k : ℕ) (ms : List ℕ) (es : List X) (end : ℕ) → end ≡ k + length es → first_from k (ms ++ end ∷ []) es ≡ first_from k ms es
open_first k [] es end e = take_all (end - k) es (omega arith)
open_first k (m ∷ ms) es end e = refl

open_pushed : {X : Type 0} (k : ℕ) (ms : List ℕ) (es : List X) (end : ℕ) → AreStarts k ms end → end ≡ k + length es → pushed_from k (ms ++ end ∷ []) es ≡ pushed_from k ms es ++ [] ∷ []
open_pushed k [] es end h e = ap (λ l. l ∷ []) (drop_all (end - k) es (omega arith))
open_pushed k (m ∷ ms) es end h e =
    let e2 : end ≡ m + length (drop (m - k) es) = end_at k m es end h.0 (starts_le m ms end h.1) e in
    ap (λ l. l ∷ pushed_from m (ms ++ end ∷ []) (drop (m - k) es)) (open_first m ms (drop (m - k) es) end e2)
    ∙ ap (λ l. first_from m ms (drop (m - k) es) ∷ l) (open_pushed m ms (drop (m - k) es) end h.1 e2)

starts_push : (k : ℕ) (ms : List ℕ) (end : ℕ) → AreStarts k ms end → AreStarts k (ms ++ end ∷ []) end
starts_push k [] end h = (h, omega arith)
starts_push k (m ∷ ms) end h = (h.0, starts_push m ms end h.1)

-- n levels more
pub record Opened {X : Type 0} (ms : List ℕ) (es : List X) (n : ℕ) : Type 0 where
  pub starts : AreStarts 0 (ms ++ replicate n (length es)) (length es)
  pub first : first_from 0 (ms ++ replicate n (length es)) es ≡ first_from 0 ms es
  pub pushed : pushed_from 0 (ms ++ replicate n (length es)) es ≡ pushed_from 0 ms es ++ replicate n []

pub opened_is : {X : Type 0} (ms : List ℕ) (es : List X) (n : ℕ) → AreStarts 0 ms (length es) → Opened ms es n
opened_is ms es zero h = record {
  starts = subst (λ l. AreStarts 0 l (length es)) (sym (append-nil ms)) h;
  first = ap (λ l. first_from 0 l es) (append-nil ms);
  pushed = ap (λ l. pushed_from 0 l es) (append-nil ms) ∙ sym (append-nil (pushed_from 0 ms es));
}
opened_is ms es (suc n) h =
    let one : length es ≡ 0 + length es = omega arith in
    let i = opened_is (ms ++ length es ∷ []) es n (starts_push 0 ms (length es) h) in
    let a : (ms ++ length es ∷ []) ++ replicate n (length es) ≡ ms ++ replicate (suc n) (length es) = append_assoc ms (length es ∷ []) (replicate n (length es)) in
    record {
      starts = subst (λ l. AreStarts 0 l (length es)) a i.starts;
      first = ap (λ l. first_from 0 l es) (sym a) ∙ i.first ∙ open_first 0 ms es (length es) one;
      pushed = ap (λ l. pushed_from 0 l es) (sym a) ∙ i.pushed ∙ ap (λ l. l ++ replicate n []) (open_pushed 0 ms es (length es) h one)
          ∙ append_assoc (pushed_from 0 ms es) ([] ∷ []) (replicate n []);
    }

-- levels fewer
start_ge : (k : ℕ) (ms : List ℕ) (end j d : ℕ) → AreStarts k ms end → j < length ms → (k ≤ get_or ms j d) × (get_or ms j d ≤ end)
start_ge k [] end j d h l = absurd (omega arith)
start_ge k (m ∷ ms) end zero d h l = (h.0, starts_le m ms end h.1)
start_ge k (m ∷ ms) end (suc j) d h l = let i = start_ge m ms end j d h.1 (omega arith) in (omega (arith, h.0, i.0), i.1)

close_first : {X : Type 0} (k : ℕ) (ms : List ℕ) (es : List X) (j d end : ℕ) → AreStarts k ms end → j < length ms → first_from k (take j ms) (take (get_or ms j d - k) es) ≡ first_from k ms es
close_first k [] es j d end h l = absurd (omega arith)
close_first k (m ∷ ms) es zero d end h l = refl
close_first k (m ∷ ms) es (suc j) d end h l = let i = start_ge m ms end j d h.1 (omega arith) in take-take (m - k) (get_or ms j d - k) es (omega (arith, i.0))

close_pushed : {X : Type 0} (k : ℕ) (ms : List ℕ) (es : List X) (j d end : ℕ) → AreStarts k ms end → j < length ms → pushed_from k (take j ms) (take (get_or ms j d - k) es) ≡ take j (pushed_from k ms es)
close_pushed k [] es j d end h l = absurd (omega arith)
close_pushed k (m ∷ ms) es zero d end h l = refl
close_pushed k (m ∷ ms) es (suc j) d end h l =
    let b : j < length ms = omega arith in
    let i = start_ge m ms end j d h.1 b in
    let n : get_or ms j d - k ≡ (m - k) + (get_or ms j d - m) = omega (arith, i.0, h.0) in
    let r : drop (m - k) (take (get_or ms j d - k) es) ≡ take (get_or ms j d - m) (drop (m - k) es) = ap (λ x. drop (m - k) (take x es)) n ∙ drop-take (m - k) (get_or ms j d - m) es in
    ap (λ l. first_from m (take j ms) l ∷ pushed_from m (take j ms) l) r
    ∙ ap (λ l. l ∷ pushed_from m (take j ms) (take (get_or ms j d - m) (drop (m - k) es))) (close_first m ms (drop (m - k) es) j d end h.1 b)
    ∙ ap (λ l. first_from m ms (drop (m - k) es) ∷ l) (close_pushed m ms (drop (m - k) es) j d end h.1 b)

close_starts : (k : ℕ) (ms : List ℕ) (end j d : ℕ) → AreStarts k ms end → j < length ms → AreStarts k (take j ms) (get_or ms j d)
close_starts k [] end j d h l = absurd (omega arith)
close_starts k (m ∷ ms) end zero d h l = h.0
close_starts k (m ∷ ms) end (suc j) d h l = (h.0, close_starts m ms end j d h.1 (omega arith))

pub record Closed {X : Type 0} (ms : List ℕ) (es : List X) (j at : ℕ) : Type 0 where
  pub starts : AreStarts 0 (take j ms) (length (take at es))
  pub first : first_from 0 (take j ms) (take at es) ≡ first_from 0 ms es
  pub pushed : pushed_from 0 (take j ms) (take at es) ≡ take j (pushed_from 0 ms es)

pub closed_is : {X : Type 0} (ms : List ℕ) (es : List X) (j at : ℕ) → AreStarts 0 ms (length es) → j < length ms → at ≡ get_or ms j at → Closed ms es j at
closed_is ms es j at h l e =
    let i = start_ge 0 ms (length es) j at h l in
    let n : get_or ms j at - 0 ≡ at = omega (arith, sym e) in
    let len : length (take at es) ≡ at = length-take-le at es (omega (arith, i.1, e)) in
    record {
      starts = subst (AreStarts 0 (take j ms)) (sym e ∙ sym len) (close_starts 0 ms (length es) j at h l);
      first = ap (λ x. first_from 0 (take j ms) (take x es)) (sym n) ∙ close_first 0 ms es j at (length es) h l;
      pushed = ap (λ x. pushed_from 0 (take j ms) (take x es)) (sym n) ∙ close_pushed 0 ms es j at (length es) h l;
    }

-- the same as equations between the levels of a name space
pub closed_space : {X : Type 0} (ms : List ℕ) (es gs : List (ℕ × X)) (j at n : ℕ) (ms2 : List ℕ) (es2 : List (ℕ × X)) → AreStarts 0 ms (length es) → j < length ms → at ≡ get_or ms j at → j ≡ length ms - n → ms2 ≡ take j ms → es2 ≡ take at es → levels_of (first_from 0 ms2 es2) (pushed_from 0 ms2 es2) gs ≡ levels_of (first_from 0 ms es) (take (length (pushed_from 0 ms es) - n) (pushed_from 0 ms es)) gs
closed_space ms es gs j at n ms2 es2 h l e k p q =
    let c = closed_is ms es j at h l e in
    let m : j ≡ length (pushed_from 0 ms es) - n = omega (arith, length-pushed 0 ms es) in
    ap (λ x. levels_of (first_from 0 x es2) (pushed_from 0 x es2) gs) p
    ∙ ap (λ x. levels_of (first_from 0 (take j ms) x) (pushed_from 0 (take j ms) x) gs) q
    ∙ ap (λ x. levels_of x (pushed_from 0 (take j ms) (take at es)) gs) c.first
    ∙ ap (λ x. levels_of (first_from 0 ms es) x gs) (c.pushed ∙ ap (λ x. take x (pushed_from 0 ms es)) m)

pub opened_space : {X : Type 0} (ms : List ℕ) (es gs : List (ℕ × X)) (n : ℕ) (ms2 : List ℕ) → AreStarts 0 ms (length es) → ms2 ≡ ms ++ replicate n (length es) → levels_of (first_from 0 ms2 es) (pushed_from 0 ms2 es) gs ≡ levels_of (first_from 0 ms es) (pushed_from 0 ms es ++ replicate n []) gs
opened_space ms es gs n ms2 h p =
    let o = opened_is ms es n h in
    ap (λ x. levels_of (first_from 0 x es) (pushed_from 0 x es) gs) p
    ∙ ap (λ x. levels_of x (pushed_from 0 (ms ++ replicate n (length es)) es) gs) o.first
    ∙ ap (λ x. levels_of (first_from 0 ms es) x gs) o.pushed

-- what follows from either answer
pub on_both : {T E P Q G : Type 0} (r : Result T E) → OnOk r P → OnErr r Q → (P → G) → (Q → G) → G
on_both (Ok x) p q f g = f p
on_both (Err x) p q f g = g q

pub take_more_starts : (before now : List ℕ) (m : ℕ) → length before ≤ length now → take (length before) now ≡ before → take (length before) (now ++ m ∷ []) ≡ before
take_more_starts before now m l same = take-append-le (length before) now (m ∷ []) l ∙ same

pub grown_starts : (before now : List ℕ) (m n : ℕ) → now ≡ before ++ replicate n m → now ++ m ∷ [] ≡ before ++ replicate (n + 1) m
grown_starts before now m n e = ap (λ l. l ++ m ∷ []) e ∙ append_assoc before (replicate n m) (m ∷ []) ∙ ap (λ l. before ++ l) (replicate_more n m)

pub ruleset open_words = (take_more_starts, grown_starts)

pub ruleset found_words = (found_scoped, found_global)

pub ruleset depth_words = (length-pushed)
