-- What the tests on arguments say of them and of their widths.
use Rattle.std.proofs.Common.{◌≡◌, ℕ, zero, suc, ◌<◌, ◌≤◌, true, ◌==◌, nat_le, List, [], ◌∷◌, length, map, Option, Some, None, slice_index_or, refl, sym, ◌∙◌, ap, arith}
use Rattle.std.specs.List.{All, list_all}
use Rattle.std.proofs.lemmas.Bool.{and_parts, and_from, eqb-true}
use Rattle.std.proofs.lemmas.List.{length-map}
use Rattle.theory_bv.specs.Declarations.{Arguments, no_argument, one, two, two_alike, left_assoc}
use Rattle.theory_bv.specs.Answers.{are_alike, are_bit_vectors, fits, has_width, width_at, width_or_0}
use Rattle.theory_bv.specs.Ranks.{AreAlike, AreArguments, letter}
use Rattle.theory_bv.proofs.NumberTests.{le_from_test, test_from_eq, test_from_le}

abbrev pub widths_of : List (Option ℕ) → List ℕ
widths_of ws = map (λ w. width_or_0 (Some w)) ws

pub letter-widths_of : (ws : List (Option ℕ)) (place : ℕ) → letter (widths_of ws) place ≡ width_at ws place
letter-widths_of [] place = refl
letter-widths_of (w ∷ ws) zero = refl
letter-widths_of (w ∷ ws) (suc place) = letter-widths_of ws place

pub width_at-bit_vectors : (widths : List ℕ) (place : ℕ) → width_at (map Some widths) place ≡ letter widths place
width_at-bit_vectors [] place = refl
width_at-bit_vectors (w ∷ widths) zero = refl
width_at-bit_vectors (w ∷ widths) (suc place) = width_at-bit_vectors widths place

bit_vectors_found : (ws : List (Option ℕ)) → are_bit_vectors ws ≡ true → ws ≡ map Some (widths_of ws)
bit_vectors_found [] h = refl
bit_vectors_found (None ∷ ws) h = cc
bit_vectors_found (Some w ∷ ws) h = ap (λ xs. Some w ∷ xs) (bit_vectors_found ws h)

are_bit_vectors-all : (widths : List ℕ) → are_bit_vectors (map Some widths) ≡ true
are_bit_vectors-all [] = refl
are_bit_vectors-all (w ∷ widths) = are_bit_vectors-all widths

alike_bit_vectors : (m : ℕ) (ws : List (Option ℕ)) → list_all (has_width m) ws ≡ true → are_bit_vectors ws ≡ true
alike_bit_vectors m [] h = refl
alike_bit_vectors m (None ∷ ws) h = cc
alike_bit_vectors m (Some w ∷ ws) h = alike_bit_vectors m ws (and_parts (w == m) (list_all (has_width m) ws) h).1

alike_at : (m : ℕ) (ws : List (Option ℕ)) → list_all (has_width m) ws ≡ true → (k d : ℕ) → k < length (widths_of ws) → slice_index_or (widths_of ws) k d ≡ m
alike_at m [] h k d l = absurd (omega arith)
alike_at m (None ∷ ws) h k d l = cc
alike_at m (Some w ∷ ws) h zero d l = eqb-true w m (and_parts (w == m) (list_all (has_width m) ws) h).0
alike_at m (Some w ∷ ws) h (suc k) d l = alike_at m ws (and_parts (w == m) (list_all (has_width m) ws) h).1 k d (omega arith)

all_alike : (m : ℕ) (widths : List ℕ) → All (λ w. w ≡ m) widths → list_all (has_width m) (map Some widths) ≡ true
all_alike m [] h = refl
all_alike m (w ∷ widths) h =
    and_from (w == m) (list_all (has_width m) (map Some widths)) (test_from_eq w m (h 0 0 (omega arith))) (all_alike m widths (λ k d l. h (suc k) d (omega arith)))

AreAlike-found : (ws : List (Option ℕ)) → are_alike ws ≡ true → AreAlike (widths_of ws)
AreAlike-found ws h k d l = alike_at (width_at ws 0) ws h k d l ∙ sym (letter-widths_of ws 0)

are_alike-all : (widths : List ℕ) → AreAlike widths → are_alike (map Some widths) ≡ true
are_alike-all widths h = rw (width_at-bit_vectors widths 0) (all_alike (letter widths 0) widths h)

count_is : (ws : List (Option ℕ)) (n : ℕ) → (length ws == n) ≡ true → length (widths_of ws) ≡ n
count_is ws n h = length-map ws (λ w. width_or_0 (Some w)) ∙ eqb-true (length ws) n h

count_tested : (widths : List ℕ) (n : ℕ) → length widths ≡ n → (length (map Some widths) == n) ≡ true
count_tested widths n h = test_from_eq (length (map Some widths)) n (length-map widths Some ∙ h)

no_arguments : (ws : List (Option ℕ)) → length (widths_of ws) ≡ 0 → ws ≡ map Some (widths_of ws)
no_arguments [] h = refl
no_arguments (w ∷ ws) h = absurd (omega arith)

pub arguments_found : (a : Arguments) (ws : List (Option ℕ)) → fits a ws ≡ true → (ws ≡ map Some (widths_of ws)) × AreArguments a (widths_of ws)
arguments_found no_argument ws h = (no_arguments ws (count_is ws 0 h), count_is ws 0 h)
arguments_found one ws h =
    let p = and_parts (length ws == 1) (are_bit_vectors ws) h in
    (bit_vectors_found ws p.1, count_is ws 1 p.0)
arguments_found two ws h =
    let p = and_parts (length ws == 2) (are_bit_vectors ws) h in
    (bit_vectors_found ws p.1, count_is ws 2 p.0)
arguments_found two_alike ws h =
    let p = and_parts (length ws == 2) (are_alike ws) h in
    (bit_vectors_found ws (alike_bit_vectors (width_at ws 0) ws p.1), (count_is ws 2 p.0, AreAlike-found ws p.1))
arguments_found left_assoc ws h =
    let p = and_parts (nat_le 2 (length ws)) (are_alike ws) h in
    let count : 2 ≤ length (widths_of ws) = rw (length-map ws) (le_from_test 2 (length ws) p.0) in
    (bit_vectors_found ws (alike_bit_vectors (width_at ws 0) ws p.1), (count, AreAlike-found ws p.1))

pub arguments_fit : (a : Arguments) (widths : List ℕ) → AreArguments a widths → fits a (map Some widths) ≡ true
arguments_fit no_argument widths h = count_tested widths 0 h
arguments_fit one widths h = and_from (length (map Some widths) == 1) (are_bit_vectors (map Some widths)) (count_tested widths 1 h) (are_bit_vectors-all widths)
arguments_fit two widths h = and_from (length (map Some widths) == 2) (are_bit_vectors (map Some widths)) (count_tested widths 2 h) (are_bit_vectors-all widths)
arguments_fit two_alike widths h = and_from (length (map Some widths) == 2) (are_alike (map Some widths)) (count_tested widths 2 h.0) (are_alike-all widths h.1)
arguments_fit left_assoc widths h =
    let count : 2 ≤ length (map Some widths) = rw (length-map widths) h.0 in
    and_from (nat_le 2 (length (map Some widths))) (are_alike (map Some widths)) (test_from_le 2 (length (map Some widths)) count) (are_alike-all widths h.1)
