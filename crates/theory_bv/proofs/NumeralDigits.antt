-- More digits make no smaller value.
use Rattle.std.proofs.Common.{◌≡◌, ℕ, ◌+◌, ◌<◌, ◌≤◌, false, nat_le, List, [], ◌∷◌, length, take, drop, get_or, refl, ap, sym, ◌∙◌, arith}
use Rattle.std.specs.List.{fold}
use Rattle.std.proofs.lemmas.List.{take-append-drop}
use Rattle.std.proofs.lemmas.List.Sums.{fold-append, fold_more}
use Rattle.std.proofs.lemmas.Bool.Decides.{nat_tests}
use Rattle.theory_bv.specs.declared.index.Index.TheVariants.{Large}
use Rattle.theory_bv.specs.Indices.{greatest, index_with, with_digit}

grows : (n : ℕ) (text : List ℕ) → n ≤ fold with_digit n text
grows n [] = omega arith
grows n (b ∷ bs) = omega (arith, grows (with_digit n b) bs)

pub value_grows : (text : List ℕ) (i d : ℕ) → i < length text → with_digit (fold with_digit 0 (take i text)) (get_or text i d) ≤ fold with_digit 0 text
value_grows text i d l =
    let whole : fold with_digit 0 text ≡ fold with_digit (fold with_digit 0 (take (i + 1) text)) (drop (i + 1) text) =
    ap (fold with_digit 0) (sym (take-append-drop (i + 1) text)) ∙ fold-append with_digit 0 (take (i + 1) text) (drop (i + 1) text) in
    let more = fold_more with_digit 0 text i d l in
    omega (arith, whole, more, grows (fold with_digit 0 (take (i + 1) text)) (drop (i + 1) text))

pub index_with-large : (value : ℕ) → greatest < value → index_with value ≡ Large
index_with-large value h = let above : nat_le value greatest ≡ false = grind (arith, nat_tests) in rw above refl
