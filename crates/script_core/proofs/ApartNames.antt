-- Names none of which came before are distinct.
use Rattle.std.proofs.Common.{◌≡◌, ℕ, zero, suc, ◌==◌, ◌||◌, Bool, true, false, List, [], ◌∷◌, ◌++◌, map, Some, refl, ap, sym, ◌∙◌, subst, eq-eqb}
use Rattle.std.specs.Prelude.{slice_get}
use Rattle.std.specs.List.{list_any}
use Rattle.std.proofs.lemmas.Bool.{false≢true}
use Rattle.judgement.specs.Judging.{well_sorted}
use Rattle.sort_store.specs.Tree.{Sort}
use Rattle.term_grammar.specs.Syntax.{SortedSymbol}
use Rattle.term_store.specs.SoundTerms.{AreDistinct}
use Rattle.script_core.specs.Environment.{Environment}
use Rattle.script_core.specs.Rules.{judge_variables}

abbrev is_seen : ℕ → List ℕ → Bool
is_seen n seen = list_any (λ m. m == n) seen

-- none of the names is one of those before it
abbrev Apart : List ℕ → List ℕ → Type 0
Apart seen [] = Unit {0}
Apart seen (n ∷ ns) = (is_seen n seen ≡ false) × Apart (seen ++ n ∷ []) ns

or_kept : (b c d : Bool) → (c ≡ true → d ≡ true) → (b || c) ≡ true → (b || d) ≡ true
or_kept true c d f e = refl
or_kept false c d f e = f e

or_right : (b c : Bool) → c ≡ true → (b || c) ≡ true
or_right true c e = refl
or_right false c e = e

seen_kept : (xs : List ℕ) (y n : ℕ) → is_seen n xs ≡ true → is_seen n (xs ++ y ∷ []) ≡ true
seen_kept [] y n e = absurd (false≢true e)
seen_kept (x ∷ xs) y n e = or_kept (x == n) (is_seen n xs) (is_seen n (xs ++ y ∷ [])) (λ h. seen_kept xs y n h) e

seen_last : (xs : List ℕ) (n : ℕ) → is_seen n (xs ++ n ∷ []) ≡ true
seen_last [] n = ap (λ b. b || false) (eq-eqb n n refl)
seen_last (x ∷ xs) n = or_right (x == n) (is_seen n (xs ++ n ∷ [])) (seen_last xs n)

not_seen : (seen ns : List ℕ) (i n : ℕ) → Apart seen ns → is_seen n seen ≡ true → slice_get ns i ≡ Some n → ⊥
not_seen seen [] i n h e at = cc
not_seen seen (m ∷ ns) zero n h e at = let same : m ≡ n = cc in false≢true (sym h.0 ∙ (ap (λ k. is_seen k seen) same ∙ e))
not_seen seen (m ∷ ns) (suc i) n h e at = not_seen (seen ++ m ∷ []) ns i n h.1 (seen_kept seen m n e) at

first_once : (seen ns : List ℕ) (m n j : ℕ) → Apart (seen ++ m ∷ []) ns → m ≡ n → slice_get ns j ≡ Some n → ⊥
first_once seen ns m n j h same at = not_seen (seen ++ m ∷ []) ns j n h (subst (λ k. is_seen k (seen ++ m ∷ []) ≡ true) same (seen_last seen m)) at

one_place : (seen ns : List ℕ) (i j n : ℕ) → Apart seen ns → slice_get ns i ≡ Some n → slice_get ns j ≡ Some n → i ≡ j
one_place seen [] i j n h e f = cc
one_place seen (m ∷ ns) zero zero n h e f = refl
one_place seen (m ∷ ns) zero (suc j) n h e f = let same : m ≡ n = cc in absurd (first_once seen ns m n j h.1 same f)
one_place seen (m ∷ ns) (suc i) zero n h e f = let same : m ≡ n = cc in absurd (first_once seen ns m n i h.1 same e)
one_place seen (m ∷ ns) (suc i) (suc j) n h e f = ap suc (one_place (seen ++ m ∷ []) ns i j n h.1 e f)

judged_apart : (env : Environment) (seen : List ℕ) (ps : List SortedSymbol) (vs : List (ℕ × Sort)) (before after : List ℕ) → judge_variables env seen ps before (well_sorted vs after) → Apart seen (map (λ v. v.0) vs)
judged_apart env seen [] vs before after (e, f) = subst (λ (xs : List (ℕ × Sort)). Apart seen (map (λ v. v.0) xs)) (sym e) tt
judged_apart env seen (p ∷ ps) vs before after (v, between, (w, start, fresh, (s, middle, j, (e, f))), (rest, later, k, (g, i))) =
    subst (λ (xs : List (ℕ × Sort)). Apart seen (map (λ v. v.0) xs)) (sym g)
    (ap (λ (x : ℕ × Sort). is_seen x.0 seen) e ∙ fresh.0, judged_apart env (seen ++ v.0 ∷ []) ps rest between later k)

pub variables_apart : (env : Environment) (ps : List SortedSymbol) (vs : List (ℕ × Sort)) (before after : List ℕ) → judge_variables env [] ps before (well_sorted vs after) → AreDistinct (map (λ v. v.0) vs)
variables_apart env ps vs before after h = record { distinct = λ i j n e f. one_place [] (map (λ v. v.0) vs) i j n (judged_apart env [] ps vs before after h) e f }
