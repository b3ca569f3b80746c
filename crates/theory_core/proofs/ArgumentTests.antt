-- What the tests of argument sorts say of their trees.
use Rattle.std.proofs.Common.{◌≡◌, ℕ, zero, suc, ◌<◌, ◌≤◌, length, List, [], ◌∷◌, map, get_or, sym, ◌∙◌, arith}
use Rattle.sort_store.specs.Tree.{Sort, NumberedSort, tree}
use Rattle.sort_store.specs.Interned.{InternedTogether}
use Rattle.sort_store.specs.CoreRanks.{bool}
use Rattle.sort_store.proofs.InstanceLaws.{all_interned_at}
use Rattle.theory_core.specs.Arguments.{AllAre, AllSame}
use Rattle.theory_core.specs.Interned.{AreInternedTogether}
use Rattle.theory_core.specs.Kinds.{Fits}
use Rattle.theory_core.specs.declared.kind.SymbolKind.TheVariants.{Conditional}

-- each argument sort is the one
pub all_from : (rs : List NumberedSort) (s : Sort) → ((k : ℕ) (d : NumberedSort) → k < length rs → tree (get_or rs k d) ≡ s) → AllAre s (map tree rs)
all_from [] s f k d l = absurd (omega (arith, l))
all_from (r ∷ rs) s f zero d l = f zero r (omega arith)
all_from (r ∷ rs) s f (suc k) d l = all_from rs s (λ j e m. f (suc j) e (omega (arith, m))) k d (omega (arith, l))

pub all_at : (rs : List NumberedSort) (s : Sort) (k : ℕ) (d : NumberedSort) → AllAre s (map tree rs) → k < length rs → tree (get_or rs k d) ≡ s
all_at [] s k d h l = absurd (omega (arith, l))
all_at (r ∷ rs) s zero d h l = h zero s (omega arith)
all_at (r ∷ rs) s (suc k) d h l = all_at rs s k d (λ j e m. h (suc j) e (omega (arith, m))) (omega (arith, l))

pub ruleset all_words = (all_from, all_at)

-- any two of the argument sorts
pub together_at : (rs : List NumberedSort) (i j : ℕ) (d e : NumberedSort) → AreInternedTogether rs → i < length rs → j < length rs → InternedTogether (get_or rs i d) (get_or rs j e)
together_at rs i j d e h l m = record { store = h.store; distinct = h.distinct; first = all_interned_at h.store rs i d l h.interned; second = all_interned_at h.store rs j e m h.interned }

pub same_from : (rs : List NumberedSort) → ((k : ℕ) (d e : NumberedSort) → k < length rs → tree (get_or rs k d) ≡ tree (get_or rs 0 e)) → AllSame (map tree rs)
same_from [] f = (bool, λ k d l. absurd (omega (arith, l)))
same_from (r ∷ rs) f = (tree r, all_from (r ∷ rs) (tree r) (λ k d l. f k d r l))

pub same_at : (rs : List NumberedSort) (k : ℕ) (d e : NumberedSort) → AllSame (map tree rs) → k < length rs → tree (get_or rs k d) ≡ tree (get_or rs 0 e)
same_at rs k d e h l = all_at rs h.0 k d h.1 l ∙ sym (all_at rs h.0 0 e h.1 (omega arith))

pub ruleset same_words = (together_at, same_from, same_at)

-- a condition and two terms of one sort
pub conditional_from : (rs : List NumberedSort) (x y z : NumberedSort) → 3 ≤ length rs → length rs < 4 → x ≡ get_or rs 0 x → y ≡ get_or rs 1 y → z ≡ get_or rs 2 z → tree x ≡ bool → tree y ≡ tree z → Fits Conditional (map tree rs)
conditional_from [] x y z l m p q r e f = absurd (omega arith)
conditional_from (a ∷ []) x y z l m p q r e f = absurd (omega arith)
conditional_from (a ∷ b ∷ []) x y z l m p q r e f = absurd (omega arith)
conditional_from (a ∷ b ∷ c ∷ []) x y z l m p q r e f = (tree y, cc)
conditional_from (a ∷ b ∷ c ∷ d ∷ rs) x y z l m p q r e f = absurd (omega arith)

pub conditional_same : (rs : List NumberedSort) (y z : NumberedSort) → y ≡ get_or rs 1 y → z ≡ get_or rs 2 z → Fits Conditional (map tree rs) → tree y ≡ tree z
conditional_same [] y z q r h = let e = h.1 in cc
conditional_same (a ∷ []) y z q r h = let e = h.1 in cc
conditional_same (a ∷ b ∷ []) y z q r h = let e = h.1 in cc
conditional_same (a ∷ b ∷ c ∷ rs) y z q r h = let e = h.1 in cc

pub ruleset conditional_words = (together_at, conditional_from, conditional_same)
