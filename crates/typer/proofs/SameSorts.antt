-- Two lists of sorts of one store, compared by their numbers.
use Rattle.std.proofs.Common.{ℕ, zero, suc, ◌<◌, List, [], ◌∷◌, length, get_or, arith}
use Rattle.sort_store.specs.Tree.{Sort, NumberedSort}
use Rattle.sort_store.specs.Interned.{IsInterned, AllInterned, InternedTogether}
use Rattle.sort_store.proofs.ArgumentLists.{same_words}
use Rattle.typer.specs.LiveRanks.{AllInternedTogether}

interned_at : (store : List Sort) (rs : List NumberedSort) (k : ℕ) (d : NumberedSort) → AllInterned store rs → k < length rs → IsInterned store (get_or rs k d)
interned_at store [] k d h l = absurd (omega (arith, l))
interned_at store (r ∷ rs) zero d h l = h.0
interned_at store (r ∷ rs) (suc k) d h l = interned_at store rs k d h.1 (omega (arith, l))

pub together_at : (a b : List NumberedSort) (k : ℕ) (d e : NumberedSort) → AllInternedTogether a b → k < length a → k < length b → InternedTogether (get_or a k d) (get_or b k e)
together_at a b k d e h l m = record { store = h.store; distinct = h.distinct; first = interned_at h.store a k d h.first l; second = interned_at h.store b k e h.second m }

pub ruleset together_words = (together_at, same_words)
