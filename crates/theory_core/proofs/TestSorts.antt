-- Sorts that are copied into one store.
use Rattle.std.proofs.Common.{◌≡◌, List, [], ◌∷◌}
use Rattle.sort_store.specs.Tree.{Sort, NumberedSort}
use Rattle.sort_store.specs.Interned.{AllInterned, HasNoRepeats}
use Rattle.sort_store.proofs.GrownStores.{grown_words}
use Rattle.theory_core.specs.Interned.{AreInternedTogether}

pub no_repeats : (store : List Sort) → store ≡ [] → HasNoRepeats store
no_repeats [] e = record { distinct = λ i j t p q. cc }
no_repeats (t ∷ store) e = cc

pub all_together : (store : List Sort) (rs : List NumberedSort) → HasNoRepeats store → AllInterned store rs → AreInternedTogether rs
all_together store rs d h = record { store = store; distinct = d; interned = h }

pub ruleset copied_words = (grown_words, all_together)
