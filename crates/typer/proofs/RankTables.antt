-- What holds of each rank of a table of symbols holds of one that has an instance.
use Rattle.std.proofs.Common.{ℕ, List, [], ◌∷◌, inl, inr, bytes_eq}
use Rattle.std.proofs.lemmas.Bool.{cases_Bool}
use Rattle.sort_store.specs.Tree.{Sort}
use Rattle.sort_store.specs.Ranks.{Rank, RankedSymbol, IsInstance, ranks_of, HasRank}

-- it holds of the rank of each symbol
abbrev pub EachRank : (Rank → Type 0) → List RankedSymbol → Type 0
EachRank P [] = Unit {0}
EachRank P (s ∷ symbols) = P s.rank × EachRank P symbols

pub rank_with : (P : Rank → Type 0) (name : List ℕ) (symbols : List RankedSymbol) (args : List Sort) (t : Sort) → EachRank P symbols → HasRank (ranks_of name symbols) args t
    → (rank : Rank) × P rank × IsInstance rank args t
rank_with P name [] args t h k = absurd k
rank_with P name (s ∷ symbols) args t h k = elim (cases_Bool (bytes_eq s.name name)) [
  | inl same ↦ (let ranked : HasRank (s.rank ∷ ranks_of name symbols) args t = rw same at k in elim ranked [ inl i ↦ (s.rank, h.0, i) | inr r ↦ rank_with P name symbols args t h.1 r ])
  | inr other ↦ rank_with P name symbols args t h.1 (rw other at k)
]
