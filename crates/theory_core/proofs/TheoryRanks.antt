-- The ranks that the theories of a logic give a name are those of one of them.
use Rattle.std.proofs.Common.{◌≡◌, ℕ, Bool, true, false, ◌⊎◌, ◌↔◌, if◌then◌else◌, List, [], ◌∷◌, ◌++◌, refl, ap, sym, subst, ◌∙◌, inl, inr, bytes_eq}
use Rattle.std.proofs.lemmas.Bool.{cases_Bool}
use Rattle.sig_table.specs.declared.theories.Theories.{Theories}
use Rattle.sort_store.specs.Tree.{Sort}
use Rattle.sort_store.specs.Ranks.{Rank, RankedSymbol, is_symbol, ranks_of, HasRank}
use Rattle.sort_store.specs.CoreRanks.{core_symbols}
use Rattle.theory_core.specs.IntsRanks.{ints_symbols}
use Rattle.theory_core.specs.ArraysRanks.{arrays_symbols}
use Rattle.theory_core.specs.TheorySymbols.{theory_symbols}
use Rattle.theory_core.specs.Laws.{AreApart, HaveOneResult}
use Rattle.theory_core.proofs.SymbolNames.{no_ranks}

pub ranks_of-append : (name : List ℕ) (symbols others : List RankedSymbol) → ranks_of name (symbols ++ others) ≡ ranks_of name symbols ++ ranks_of name others
ranks_of-append name [] others = refl
ranks_of-append name (s ∷ symbols) others = elim (cases_Bool (bytes_eq s.name name)) [
  | inl same ↦ rw same (ap (λ rs. s.rank ∷ rs) (ranks_of-append name symbols others))
  | inr other ↦ rw other (ranks_of-append name symbols others)
]

has_rank_parts : (ranks others : List Rank) (ts : List Sort) (t : Sort) → HasRank (ranks ++ others) ts t → HasRank ranks ts t ⊎ HasRank others ts t
has_rank_parts [] others ts t h = inr h
has_rank_parts (r ∷ ranks) others ts t (inl i) = inl (inl i)
has_rank_parts (r ∷ ranks) others ts t (inr h) = elim (has_rank_parts ranks others ts t h) [ inl p ↦ inl (inr p) | inr p ↦ inr p ]

has_rank_joined : (ranks others : List Rank) (ts : List Sort) (t : Sort) → HasRank ranks ts t ⊎ HasRank others ts t → HasRank (ranks ++ others) ts t
has_rank_joined [] others ts t (inl h) = absurd h
has_rank_joined [] others ts t (inr h) = h
has_rank_joined (r ∷ ranks) others ts t (inl (inl i)) = inl i
has_rank_joined (r ∷ ranks) others ts t (inl (inr h)) = inr (has_rank_joined ranks others ts t (inl h))
has_rank_joined (r ∷ ranks) others ts t (inr h) = inr (has_rank_joined ranks others ts t (inr h))

-- the name has such a rank among the symbols, which the logic has
abbrev pub HasRankIf : Bool → List RankedSymbol → List ℕ → List Sort → Sort → Type 0
HasRankIf b symbols name ts t = (b ≡ true) × HasRank (ranks_of name symbols) ts t

rank_if : (b : Bool) (symbols : List RankedSymbol) (name : List ℕ) (ts : List Sort) (t : Sort) → HasRank (ranks_of name (if b then symbols else [])) ts t ↔ HasRankIf b symbols name ts t
rank_if true symbols name ts t = (λ h. (refl, h), λ p. p.1)
rank_if false symbols name ts t = (λ h. absurd h, λ p. (let e = p.0 in cc))

-- by Core, by Ints or by ArraysEx
abbrev pub HasTheoryRank : Theories → List ℕ → List Sort → Sort → Type 0
HasTheoryRank theories name ts t = (HasRank (ranks_of name core_symbols) ts t ⊎ HasRankIf theories.ints ints_symbols name ts t) ⊎ HasRankIf theories.arrays arrays_symbols name ts t

pub theory_rank : (theories : Theories) (name : List ℕ) (ts : List Sort) (t : Sort) → HasRank (ranks_of name (theory_symbols theories)) ts t ↔ HasTheoryRank theories name ts t
theory_rank theories name ts t =
    let ints = if theories.ints then ints_symbols else [] in
    let arrays = if theories.arrays then arrays_symbols else [] in
    let whole : ranks_of name (theory_symbols theories) ≡ (ranks_of name core_symbols ++ ranks_of name ints) ++ ranks_of name arrays =
    ranks_of-append name (core_symbols ++ ints) arrays ∙ ap (λ rs. rs ++ ranks_of name arrays) (ranks_of-append name core_symbols ints) in (
      λ h.
          elim (has_rank_parts (ranks_of name core_symbols ++ ranks_of name ints) (ranks_of name arrays) ts t (subst (λ rs. HasRank rs ts t) whole h)) [
            | inl p ↦ elim (has_rank_parts (ranks_of name core_symbols) (ranks_of name ints) ts t p) [
              | inl q ↦ inl (inl q)
              | inr q ↦ inl (inr ((rank_if theories.ints ints_symbols name ts t).0 q))
            ]
            | inr p ↦ inr ((rank_if theories.arrays arrays_symbols name ts t).0 p)
          ],
      λ h.
          subst (λ rs. HasRank rs ts t) (sym whole) (has_rank_joined (ranks_of name core_symbols ++ ranks_of name ints) (ranks_of name arrays) ts t (elim h [
            | inl p ↦ inl (has_rank_joined (ranks_of name core_symbols) (ranks_of name ints) ts t (elim p [
              | inl q ↦ inl q
              | inr q ↦ inr ((rank_if theories.ints ints_symbols name ts t).1 q)
            ]))
            | inr p ↦ inr ((rank_if theories.arrays arrays_symbols name ts t).1 p)
          ])),
    )

-- a name with a rank is a symbol
pub ranked_symbol : (name : List ℕ) (symbols : List RankedSymbol) (ts : List Sort) (t : Sort) → HasRank (ranks_of name symbols) ts t → is_symbol name symbols ≡ true
ranked_symbol name symbols ts t h = elim (cases_Bool (is_symbol name symbols)) [
  | inl is ↦ is
  | inr other ↦ absurd (subst (λ rs. HasRank rs ts t) (no_ranks name symbols other) h)
]

apart_ranks : (symbols others : List RankedSymbol) → AreApart symbols others → (name : List ℕ) (ts : List Sort) (t u : Sort) → HasRank (ranks_of name symbols) ts t → HasRank (ranks_of name others) ts u → ⊥
apart_ranks symbols others apart name ts t u p q = apart name (ranked_symbol name symbols ts t p) (ranked_symbol name others ts u q)

-- where no name is a symbol of two theories the theories together give one result sort
pub theories_result : AreApart core_symbols ints_symbols → AreApart core_symbols arrays_symbols → AreApart ints_symbols arrays_symbols
    → HaveOneResult core_symbols → HaveOneResult ints_symbols → HaveOneResult arrays_symbols → (theories : Theories) → HaveOneResult (theory_symbols theories)
theories_result core_ints core_arrays ints_arrays core ints arrays theories name ts t u p q = by ((theory_rank theories name ts t).0 p) ((theory_rank theories name ts u).0 q)
  where
    by : HasTheoryRank theories name ts t → HasTheoryRank theories name ts u → t ≡ u
    by (inl (inl p)) (inl (inl q)) = core name ts t u p q
    by (inl (inl p)) (inl (inr q)) = absurd (apart_ranks core_symbols ints_symbols core_ints name ts t u p q.1)
    by (inl (inl p)) (inr q) = absurd (apart_ranks core_symbols arrays_symbols core_arrays name ts t u p q.1)
    by (inl (inr p)) (inl (inl q)) = absurd (apart_ranks core_symbols ints_symbols core_ints name ts u t q p.1)
    by (inl (inr p)) (inl (inr q)) = ints name ts t u p.1 q.1
    by (inl (inr p)) (inr q) = absurd (apart_ranks ints_symbols arrays_symbols ints_arrays name ts t u p.1 q.1)
    by (inr p) (inl (inl q)) = absurd (apart_ranks core_symbols arrays_symbols core_arrays name ts u t q p.1)
    by (inr p) (inl (inr q)) = absurd (apart_ranks ints_symbols arrays_symbols ints_arrays name ts u t q.1 p.1)
    by (inr p) (inr q) = arrays name ts t u p.1 q.1
