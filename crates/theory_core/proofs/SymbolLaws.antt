-- No name is a symbol of two theories, and a name with argument sorts has one result sort.
use Rattle.std.proofs.Common.{◌≡◌, ℕ, true, false, not, List, Option, Some, None, ap, sym, subst, ◌∙◌}
use Rattle.std.specs.List.{list_all}
use Rattle.sort_store.specs.Tree.{Sort}
use Rattle.sort_store.specs.Ranks.{RankedSymbol, is_symbol, ranks_of, HasRank}
use Rattle.theory_core.specs.declared.kind.SymbolKind.{SymbolKind}
use Rattle.theory_core.specs.declared.rank_found.RankFound.{RankFound}
use Rattle.theory_core.specs.declared.rank_found.RankFound.TheVariants as found
use Rattle.theory_core.specs.ArraysRanks.{array}
use Rattle.theory_core.specs.Answers.{IsFoundSort}
use Rattle.theory_core.specs.Kinds.{ranks_of_kind, found_at}
use Rattle.theory_core.specs.Laws.{AreApart, HaveOneResult}
use Rattle.theory_core.proofs.KindRanks.{kind_rank}
use Rattle.theory_core.proofs.SymbolNames.{at_symbol}

pub apart_by_test : (symbols others : List RankedSymbol) → list_all (λ s. not (is_symbol s.name others)) symbols ≡ true → AreApart symbols others
apart_by_test symbols others all name p q =
    let out : not (is_symbol name others) ≡ true = at_symbol (λ n. not (is_symbol n others)) symbols name all p in
    let is : not (is_symbol name others) ≡ false = ap not q in
    cc

found_once : (f : RankFound) (ts : List Sort) (t u : Sort) → IsFoundSort f ts t → IsFoundSort f ts u → t ≡ u
found_once found.Bool ts t u p q = p ∙ sym q
found_once found.Int ts t u p q = p ∙ sym q
found_once (found.Arg i) ts t u p q = let e : Some t ≡ Some u = sym p ∙ q in cc
found_once (found.Element i) ts t u p q =
    let e : Some (array p.0 t) ≡ Some (array q.0 u) = sym p.1 ∙ q.1 in
    let arrays : array p.0 t ≡ array q.0 u = cc in
    cc

kind_once : (k : Option SymbolKind) (ts : List Sort) (t u : Sort) → HasRank (ranks_of_kind k) ts t → HasRank (ranks_of_kind k) ts u → t ≡ u
kind_once None ts t u p q = absurd p
kind_once (Some k) ts t u p q = found_once (found_at k) ts t u ((kind_rank k ts t).0 p).1 ((kind_rank k ts u).0 q).1

pub one_result : (symbols : List RankedSymbol) (kind : List ℕ → Option SymbolKind) → ((name : List ℕ) → ranks_of name symbols ≡ ranks_of_kind (kind name)) → HaveOneResult symbols
one_result symbols kind ranks name ts t u p q = kind_once (kind name) ts t u (subst (λ rs. HasRank rs ts t) (ranks name) p) (subst (λ rs. HasRank rs ts u) (ranks name) q)
