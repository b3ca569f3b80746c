-- How a value of the recursive tree types is stored: as the list of its sort symbols in order, with a
-- mark at the end of each list of arguments.
use Rattle.std.specs.Prelude.{◌≡◌, ℕ, List, [], ◌∷◌, Option, Some, None, refl}
use Rattle.std.specs.Coded.{Coded, code_by, coded×, coded_ℕ, coded_list, coded_option}
use Rattle.std.proofs.Common.{ap, ◌∙◌}
use Rattle.sort_store.specs.declared.head.Head.{Head}
use Rattle.sort_store.specs.Tree.{Sort, sort, SortList, no_sorts, more_sorts, NumberedSort, node, NumberedSorts, no_nodes, more_nodes, tree, trees}
use Rattle.sort_store.specs.contracts.head.Head as contracts

-- a numbered sort symbol, or the end of a list of arguments
abbrev pub Entry : Type 0
Entry = Option (ℕ × Head)

abbrev mutual
  entries : NumberedSort → List Entry → List Entry
  entries (node n h rs) ts = Some (n, h) ∷ entries_each rs ts

  entries_each : NumberedSorts → List Entry → List Entry
  entries_each no_nodes ts = None ∷ ts
  entries_each (more_nodes r rs) ts = entries r (entries_each rs ts)

-- reading back from the last entry, with a stack of the lists that are open
abbrev pub opened : ℕ × Head → List NumberedSorts → List NumberedSorts
opened l [] = []
opened l (args ∷ []) = []
opened l (args ∷ (rs ∷ st)) = more_nodes (node l.0 l.1 args) rs ∷ st

abbrev pub step : Entry → List NumberedSorts → List NumberedSorts
step None st = no_nodes ∷ st
step (Some l) st = opened l st

abbrev pub read : List Entry → List NumberedSorts
read [] = []
read (t ∷ ts) = step t (read ts)

abbrev pub first : ℕ → Head → List NumberedSorts → NumberedSort
first n h [] = node n h no_nodes
first n h (args ∷ st) = node n h args

abbrev pub decoded : ℕ × (Head × List Entry) → NumberedSort
decoded p = first p.0 p.1.0 (read p.1.1)

mutual
  read-entries : (r : NumberedSort) (ts : List Entry) (rs : NumberedSorts) (st : List NumberedSorts) → read ts ≡ rs ∷ st → read (entries r ts) ≡ more_nodes r rs ∷ st
  read-entries (node n h args) ts rs st e = ap (opened (n, h)) (read-entries_each args ts ∙ ap (λ z. args ∷ z) e)

  read-entries_each : (rs : NumberedSorts) (ts : List Entry) → read (entries_each rs ts) ≡ rs ∷ read ts
  read-entries_each no_nodes ts = refl
  read-entries_each (more_nodes r rs) ts = read-entries r (entries_each rs ts) rs (read ts) (read-entries_each rs ts)

abbrev pub encoded : NumberedSort → ℕ × (Head × List Entry)
encoded (node n h rs) = (n, (h, entries_each rs []))

pub decoded-encoded : (r : NumberedSort) → decoded (encoded r) ≡ r
decoded-encoded (node n h rs) = ap (first n h) (read-entries_each rs [])

abbrev pub numbered_code : Coded NumberedSort
numbered_code =
    let h = contracts.the_row.coded in
    code_by (ℕ × (Head × List Entry)) (coded× coded_ℕ (coded× h (coded_list (coded_option (coded× coded_ℕ h))))) encoded decoded decoded-encoded

-- a tree without numbers is stored as the one with 0 for each number
abbrev mutual
  pub unnumbered : Sort → NumberedSort
  unnumbered (sort h ts) = node 0 h (unnumbered_each ts)

  pub unnumbered_each : SortList → NumberedSorts
  unnumbered_each no_sorts = no_nodes
  unnumbered_each (more_sorts t ts) = more_nodes (unnumbered t) (unnumbered_each ts)

mutual
  pub tree-unnumbered : (t : Sort) → tree (unnumbered t) ≡ t
  tree-unnumbered (sort h ts) = ap (sort h) (trees-unnumbered_each ts)

  pub trees-unnumbered_each : (ts : SortList) → trees (unnumbered_each ts) ≡ ts
  trees-unnumbered_each no_sorts = refl
  trees-unnumbered_each (more_sorts t ts) = ap (λ z. more_sorts z (trees (unnumbered_each ts))) (tree-unnumbered t) ∙ ap (more_sorts t) (trees-unnumbered_each ts)

abbrev pub sort_code : Coded Sort
sort_code = code_by NumberedSort numbered_code unnumbered tree tree-unnumbered
