-- What the views of sorts show.
use Rattle.std.specs.Prelude.{◌≡◌, Option, Some, None}
use Rattle.term_grammar.specs.declared.sort.RawSortKind.{RawSortKind}
use Rattle.term_grammar.specs.declared.sort.RawSortKind.TheVariants as kind
use Rattle.term_grammar.specs.Syntax.{Sort, named_sort, applied_sort, Sorts, no_sorts, with_sort}

abbrev pub sort_kind : Sort → RawSortKind
sort_kind (named_sort i) = kind.Identifier i
sort_kind (applied_sort at i ss) = kind.Applied i ss

-- the first sort and the others
abbrev pub SplitsSorts : Sorts → Option (Sort × Sorts) → Type 0
SplitsSorts ss None = ss ≡ no_sorts
SplitsSorts ss (Some p) = ss ≡ with_sort p.0 p.1
