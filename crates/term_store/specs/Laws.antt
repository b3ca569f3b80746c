-- What the definitions of canonical text and of depth owe each other.
use Rattle.std.specs.Prelude.{◌≡◌, ℕ, List}
use Rattle.sort_store.specs.Tree.{Sort}
use Rattle.sort_store.specs.Depth.{depth}
use Rattle.term_store.specs.CanonicalText.{sort_text}
use Rattle.term_store.specs.Depth.{nesting}

abbrev pub SortDepthIsNesting : Type 0
SortDepthIsNesting = (params : List ℕ) (t : Sort) → nesting (sort_text params t) ≡ depth t
