-- Whether an array sort that a logic does not have stands in a sort, a term or a command.
use Rattle.std.specs.Prelude.{Bool, true, false, ◌||◌, ◌&&◌, not, Option, Some, None}
use Rattle.std.specs.List.{list_any}
use Rattle.sort_store.specs.declared.head.Head.{Head}
use Rattle.sort_store.specs.declared.head.Head.TheVariants as head
use Rattle.sort_store.specs.Tree.{Sort, sort, SortList, no_sorts, more_sorts, NumberedSort, tree}
use Rattle.term_store.specs.Command.{PlainCommand}
use Rattle.term_store.specs.Term.{PlainTerm, plain_sort}
use Rattle.logic_frag.specs.declared.logic.ArrayPart.{ArrayPart}
use Rattle.logic_frag.specs.declared.logic.ArrayPart.TheVariants as arrays
use Rattle.logic_frag.specs.ArraySorts.{declared_sorts, quantified_sorts}
use Rattle.logic_frag.specs.Occurrences.{Occurrence, occurrences_in}

-- the sort or a sort in it is of the kind
abbrev mutual
  pub has_sort : (Sort → Bool) → Sort → Bool
  has_sort kind (sort h ts) = kind (sort h ts) || any_has_sort kind ts

  pub any_has_sort : (Sort → Bool) → SortList → Bool
  any_has_sort kind no_sorts = false
  any_has_sort kind (more_sorts t ts) = has_sort kind t || any_has_sort kind ts

-- a sort symbol that stands alone as the index and the element of an array
abbrev pub is_element_head : ArrayPart → Head → Bool
is_element_head arrays.Ints head.Int = true
is_element_head arrays.Bits (head.BitVec m) = true
is_element_head part h = false

abbrev pub is_element : ArrayPart → Sort → Bool
is_element part (sort h no_sorts) = is_element_head part h
is_element part (sort h (more_sorts t ts)) = false

abbrev pub are_elements : ArrayPart → SortList → Bool
are_elements part no_sorts = false
are_elements part (more_sorts s no_sorts) = false
are_elements part (more_sorts s (more_sorts t no_sorts)) = is_element part s && is_element part t
are_elements part (more_sorts s (more_sorts t (more_sorts u us))) = false

-- whether not all array sorts are allowed
abbrev pub is_partial : ArrayPart → Bool
is_partial arrays.Ints = true
is_partial arrays.Bits = true
is_partial part = false

abbrev pub is_array_head : Head → Bool
is_array_head head.Array = true
is_array_head h = false

abbrev pub is_other_array : ArrayPart → Sort → Bool
is_other_array part (sort h ts) = (is_partial part && is_array_head h) && not (are_elements part ts)

-- the argument, if there is one, can be an element
abbrev pub is_element_tree : ArrayPart → Option NumberedSort → Bool
is_element_tree part None = false
is_element_tree part (Some r) = is_element part (tree r)

abbrev pub has_other_array : ArrayPart → Sort → Bool
has_other_array part s = has_sort (is_other_array part) s

-- in the argument, if there is one
abbrev pub has_array_tree : ArrayPart → Option NumberedSort → Bool
has_array_tree part None = false
has_array_tree part (Some r) = has_other_array part (tree r)

-- in the sort of the term, or in those of the variables that it quantifies
abbrev pub has_array_at : ArrayPart → PlainTerm → Bool
has_array_at part t = has_other_array part (plain_sort t) || list_any (has_other_array part) (quantified_sorts t)

abbrev pub command_has_array : ArrayPart → PlainCommand → Bool
command_has_array part c = list_any (has_other_array part) (declared_sorts c) || list_any (λ (o : Occurrence). has_array_at part o.its) (occurrences_in c)
