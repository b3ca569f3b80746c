-- The answer of a function symbol on bit vectors with indices and arguments: the rules in their order, and what the first
-- that is not met answers.
use Rattle.std.specs.Prelude.{ℕ, Bool, false, ◌==◌, ◌&&◌, not, nat_le, if◌then◌else◌, List, length, Option, Some, None, Result, Ok, Err, slice_get}
use Rattle.std.specs.List.{list_all}
use Rattle.std.specs.Option.{is_some, option_map_or}
use Rattle.theory_bv.specs.declared.index.Index.{Index}
use Rattle.theory_bv.specs.declared.rank.BvResult.{BvResult}
use Rattle.theory_bv.specs.declared.rank.BvResult.TheVariants.{Bool as BoolSort, Width}
use Rattle.theory_bv.specs.declared.rank.BvFault.{BvFault}
use Rattle.theory_bv.specs.declared.rank.BvFault.TheVariants.{BadIndex, TooWide}
use Rattle.theory_bv.specs.Declarations.{Declaration, Arguments, no_argument, one, two, two_alike, left_assoc, ResultSort, boolean, bit_vec}
use Rattle.theory_bv.specs.Indices.{greatest, no_symbol, no_large, index_at}
use Rattle.theory_bv.specs.Symbols.{declaration_of}

-- the width of an argument, or 0
abbrev pub width_or_0 : Option (Option ℕ) → ℕ
width_or_0 None = 0
width_or_0 (Some None) = 0
width_or_0 (Some (Some width)) = width

-- the width of the argument at a place, or 0
abbrev pub width_at : List (Option ℕ) → ℕ → ℕ
width_at ws place = width_or_0 (slice_get ws place)

abbrev pub has_width : ℕ → Option ℕ → Bool
has_width m None = false
has_width m (Some width) = width == m

abbrev pub are_bit_vectors : List (Option ℕ) → Bool
are_bit_vectors ws = list_all is_some ws

-- all are bit vectors of the first one's width
abbrev pub are_alike : List (Option ℕ) → Bool
are_alike ws = list_all (has_width (width_at ws 0)) ws

abbrev pub fits : Arguments → List (Option ℕ) → Bool
fits no_argument ws = length ws == 0
fits one ws = (length ws == 1) && are_bit_vectors ws
fits two ws = (length ws == 2) && are_bit_vectors ws
fits two_alike ws = (length ws == 2) && are_alike ws
fits left_assoc ws = nat_le 2 (length ws) && are_alike ws

abbrev pub has_count : Declaration → List Index → Bool
has_count d is = length is == d.indices

abbrev pub meets_condition : Declaration → List Index → Bool
meets_condition d is = d.condition (index_at is 0) (index_at is 1)

abbrev pub lies_within : Declaration → List Index → List (Option ℕ) → Bool
lies_within d is ws = d.within (index_at is 0) (index_at is 1) (width_at ws 0)

abbrev pub result_of : Declaration → List Index → List (Option ℕ) → ResultSort
result_of d is ws = d.result (index_at is 0) (index_at is 1) (width_at ws 0) (width_at ws 1)

-- a result, none where no rank has the arguments, or a fault
abbrev pub Answer : Type 0
Answer = Result (Option BvResult) BvFault

abbrev pub sized : ResultSort → Answer
sized boolean = Ok (Some BoolSort)
sized (bit_vec width) = if nat_le width greatest then Ok (Some (Width width)) else Err TooWide

abbrev pub answer : Declaration → List Index → List (Option ℕ) → Answer
answer d is ws =
    if not (has_count d is && no_symbol is) then Err BadIndex
    else if not (no_large is) then Err TooWide
    else if not (meets_condition d is) then Err BadIndex
    else if not (fits d.arguments ws) then Ok None
    else if not (lies_within d is ws) then Err BadIndex
    else sized (result_of d is ws)

-- none of a name that is no symbol
abbrev pub bv_answer : List ℕ → List Index → List (Option ℕ) → Answer
bv_answer name is ws = option_map_or (λ d. answer d is ws) (declaration_of name) (Ok None)
