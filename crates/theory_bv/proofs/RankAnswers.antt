-- Each answer comes exactly where its rule says.
use Rattle.std.proofs.Common.{◌≡◌, ℕ, ◌↔◌, ◌⊎◌, Bool, true, false, not, ◌&&◌, nat_le, if◌then◌else◌, List, length, Option, Some, None, Ok, Err, refl, ap, sym, ◌∙◌, inl, inr}
use Rattle.std.proofs.lemmas.Bool.{and_parts, and_from, and_cases, and_left, and_right, cases_Bool, eqb-true, eqb-false}
use Rattle.std.proofs.lemmas.List.{length-map}
use Rattle.theory_bv.specs.declared.index.Index.{Index}
use Rattle.theory_bv.specs.declared.index.Index.TheVariants.{Numeral}
use Rattle.theory_bv.specs.declared.rank.BvResult.{BvResult}
use Rattle.theory_bv.specs.declared.rank.BvResult.TheVariants.{Width}
use Rattle.theory_bv.specs.declared.rank.BvFault.TheVariants.{BadIndex, TooWide}
use Rattle.theory_bv.specs.Declarations.{Declaration, ResultSort, boolean, bit_vec}
use Rattle.theory_bv.specs.Indices.{greatest, index_at, no_symbol, no_large, value_or_0}
use Rattle.theory_bv.specs.Symbols.{declaration_of}
use Rattle.theory_bv.specs.Answers.{Answer, answer, fits, has_count, lies_within, meets_condition, result_of, sized, width_at}
use Rattle.theory_bv.specs.Ranks.{letter, condition, within, result_sort, HasIndices, HasGoodIndices, HasArguments, HasInstance, IsResult, IsTooLarge, HasRank, HasNoRank, HasBadIndex, wrong_count, symbol_index, wrong_value, past_width, IsTooWide, large_index, large_result, HasBvRank, HasNoBvRank, HasBvBadIndex, IsBvTooWide}
use Rattle.theory_bv.proofs.ArgumentWidths.{arguments_fit, arguments_found, letter-widths_of, width_at-bit_vectors, widths_of}
use Rattle.theory_bv.proofs.IndexValues.{index_at-numerals, large_found, large_refuted, letter-values_of, no_large-numerals, no_symbol-numerals, no_symbol_from, numerals_found, symbol_found, symbol_refuted, values_of}
use Rattle.theory_bv.proofs.NumberTests.{le_from_test, lt_from_test, test_from_eq, test_from_le, test_from_lt, test_from_ne}

-- the rules as tests, and the result where all are met
abbrev steps : Bool → Bool → Bool → Bool → Bool → Answer → Answer
steps kind small condition arguments within last =
    if not kind then Err BadIndex
    else if not small then Err TooWide
    else if not condition then Err BadIndex
    else if not arguments then Ok None
    else if not within then Err BadIndex
    else last

steps_result : (k s c a w : Bool) (last : Answer) (r : BvResult) → steps k s c a w last ≡ Ok (Some r) → (k ≡ true) × (s ≡ true) × (c ≡ true) × (a ≡ true) × (w ≡ true) × (last ≡ Ok (Some r))
steps_result false s c a w last r h = cc
steps_result true false c a w last r h = cc
steps_result true true false a w last r h = cc
steps_result true true true false w last r h = cc
steps_result true true true true false last r h = cc
steps_result true true true true true last r h = (refl, refl, refl, refl, refl, h)

steps_none : (k s c a w : Bool) (last : Answer) → (last ≡ Ok None → ⊥) → steps k s c a w last ≡ Ok None → (k ≡ true) × (s ≡ true) × (c ≡ true) × (a ≡ false)
steps_none false s c a w last other h = cc
steps_none true false c a w last other h = cc
steps_none true true false a w last other h = cc
steps_none true true true false w last other h = (refl, refl, refl, refl)
steps_none true true true true false last other h = cc
steps_none true true true true true last other h = absurd (other h)

abbrev BadSteps : Bool → Bool → Bool → Bool → Bool → Type 0
BadSteps k s c a w = (k ≡ false) ⊎ (((k ≡ true) × (s ≡ true) × (c ≡ false)) ⊎ ((k ≡ true) × (s ≡ true) × (c ≡ true) × (a ≡ true) × (w ≡ false)))

steps_bad : (k s c a w : Bool) (last : Answer) → (last ≡ Err BadIndex → ⊥) → steps k s c a w last ≡ Err BadIndex → BadSteps k s c a w
steps_bad false s c a w last other h = inl refl
steps_bad true false c a w last other h = cc
steps_bad true true false a w last other h = inr (inl (refl, refl, refl))
steps_bad true true true false w last other h = cc
steps_bad true true true true false last other h = inr (inr (refl, refl, refl, refl, refl))
steps_bad true true true true true last other h = absurd (other h)

abbrev WideSteps : Bool → Bool → Bool → Bool → Bool → Answer → Type 0
WideSteps k s c a w last = ((k ≡ true) × (s ≡ false)) ⊎ ((k ≡ true) × (s ≡ true) × (c ≡ true) × (a ≡ true) × (w ≡ true) × (last ≡ Err TooWide))

steps_wide : (k s c a w : Bool) (last : Answer) → steps k s c a w last ≡ Err TooWide → WideSteps k s c a w last
steps_wide false s c a w last h = cc
steps_wide true false c a w last h = inl (refl, refl)
steps_wide true true false a w last h = cc
steps_wide true true true false w last h = cc
steps_wide true true true true false last h = cc
steps_wide true true true true true last h = inr (refl, refl, refl, refl, refl, h)

-- what the sort of a result answers
abbrev within_limit : Bool → ℕ → Answer
within_limit b width = if b then Ok (Some (Width width)) else Err TooWide

limit_result : (b : Bool) (width : ℕ) (r : BvResult) → within_limit b width ≡ Ok (Some r) → (b ≡ true) × (r ≡ Width width)
limit_result true width r h = (refl, cc)
limit_result false width r h = cc

limit_wide : (b : Bool) (width : ℕ) → within_limit b width ≡ Err TooWide → b ≡ false
limit_wide true width h = cc
limit_wide false width h = refl

limit_other : (b : Bool) (width : ℕ) → (within_limit b width ≡ Ok None → ⊥) × (within_limit b width ≡ Err BadIndex → ⊥)
limit_other true width = (λ h. cc, λ h. cc)
limit_other false width = (λ h. cc, λ h. cc)

sized-result : (s : ResultSort) (r : BvResult) → sized s ≡ Ok (Some r) → IsResult s r
sized-result boolean r h = cc
sized-result (bit_vec width) r h =
    let p = limit_result (nat_le width greatest) width r h in
    (le_from_test width greatest p.0, p.1)

result-sized : (s : ResultSort) (r : BvResult) → IsResult s r → sized s ≡ Ok (Some r)
result-sized boolean r h = ap (λ x. Ok (Some x)) (sym h)
result-sized (bit_vec width) r h = rw (test_from_le width greatest h.0) (ap (λ x. Ok (Some x)) (sym h.1))

sized-wide : (s : ResultSort) → sized s ≡ Err TooWide → IsTooLarge s
sized-wide boolean h = cc
sized-wide (bit_vec width) h = lt_from_test width greatest (limit_wide (nat_le width greatest) width h)

wide-sized : (s : ResultSort) → IsTooLarge s → sized s ≡ Err TooWide
wide-sized boolean h = absurd h
wide-sized (bit_vec width) h = rw (test_from_lt width greatest h) refl

sized_other : (s : ResultSort) → (sized s ≡ Ok None → ⊥) × (sized s ≡ Err BadIndex → ⊥)
sized_other boolean = (λ h. cc, λ h. cc)
sized_other (bit_vec width) = limit_other (nat_le width greatest) width

-- equal letters give equal parts of a declaration
at_two : {X : Type 0} (f : ℕ → ℕ → X) {i j k l : ℕ} → i ≡ k → j ≡ l → f i j ≡ f k l
at_two f p q = cc

at_three : {X : Type 0} (f : ℕ → ℕ → ℕ → X) {i j m k l n : ℕ} → i ≡ k → j ≡ l → m ≡ n → f i j m ≡ f k l n
at_three f p q r = cc

at_four : {X : Type 0} (f : ℕ → ℕ → ℕ → ℕ → X) {i j m n k l o p : ℕ} → i ≡ k → j ≡ l → m ≡ o → n ≡ p → f i j m n ≡ f k l o p
at_four f p q r t = cc

-- The tests of a declaration with indices and arguments.
module _ (d : Declaration) (is : List Index) (ws : List (Option ℕ)) where
  abbrev kind : Bool
  kind = has_count d is && no_symbol is

  kind_from : length is ≡ d.indices → no_symbol is ≡ true → kind ≡ true
  kind_from count numerals = and_from (has_count d is) (no_symbol is) (test_from_eq (length is) d.indices count) numerals

  kind_parts : kind ≡ true → (length is ≡ d.indices) × (no_symbol is ≡ true)
  kind_parts h = let p = and_parts (has_count d is) (no_symbol is) h in (eqb-true (length is) d.indices p.0, p.1)

  -- from the tests to the values and widths
  indices_from : kind ≡ true → no_large is ≡ true → HasIndices d is (values_of is)
  indices_from k s = record { numerals = numerals_found is (kind_parts k).1 s; count = length-map is (λ index. value_or_0 (Some index)) ∙ (kind_parts k).0 }

  condition_is : condition d (values_of is) ≡ meets_condition d is
  condition_is = at_two d.condition (letter-values_of is 0) (letter-values_of is 1)

  within_is : within d (values_of is) (widths_of ws) ≡ lies_within d is ws
  within_is = at_three d.within (letter-values_of is 0) (letter-values_of is 1) (letter-widths_of ws 0)

  result_is : result_sort d (values_of is) (widths_of ws) ≡ result_of d is ws
  result_is = at_four d.result (letter-values_of is 0) (letter-values_of is 1) (letter-widths_of ws 0) (letter-widths_of ws 1)

  good_from : kind ≡ true → no_large is ≡ true → meets_condition d is ≡ true → HasGoodIndices d is (values_of is)
  good_from k s c = record { indices = indices_from k s; condition = condition_is ∙ c }

  arguments_from : fits d.arguments ws ≡ true → HasArguments d ws (widths_of ws)
  arguments_from a = let p = arguments_found d.arguments ws a in record { bit_vectors = p.0; sorts = p.1 }

  instance_from : kind ≡ true → no_large is ≡ true → meets_condition d is ≡ true → fits d.arguments ws ≡ true → lies_within d is ws ≡ true → HasInstance d is ws (values_of is) (widths_of ws)
  instance_from k s c a w = record { indices = good_from k s c; arguments = arguments_from a; within = within_is ∙ w }

  -- and back
  module _ (values : List ℕ) (h : HasIndices d is values) where
    kind_of : kind ≡ true
    kind_of = kind_from (ap length h.numerals ∙ length-map values Numeral ∙ h.count) (ap no_symbol h.numerals ∙ no_symbol-numerals values)

    small_of : no_large is ≡ true
    small_of = ap no_large h.numerals ∙ no_large-numerals values

    index_of_letter : (place : ℕ) → index_at is place ≡ letter values place
    index_of_letter place = ap (λ xs. index_at xs place) h.numerals ∙ index_at-numerals values place

    condition_of : meets_condition d is ≡ condition d values
    condition_of = at_two d.condition (index_of_letter 0) (index_of_letter 1)

  module _ (widths : List ℕ) (h : HasArguments d ws widths) where
    fits_of : fits d.arguments ws ≡ true
    fits_of = ap (fits d.arguments) h.bit_vectors ∙ arguments_fit d.arguments widths h.sorts

    width_of_letter : (place : ℕ) → width_at ws place ≡ letter widths place
    width_of_letter place = ap (λ xs. width_at xs place) h.bit_vectors ∙ width_at-bit_vectors widths place

  within_of : (values widths : List ℕ) → HasIndices d is values → HasArguments d ws widths → lies_within d is ws ≡ within d values widths
  within_of values widths i a = at_three d.within (index_of_letter values i 0) (index_of_letter values i 1) (width_of_letter widths a 0)

  result_of_letters : (values widths : List ℕ) → HasIndices d is values → HasArguments d ws widths → result_of d is ws ≡ result_sort d values widths
  result_of_letters values widths i a = at_four d.result (index_of_letter values i 0) (index_of_letter values i 1) (width_of_letter widths a 0) (width_of_letter widths a 1)

  answer_in : (values widths : List ℕ) → HasInstance d is ws values widths → answer d is ws ≡ sized (result_sort d values widths)
  answer_in values widths h =
      let i = h.indices.indices in
      rw (kind_of values i, small_of values i, condition_of values i ∙ h.indices.condition, fits_of widths h.arguments, within_of values widths i h.arguments ∙ h.within)
      (ap sized (result_of_letters values widths i h.arguments))

  pub answer-result : (r : BvResult) → (answer d is ws ≡ Ok (Some r)) ↔ HasRank d is ws r
  answer-result r = (
    λ h.
        let p = steps_result kind (no_large is) (meets_condition d is) (fits d.arguments ws) (lies_within d is ws) (sized (result_of d is ws)) r h in
        record {
          values = values_of is;
          widths = widths_of ws;
          instance = instance_from p.0 p.1 p.2 p.3 p.4;
          result = rw result_is (sized-result (result_of d is ws) r p.5);
        },
    λ g. answer_in g.values g.widths g.instance ∙ result-sized (result_sort d g.values g.widths) r g.result,
  )

  no_arguments_from : fits d.arguments ws ≡ false → (widths : List ℕ) → HasArguments d ws widths → ⊥
  no_arguments_from a widths h = let fit : fits d.arguments ws ≡ true = fits_of widths h in cc

  misfit_from : ((widths : List ℕ) → HasArguments d ws widths → ⊥) → fits d.arguments ws ≡ false
  misfit_from none = elim (cases_Bool (fits d.arguments ws)) [
    | inl fit ↦ absurd (none (widths_of ws) (arguments_from fit))
    | inr misfit ↦ misfit
  ]

  pub answer-none : (answer d is ws ≡ Ok None) ↔ HasNoRank d is ws
  answer-none = (
    λ h.
        let p = steps_none kind (no_large is) (meets_condition d is) (fits d.arguments ws) (lies_within d is ws) (sized (result_of d is ws)) (sized_other (result_of d is ws)).0 h in
        record { values = values_of is; indices = good_from p.0 p.1 p.2; none = no_arguments_from p.3 },
    λ g.
        let i = g.indices.indices in
        rw (kind_of g.values i, small_of g.values i, condition_of g.values i ∙ g.indices.condition, misfit_from g.none) refl,
  )

  bad_kind : kind ≡ false → HasBadIndex d is ws
  bad_kind h = elim (and_cases (has_count d is) (no_symbol is) h) [
    | inl p ↦ wrong_count (eqb-false (length is) d.indices p)
    | inr p ↦ symbol_index (symbol_found is p)
  ]

  bad_steps : BadSteps kind (no_large is) (meets_condition d is) (fits d.arguments ws) (lies_within d is ws) → HasBadIndex d is ws
  bad_steps (inl p) = bad_kind p
  bad_steps (inr (inl p)) = wrong_value (values_of is) (indices_from p.0 p.1) (condition_is ∙ p.2)
  bad_steps (inr (inr p)) = past_width (values_of is) (widths_of ws) (good_from p.0 p.1 p.2) (arguments_from p.3) (within_is ∙ p.4)

  bad_answer : HasBadIndex d is ws → answer d is ws ≡ Err BadIndex
  bad_answer (wrong_count p) = rw (and_left (has_count d is) (no_symbol is) (test_from_ne (length is) d.indices p)) refl
  bad_answer (symbol_index p) = rw (and_right (has_count d is) (no_symbol is) (symbol_refuted is p)) refl
  bad_answer (wrong_value values i c) = rw (kind_of values i, small_of values i, condition_of values i ∙ c) refl
  bad_answer (past_width values widths i a w) =
      rw (kind_of values i.indices, small_of values i.indices, condition_of values i.indices ∙ i.condition, fits_of widths a, within_of values widths i.indices a ∙ w) refl

  pub answer-bad_index : (answer d is ws ≡ Err BadIndex) ↔ HasBadIndex d is ws
  answer-bad_index = (
    λ h. bad_steps (steps_bad kind (no_large is) (meets_condition d is) (fits d.arguments ws) (lies_within d is ws) (sized (result_of d is ws)) (sized_other (result_of d is ws)).1 h),
    bad_answer,
  )

  wide_steps : WideSteps kind (no_large is) (meets_condition d is) (fits d.arguments ws) (lies_within d is ws) (sized (result_of d is ws)) → IsTooWide d is ws
  wide_steps (inl p) =
      large_index (kind_parts p.0).0 (λ symbol. let found : no_symbol is ≡ false = symbol_refuted is symbol in let none = (kind_parts p.0).1 in cc) (large_found is p.1)
  wide_steps (inr p) =
      large_result (values_of is) (widths_of ws) (instance_from p.0 p.1 p.2 p.3 p.4) (rw result_is (sized-wide (result_of d is ws) p.5))

  wide_answer : IsTooWide d is ws → answer d is ws ≡ Err TooWide
  wide_answer (large_index n k s) = rw (kind_from n (no_symbol_from is k), large_refuted is s) refl
  wide_answer (large_result values widths h w) = answer_in values widths h ∙ wide-sized (result_sort d values widths) w

  pub answer-too_wide : (answer d is ws ≡ Err TooWide) ↔ IsTooWide d is ws
  answer-too_wide = (
    λ h. wide_steps (steps_wide kind (no_large is) (meets_condition d is) (fits d.arguments ws) (lies_within d is ws) (sized (result_of d is ws)) h),
    wide_answer,
  )

-- The same of a symbol with a declaration, and of what the code answers.
module _ (name : List ℕ) (is : List Index) (ws : List (Option ℕ)) (d : Declaration) (declared : declaration_of name ≡ Some d) (result : Answer) (answered : result ≡ answer d is ws) where
  pub rank-found : (r : BvResult) → (result ≡ Ok (Some r)) ↔ HasBvRank name is ws r
  rank-found r = rw (answered, declared) (answer-result d is ws r)

  pub rank-none : (result ≡ Ok None) ↔ HasNoBvRank name is ws
  rank-none = rw (answered, declared) (answer-none d is ws)

  pub rank-bad_index : (result ≡ Err BadIndex) ↔ HasBvBadIndex name is ws
  rank-bad_index = rw (answered, declared) (answer-bad_index d is ws)

  pub rank-too_wide : (result ≡ Err TooWide) ↔ IsBvTooWide name is ws
  rank-too_wide = rw (answered, declared) (answer-too_wide d is ws)
