-- Applications of function symbols on bit vectors are sound, and so are their result sorts.
use Rattle.std.proofs.Common.{◌≡◌, ℕ, ◌<◌, ◌≤◌, true, false, List, [], ◌∷◌, length, map, get_or, Option, Some, None, if◌then◌else◌, refl, ap, sym, ◌∙◌, inl, inr, arith, subst}
use Rattle.std.proofs.lemmas.Bool.{agree_below, agree_below_at, cases_Bool}
use Rattle.std.specs.List.{list_any}
use Rattle.std.specs.Option.{IsSomeAnd, is_some}
use Rattle.std.specs.Str.{bytes_eq}
use Rattle.lex_core.specs.NameTable.{IsNameTable, fixed_texts}
use Rattle.sort_store.specs.declared.head.Head.{Head}
use Rattle.sort_store.specs.declared.head.Head.TheVariants as head
use Rattle.sort_store.specs.Tree.{Sort, SortList, sort}
use Rattle.term_store.specs.Declarations.{Declaration as Script}
use Rattle.term_store.specs.SoundTerms.{IsSoundSort, IsTheorySort, HasTheorySort}
use Rattle.theory_bv.specs.declared.index.Index.{Index}
use Rattle.theory_bv.specs.declared.rank.BvResult.{BvResult}
use Rattle.theory_bv.specs.declared.rank.BvResult.TheVariants as result
use Rattle.theory_bv.specs.Declarations.{Declaration, literal}
use Rattle.theory_bv.specs.Ranks.{AreArguments, HasBvRank, HasRank, IsResult, result_sort}
use Rattle.theory_bv.specs.Symbols.{Group, bv_groups, declared_in, declaration_of, listed_declaration, is_literal}
use Rattle.typer.specs.BitVectors.{HasBitsRank, sort_of, width_of}
use Rattle.typer.proofs.CoreNames.{core_text}
use Rattle.typer.proofs.SoundTheories.{AppliesTheory}

-- no fixed text is a symbol on bit vectors
fixed_symbols : agree_below (λ n. is_some (declaration_of (get_or fixed_texts n []))) (λ n. false) 57 ≡ true
unfolding declaration_of listed_declaration
fixed_symbols = refl

-- a declaration whose result is Bool takes an argument
abbrev TakesSome : Declaration → Type 0
TakesSome d = (values widths : List ℕ) → IsResult (result_sort d values widths) result.Bool → AreArguments d.arguments widths → 1 ≤ length widths

abbrev EachTakesSome : List Group → Type 0
EachTakesSome [] = Unit {0}
EachTakesSome (g ∷ gs) = TakesSome g.declaration × EachTakesSome gs

no_width : (width : ℕ) → result.Bool ≡ result.Width width → ⊥
no_width width e = cc

groups_take : EachTakesSome bv_groups
groups_take = (
  λ v w r a. absurd (no_width _ r.1),
  (
    λ v w r a. absurd (no_width _ r.1),
    (
      λ v w r a. absurd (no_width _ r.1),
      (
        λ v w r a. absurd (no_width _ r.1),
        (
          λ v w r a. absurd (no_width _ r.1),
          (
            λ v w r a. omega (arith, a.0),
            (
              λ v w r a. absurd (no_width _ r.1),
              (
                λ v w r a. absurd (no_width _ r.1),
                (
                  λ v w r a. absurd (no_width _ r.1),
                  (
                    λ v w r a. absurd (no_width _ r.1),
                    (
                      λ v w r a. absurd (no_width _ r.1),
                      (λ v w r a. absurd (no_width _ r.1), (λ v w r a. absurd (no_width _ r.1), (λ v w r a. omega (arith, a.0), tt))),
                    ),
                  ),
                ),
              ),
            ),
          ),
        ),
      ),
    ),
  ),
)

found_in : (gs : List Group) (name : List ℕ) (d : Declaration) → EachTakesSome gs → declared_in gs name ≡ Some d → TakesSome d
found_in [] name d h e = cc
found_in (g ∷ gs) name d h e = elim (cases_Bool (list_any (bytes_eq name) g.symbols)) [
  | inl t ↦ (let found : Some g.declaration ≡ Some d = sym (ap (λ b. if b then Some g.declaration else declared_in gs name) t) ∙ e in let same : g.declaration ≡ d = cc in subst TakesSome same h.0)
  | inr t ↦ found_in gs name d h.1 (sym (ap (λ b. if b then Some g.declaration else declared_in gs name) t) ∙ e)
]

declared_takes : (name : List ℕ) (d : Declaration) → declaration_of name ≡ Some d → TakesSome d
unfolding declaration_of listed_declaration
declared_takes name d e = elim (cases_Bool (is_literal name)) [
  | inl t ↦ (let found : Some literal ≡ Some d = sym (ap (λ b. if b then Some literal else declared_in bv_groups name) t) ∙ e in
      let same : literal ≡ d = cc in subst TakesSome same (λ v w r a. absurd (no_width _ r.1)))
  | inr t ↦ found_in bv_groups name d groups_take (sym (ap (λ b. if b then Some literal else declared_in bv_groups name) t) ∙ e)
]

-- a sort with a width is one of a theory
has_theory_head : (h : Head) (ts : SortList) (width : ℕ) → width_of (sort h ts) ≡ Some width → IsTheorySort (sort h ts)
has_theory_head head.Bool ts width e = cc
has_theory_head head.Int ts width e = tt
has_theory_head head.Array ts width e = tt
has_theory_head (head.BitVec m) ts width e = tt
has_theory_head (head.Free d n) ts width e = cc
has_theory_head (head.Data d n) ts width e = cc
has_theory_head (head.Param i) ts width e = cc

some_bit_vector : (args : List Sort) (widths : List ℕ) → map width_of args ≡ map Some widths → 1 ≤ length widths → HasTheorySort args
some_bit_vector args [] e l = absurd (omega (arith, l))
some_bit_vector [] (w ∷ ws) e l = cc
some_bit_vector (sort h ts ∷ args) (w ∷ ws) e l = let first : width_of (sort h ts) ≡ Some w = cc in inl (has_theory_head h ts w first)

module _ (text : List ℕ) (is : List Index) (args : List Sort) (t : Sort) where
  by_result : (found : BvResult) → HasBvRank text is (map width_of args) found → t ≡ sort_of found → HasTheorySort (t ∷ args)
  by_result (result.Width width) rank e = inl (subst IsTheorySort (sym e) tt)
  by_result result.Bool rank e = inr (by (declaration_of text) refl rank)
    where
      by : (o : Option Declaration) → declaration_of text ≡ o → IsSomeAnd o (λ d. HasRank d is (map width_of args) result.Bool) → HasTheorySort args
      by None f k = absurd k
      by (Some d) f k = some_bit_vector args k.widths k.instance.arguments.bit_vectors (declared_takes text d f k.values k.widths k.result k.instance.arguments.sorts)

  sound_result : (script : List Script) (params : ℕ) (found : BvResult) → IsSoundSort script params (sort_of found)
  sound_result script params (result.Width width) = (tt, tt)
  sound_result script params result.Bool = (tt, tt)

  pub bits_result_sound : (script : List Script) (params : ℕ) → HasBitsRank text is args t → IsSoundSort script params t
  bits_result_sound script params h = subst (IsSoundSort script params) (sym h.sort_is) (sound_result script params h.found)

  -- a text with a rank is no fixed text
  no_fixed_text : (name : ℕ) → name < 57 → text ≡ get_or fixed_texts name [] → HasBitsRank text is args t → ⊥
  no_fixed_text name l e h = by (declaration_of text) (ap (λ z. is_some (declaration_of z)) e ∙ agree_below_at (λ n. is_some (declaration_of (get_or fixed_texts n []))) (λ n. false) 57 name fixed_symbols l) h.rank
    where
      by : (o : Option Declaration) → is_some o ≡ false → IsSomeAnd o (λ d. HasRank d is (map width_of args) h.found) → ⊥
      by None f k = absurd k
      by (Some d) f k = cc

  pub bits_applies : (texts : List (List ℕ)) (table : IsNameTable texts) (name : ℕ) → text ≡ get_or texts name [] → HasBitsRank text is args t → AppliesTheory texts table name args t
  bits_applies texts table name e h = (λ c. absurd (no_fixed_text name (omega (arith, c.1)) (e ∙ core_text texts table name c) h), λ other. by_result h.found h.rank h.sort_is)
