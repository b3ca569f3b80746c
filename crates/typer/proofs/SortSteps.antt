-- What the outcomes of the parts of a raw sort say of the whole.
use Rattle.std.proofs.Common.{◌≡◌, ℕ, suc, ◌+◌, List, [], ◌∷◌, ◌++◌, map, Option, Some, None, Result, Ok, Err, refl, ap, sym, ◌∙◌, inl, inr, subst, append_assoc, append-nil}
use Rattle.std.proofs.lemmas.List.{map-append}
use Rattle.lex_core.specs.declared.place.Place.{Place}
use Rattle.judgement.specs.Judging.{Judging, Outcome, well_sorted, ill_sorted}
use Rattle.term_grammar.specs.Syntax as syntax
use Rattle.term_grammar.specs.Syntax.{Identifier, named_sort, applied_sort, Sorts, with_sort}
use Rattle.term_grammar.specs.declared.sort.RawSortKind.TheVariants as kind
use Rattle.term_grammar.specs.SortViews.{sort_kind, SplitsSorts}
use Rattle.sort_store.specs.Tree.{Sort, NumberedSort, tree}
use Rattle.dt_rules.specs.declared.error.TyError.{TyError}
use Rattle.dt_rules.specs.declared.error.TyError.TheVariants as error
use Rattle.typer.specs.declared.world.World.{World}
use Rattle.typer.specs.Declarations.{declarations_of}
use Rattle.typer.specs.Answers.{Answers, tree_answer}
use Rattle.typer.specs.SortRules.{judge_sort, judge_sorts, judge_identifier}

-- how many parts a raw sort has, itself among them
abbrev mutual
  pub size : syntax.Sort → ℕ
  size (named_sort i) = 1
  size (applied_sort at i ss) = suc (sizes ss)

  pub sizes : Sorts → ℕ
  sizes syntax.no_sorts = 0
  sizes (with_sort s ss) = suc (size s + sizes ss)

-- the raw sorts that are not judged yet
abbrev pub left : Option (syntax.Sort × Sorts) → Sorts
left None = syntax.no_sorts
left (Some p) = with_sort p.0 p.1

-- the outcome with some sorts before the others
abbrev pub prefixed : List Sort → Outcome (List Sort) → Outcome (List Sort)
prefixed ts (well_sorted us after) = well_sorted (ts ++ us) after
prefixed ts (ill_sorted place) = ill_sorted place

-- the rules under a world
abbrev pub sort_in : World → List ℕ → syntax.Sort → Judging Sort
sort_in world params s = judge_sort world.names (declarations_of world.scopes) world.theories params s

abbrev pub sorts_in : World → List ℕ → Sorts → Judging (List Sort)
sorts_in world params ss = judge_sorts world.names (declarations_of world.scopes) world.theories params ss

abbrev pub identifier_in : World → List ℕ → ℕ → List Sort → Identifier → Judging Sort
identifier_in world params at args i = judge_identifier world.names (declarations_of world.scopes) world.theories params at args i

abbrev with_sorts : List Sort → World → World
with_sorts store world = record world { sorts = store }

-- nothing but the store of sorts has changed
abbrev pub OthersStay : World → World → Type 0
OthersStay old new = new ≡ record old { sorts = new.sorts }

module _ (world : World) (params : List ℕ) where
  pub sorts_done : (ss : Sorts) (before : List ℕ) → ss ≡ syntax.no_sorts → sorts_in world params ss before (well_sorted [] before)
  sorts_done ss before e = subst (λ z. sorts_in world params z before (well_sorted [] before)) (sym e) (refl, refl)

  pub sorts_step : (ss : Sorts) (s : syntax.Sort) (rest : Sorts) (t : Sort) (before : List ℕ) (o : Outcome (List Sort)) → ss ≡ with_sort s rest
      → Answers (Ok t) (sort_in world params s) → sorts_in world params rest before o → sorts_in world params ss before (prefixed (t ∷ []) o)
  sorts_step ss s rest t before o e h k = subst (λ z. sorts_in world params z before (prefixed (t ∷ []) o)) (sym e) (by o k)
    where
      by : (o : Outcome (List Sort)) → sorts_in world params rest before o → sorts_in world params (with_sort s rest) before (prefixed (t ∷ []) o)
      by (well_sorted us after) k = (t, before, h before, (us, after, k, (refl, refl)))
      by (ill_sorted place) k = inr (t, before, h before, inl k)

  pub sorts_fault : (ss : Sorts) (s : syntax.Sort) (rest : Sorts) (place : Place) (before : List ℕ) → ss ≡ with_sort s rest
      → sort_in world params s before (ill_sorted place) → sorts_in world params ss before (ill_sorted place)
  sorts_fault ss s rest place before e h = subst (λ z. sorts_in world params z before (ill_sorted place)) (sym e) (inl h)

  pub named_step : (raw : syntax.Sort) (i : Identifier) (at : ℕ) (r : Result Sort TyError) → raw ≡ named_sort i → at ≡ syntax.sort_at raw
      → Answers r (identifier_in world params at [] i) → Answers r (sort_in world params raw)
  named_step raw i at r e f h =
      subst (λ z. Answers r (sort_in world params z)) (sym e) (subst (λ z. Answers r (identifier_in world params z [] i)) (f ∙ ap syntax.sort_at e) h)

  pub applied_step : (raw : syntax.Sort) (first at : ℕ) (i : Identifier) (ss : Sorts) (args : List Sort) (r : Result Sort TyError) → raw ≡ applied_sort first i ss → at ≡ syntax.sort_at raw
      → Answers (Ok args) (sorts_in world params ss) → Answers r (identifier_in world params at args i) → Answers r (sort_in world params raw)
  applied_step raw first at i ss args r e f h k =
      subst (λ z. Answers r (sort_in world params z)) (sym e) (by r (subst (λ z. Answers r (identifier_in world params z args i)) (f ∙ ap syntax.sort_at e) k))
    where
      by : (r : Result Sort TyError) → Answers r (identifier_in world params first args i) → Answers r (sort_in world params (applied_sort first i ss))
      by (Ok t) k = λ before. (args, before, h before, k before)
      by (Err (error.Fault place)) k = λ before. inr (args, before, h before, k before)
      by (Err error.NoMemory) k = tt

  pub applied_fault : (raw : syntax.Sort) (first : ℕ) (i : Identifier) (ss : Sorts) (e : TyError) → raw ≡ applied_sort first i ss
      → Answers {A = List Sort} (Err e) (sorts_in world params ss) → Answers {A = Sort} (Err e) (sort_in world params raw)
  applied_fault raw first i ss e f h = subst (λ z. Answers {A = Sort} (Err e) (sort_in world params z)) (sym f) (by e h)
    where
      by : (e : TyError) → Answers {A = List Sort} (Err e) (sorts_in world params ss) → Answers {A = Sort} (Err e) (sort_in world params (applied_sort first i ss))
      by (error.Fault place) h = λ before. inl (h before)
      by error.NoMemory h = tt

-- one more sort before the others
pub prefixed_more : (ts : List Sort) (t : Sort) (o : Outcome (List Sort)) → prefixed ts (prefixed (t ∷ []) o) ≡ prefixed (ts ++ t ∷ []) o
prefixed_more ts t (well_sorted us after) = ap (λ z. well_sorted z after) (sym (append_assoc ts (t ∷ []) us))
prefixed_more ts t (ill_sorted place) = refl

pub prefixed_none : (o : Outcome (List Sort)) → prefixed [] o ≡ o
prefixed_none (well_sorted us after) = refl
prefixed_none (ill_sorted place) = refl

-- the productions, told by what the views show
pub applied_shown : (raw : syntax.Sort) (i : Identifier) (ss : Sorts) → kind.Applied i ss ≡ sort_kind raw → (first : ℕ) × (raw ≡ applied_sort first i ss)
applied_shown (named_sort j) i ss e = cc
applied_shown (applied_sort at j us) i ss e = let p : j ≡ i = cc in let q : us ≡ ss = cc in (at, ap (λ z. applied_sort at z us) p ∙ ap (applied_sort at i) q)

pub identifier_shown : (raw : syntax.Sort) (i : Identifier) → kind.Identifier i ≡ sort_kind raw → raw ≡ named_sort i
identifier_shown (named_sort j) i e = let p : j ≡ i = cc in ap named_sort p
identifier_shown (applied_sort at j us) i e = cc

pub left_is : (ss : Sorts) (next : Option (syntax.Sort × Sorts)) → SplitsSorts ss next → left next ≡ ss
left_is ss None e = sym e
left_is ss (Some p) e = sym e

pub others_more : (old mid new : World) → OthersStay old mid → OthersStay mid new → OthersStay old new
others_more old mid new e f = f ∙ ap (with_sorts new.sorts) e

module _ (old now : World) (others : OthersStay old now) (params : List ℕ) where
  pub moved_identifier : (at : ℕ) (args : List Sort) (i : Identifier) (r : Result Sort TyError) → Answers r (identifier_in now params at args i) → Answers r (identifier_in old params at args i)
  moved_identifier at args i r h = subst (λ w. Answers r (identifier_in w params at args i)) others h

  moved : (s : syntax.Sort) (r : Result Sort TyError) → Answers r (sort_in now params s) → Answers r (sort_in old params s)
  moved s r h = subst (λ w. Answers r (sort_in w params s)) others h

  -- a turn of the loop over the sorts that are left
  module _ (whole ss rest : Sorts) (s : syntax.Sort) (made : List NumberedSort) (shown : ss ≡ with_sort s rest)
      (onward : (before : List ℕ) (o : Outcome (List Sort)) → sorts_in old params ss before o → sorts_in old params whole before (prefixed (map tree made) o)) where
    pub turn_step : (next : Option (syntax.Sort × Sorts)) (new : List NumberedSort) (r : NumberedSort) → SplitsSorts rest next → Answers (Ok (tree r)) (sort_in now params s) → new ≡ made ++ r ∷ []
        → (before : List ℕ) (o : Outcome (List Sort)) → sorts_in old params (left next) before o → sorts_in old params whole before (prefixed (map tree new) o)
    turn_step next new r split h put before o k =
        let k' : sorts_in old params rest before o = subst (λ z. sorts_in old params z before o) (left_is rest next split) k in
        let g = onward before (prefixed (tree r ∷ []) o) (sorts_step old params ss s rest (tree r) before o shown (moved s (Ok (tree r)) h) k') in
        subst (λ ts. sorts_in old params whole before (prefixed ts o)) (sym (ap (map tree) put ∙ map-append tree made (r ∷ [])))
        (subst (λ z. sorts_in old params whole before z) (prefixed_more (map tree made) (tree r) o) g)

    pub turn_fault : (e : TyError) → Answers {A = Sort} (Err e) (sort_in now params s) → Answers {A = List Sort} (Err e) (sorts_in old params whole)
    turn_fault (error.Fault place) h = λ before. onward before (ill_sorted place) (sorts_fault old params ss s rest place before shown (moved s (Err (error.Fault place)) h before))
    turn_fault error.NoMemory h = tt

pub no_turn : (old : World) (params : List ℕ) (whole ss : Sorts) (made : List NumberedSort) → ss ≡ syntax.no_sorts
    → ((before : List ℕ) (o : Outcome (List Sort)) → sorts_in old params ss before o → sorts_in old params whole before (prefixed (map tree made) o))
    → Answers (Ok (map tree made)) (sorts_in old params whole)
no_turn old params whole ss made e onward before =
    subst (λ ts. sorts_in old params whole before (well_sorted ts before)) (append-nil (map tree made)) (onward before (well_sorted [] before) (sorts_done old params ss before e))

-- the answer in the world before the call
pub of_identifier : (old : World) (params : List ℕ) (raw : syntax.Sort) (i : Identifier) (at : ℕ) (r : Result NumberedSort TyError) → kind.Identifier i ≡ sort_kind raw → at ≡ syntax.sort_at raw
    → Answers (tree_answer r) (identifier_in old params at [] i) → Answers (tree_answer r) (sort_in old params raw)
of_identifier old params raw i at r shown e h = named_step old params raw i at (tree_answer r) (identifier_shown raw i shown) e h

pub of_applied : (old mid : World) (params : List ℕ) (raw : syntax.Sort) (i : Identifier) (ss : Sorts) (at : ℕ) (rs slice : List NumberedSort) (r : Result NumberedSort TyError)
    → kind.Applied i ss ≡ sort_kind raw → at ≡ syntax.sort_at raw → OthersStay old mid → Answers (Ok (map tree rs)) (sorts_in old params ss) → slice ≡ rs
    → Answers (tree_answer r) (identifier_in mid params at (map tree slice) i) → Answers (tree_answer r) (sort_in old params raw)
of_applied old mid params raw i ss at rs slice r shown e others h same k =
    let found = applied_shown raw i ss shown in
    applied_step old params raw found.0 at i ss (map tree rs) (tree_answer r) found.1 e h
    (moved_identifier old mid others params at (map tree rs) i (tree_answer r) (subst (λ z. Answers (tree_answer r) (identifier_in mid params at (map tree z) i)) same k))
