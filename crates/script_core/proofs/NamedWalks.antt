-- The named terms that a walk over terms finds, one after the other, as definitions.
use Rattle.std.proofs.Common.{◌≡◌, ℕ, zero, suc, ◌<◌, ◌≤◌, List, [], ◌∷◌, ◌++◌, length, map, drop, Option, Some, None, slice_index_or, arith, refl, ap, sym, ◌∙◌, append_assoc, append-nil}
use Rattle.std.proofs.lemmas.List.{map-append}
use Rattle.sort_store.specs.declared.head.DeclNo.{DeclNo}
use Rattle.term_store.specs.Command.{PlainDef, plain_def}
use Rattle.term_store.specs.Declarations.{Declaration, names_in_all, names_in_each, names_in, term_name}
use Rattle.term_store.specs.NumberedNodes.{terms}
use Rattle.term_store.specs.SoundScript.{named_def}
use Rattle.term_store.specs.Term.{NumberedTerm, PlainTerm, trees}
use Rattle.term_store.specs.Term as term_tree
use Rattle.term_store.specs.declared.command.Def.{Def}
use Rattle.typer.proofs.FreeWalks.{count_parts, tree_parts}
use Rattle.script_core.specs.Keeping.{defined_by, defined_in, with_some}
use Rattle.script_core.proofs.BoolTerms.{term_sort}

pub defined_joined : (xs ys : List Declaration) → defined_in (xs ++ ys) ≡ defined_in xs ++ defined_in ys
defined_joined [] ys = refl
defined_joined (x ∷ xs) ys = put (defined_by x) (defined_joined xs ys)
  where
    put : (o : Option PlainDef) → defined_in (xs ++ ys) ≡ defined_in xs ++ defined_in ys → with_some o (defined_in (xs ++ ys)) ≡ with_some o (defined_in xs) ++ defined_in ys
    put None e = e
    put (Some d) e = ap (λ ds. d ∷ ds) e

-- no named terms, and some with others after them
pub adds_none : (old : List PlainDef) → old ≡ old ++ defined_in []
adds_none old = sym (append-nil old)

pub adds_both : (old mid new : List PlainDef) (ds es : List Declaration) → mid ≡ old ++ defined_in ds → new ≡ mid ++ defined_in es → new ≡ old ++ defined_in (ds ++ es)
adds_both old mid new ds es e f =
    f ∙ (ap (λ xs. xs ++ defined_in es) e ∙ (append_assoc old (defined_in ds) (defined_in es) ∙ ap (λ xs. old ++ xs) (sym (defined_joined ds es))))

-- a part of a list, where the parts that are left come after it
pub adds_step : (here new whole : List PlainDef) (ds rest : List Declaration) → new ≡ here ++ defined_in ds → here ++ defined_in (ds ++ rest) ≡ whole → new ++ defined_in rest ≡ whole
adds_step here new whole ds rest e f =
    ap (λ xs. xs ++ defined_in rest) e ∙ (append_assoc here (defined_in ds) (defined_in rest) ∙ (ap (λ xs. here ++ xs) (sym (defined_joined ds rest)) ∙ f))

pub adds_end : (here whole : List PlainDef) → here ++ defined_in [] ≡ whole → here ≡ whole
adds_end here whole e = sym (append-nil here) ∙ e

-- one named term
pub adds_one : (old new : List Def) (d : Def) (n : DeclNo) (name : ℕ) (t : PlainTerm) → plain_def d ≡ named_def n name t → new ≡ old ++ d ∷ [] → map plain_def new ≡ map plain_def old ++ defined_in (term_name n name t ∷ [])
adds_one old new d n name t e put = ap (map plain_def) put ∙ (map-append plain_def old (d ∷ []) ∙ ap (λ x. map plain_def old ++ x ∷ []) e)

-- the terms of a list
pub names_listed : (ts : List NumberedTerm) → names_in_each (trees (terms ts)) ≡ names_in_all (map term_tree.tree ts)
names_listed [] = refl
names_listed (t ∷ ts) = ap (λ ds. names_in (term_tree.tree t) ++ ds) (names_listed ts)

-- the next part of a list, where the parts that are left come after it
drop_at : {X : Type 0} (xs : List X) (i : ℕ) (x : X) → i < length xs → x ≡ slice_index_or xs i x → drop i xs ≡ x ∷ drop (suc i) xs
drop_at [] i x l e = absurd (omega (arith, l))
drop_at (y ∷ ys) zero x l e = ap (λ z. z ∷ ys) (sym e)
drop_at (y ∷ ys) (suc i) x l e = drop_at ys i x (omega (arith, l)) e

module _ {X : Type 0} (xs : List X) (i n : ℕ) (x : X) (next : n ≡ suc i) (few : i < length xs) (at : x ≡ slice_index_or xs i x) where
  here_is : drop i xs ≡ x ∷ drop n xs
  here_is = drop_at xs i x few at ∙ ap (λ m. x ∷ drop m xs) (sym next)

  pub named_on : (named : List X → List Declaration) (one : X → List Declaration) → ((y : X) (ys : List X) → named (y ∷ ys) ≡ one y ++ named ys) → (here new whole : List PlainDef) → new ≡ here ++ defined_in (one x)
      → here ++ defined_in (named (drop i xs)) ≡ whole → new ++ defined_in (named (drop n xs)) ≡ whole
  named_on named one joins here new whole e onward =
      adds_step here new whole (one x) (named (drop n xs)) e (ap (λ ds. here ++ defined_in ds) (sym (joins x (drop n xs))) ∙ (ap (λ ys. here ++ defined_in (named ys)) (sym here_is) ∙ onward))

  pub count_on : (count : List X → ℕ) → ((y : X) (ys : List X) → count ys ≤ count (y ∷ ys)) → (all : ℕ) → count (drop i xs) ≤ all → count (drop n xs) ≤ all
  count_on count more all l = omega (arith, more x (drop n xs), l, ap count here_is)

pub ruleset sort_words = (term_sort)

pub ruleset name_words = (tree_parts, count_parts, adds_none, adds_both, adds_step, adds_end, adds_one, names_listed)
