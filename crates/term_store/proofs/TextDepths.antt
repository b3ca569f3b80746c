-- How deep the texts of sorts and of the parts of nodes nest.
use Rattle.std.proofs.Common.{◌≡◌, ℕ, ◌+◌, suc, max, List, [], ◌∷◌, refl, ap, ◌∙◌, arith}
use Rattle.lex_core.specs.declared.token.Tok.{Tok}
use Rattle.sexp_core.specs.Sexp.{Sexp, Sexps, atom, list, nil, cons, map_sexp, map_sexps, append}
use Rattle.sort_store.specs.Depth.{head_depth, depth, depth_each}
use Rattle.sort_store.specs.declared.head.Head.{Head}
use Rattle.sort_store.specs.declared.head.Head.TheVariants as head
use Rattle.sort_store.specs.Tree.{Sort, sort, SortList, no_sorts, more_sorts}
use Rattle.sort_store.specs.declared.head.DeclNo.{DeclNo}
use Rattle.term_store.specs.declared.parts.Fun.{Fun}
use Rattle.term_store.specs.declared.parts.Fun.TheVariants as fun
use Rattle.term_store.specs.Value.{unplaced, unplaced_all}
use Rattle.term_store.specs.CanonicalText.{head_text, sort_text, sort_texts, symbol, symbols, index_texts, function_text, applied_text, Word, other_names, binding_texts, term_texts}
use Rattle.term_store.specs.Depth.{nesting, nesting_all, saturated, list_depth}
use Rattle.term_store.specs.NumberedNodes.{terms}
use Rattle.term_store.specs.Term.{NumberedTerm, trees}
use Rattle.term_store.specs.Laws.{SortDepthIsNesting}

head_nesting : (params : List ℕ) (h : Head) → nesting (head_text params h) ≡ head_depth h
head_nesting params head.Bool = refl
head_nesting params head.Int = refl
head_nesting params head.Array = refl
head_nesting params (head.BitVec m) = omega arith
head_nesting params (head.Free d n) = refl
head_nesting params (head.Data d n) = refl
head_nesting params (head.Param i) = refl

mutual
  pub sort_nesting : SortDepthIsNesting
  sort_nesting params (sort h no_sorts) = head_nesting params h
  sort_nesting params (sort h (more_sorts t ts)) = omega (arith, head_nesting params h, sort_nesting params t, sorts_nesting params ts)

  pub sorts_nesting : (params : List ℕ) (ts : SortList) → nesting_all (sort_texts params ts) ≡ depth_each ts
  sorts_nesting params no_sorts = refl
  sorts_nesting params (more_sorts t ts) = omega (arith, sort_nesting params t, sorts_nesting params ts)

pub index_nesting : (is : List ℕ) → nesting_all (index_texts is) ≡ 0
index_nesting [] = refl
index_nesting (i ∷ is) = omega (arith, index_nesting is)

pub symbol_nesting : (ns : List ℕ) → nesting_all (symbols ns) ≡ 0
symbol_nesting [] = refl
symbol_nesting (n ∷ ns) = omega (arith, symbol_nesting ns)

-- function symbols and patterns
pub symbol_alone : (f : Fun) (n : ℕ) (is : List ℕ) → f ≡ fun.Theory → nesting (function_text f n is) ≡ list_depth is
symbol_alone fun.Theory n [] e = refl
symbol_alone fun.Theory n (i ∷ is) e = omega (arith, index_nesting is)
symbol_alone (fun.Declared d) n is e = cc
symbol_alone (fun.Tester d) n is e = cc

pub symbol_declared : (f : Fun) (d : DeclNo) (n : ℕ) (is : List ℕ) → f ≡ fun.Declared d → nesting (function_text f n is) ≡ list_depth is
symbol_declared fun.Theory d n is e = cc
symbol_declared (fun.Declared c) d n [] e = refl
symbol_declared (fun.Declared c) d n (i ∷ is) e = omega (arith, index_nesting is)
symbol_declared (fun.Tester c) d n is e = cc

pub symbol_tests : (f : Fun) (d : DeclNo) (n : ℕ) (is : List ℕ) → f ≡ fun.Tester d → nesting (function_text f n is) ≡ 1
symbol_tests fun.Theory d n is e = cc
symbol_tests (fun.Declared c) d n is e = cc
symbol_tests (fun.Tester c) d n is e = omega arith

pub pattern_constructs : (n : ℕ) (vs : List ℕ) → nesting (applied_text (symbol n) (symbols vs)) ≡ list_depth vs
pattern_constructs n [] = refl
pattern_constructs n (v ∷ vs) = omega (arith, symbol_nesting vs)

-- arguments and bindings, where there are some
pub arguments_nested : (h : Sexp Word) (rs : List NumberedTerm) (d e r : ℕ) → (rs ≡ [] → ⊥) → d ≡ saturated (nesting h) → e ≡ saturated (nesting_all (term_texts (trees (terms rs))))
    → r ≡ saturated (max e d + 1) → r ≡ saturated (nesting (applied_text h (term_texts (trees (terms rs)))))
arguments_nested h [] d e r f p q s = absurd (f refl)
arguments_nested h (t ∷ rs) d e r f p q s = omega arith

bindings_nested : (vs : List ℕ) (t : NumberedTerm) (rs : List NumberedTerm) → nesting_all (binding_texts vs (trees (terms (t ∷ rs)))) ≡ suc (nesting_all (term_texts (trees (terms (t ∷ rs)))))
bindings_nested vs t [] = omega arith
bindings_nested vs t (u ∷ rs) = omega (arith, bindings_nested (other_names vs) u rs)

pub deepest_bound : (rs : List NumberedTerm) (e r : ℕ) → (rs ≡ [] → ⊥) → e ≡ saturated (nesting_all (term_texts (trees (terms rs)))) → r ≡ saturated (e + 1)
    → (vs : List ℕ) → r ≡ saturated (nesting_all (binding_texts vs (trees (terms rs))))
deepest_bound [] e r f q s vs = absurd (f refl)
deepest_bound (t ∷ rs) e r f q s vs = omega (arith, bindings_nested vs t rs)

pub none_bound : (rs : List NumberedTerm) → rs ≡ [] → (vs : List ℕ) → 0 ≡ saturated (nesting_all (binding_texts vs (trees (terms rs))))
none_bound [] e vs = refl
none_bound (t ∷ rs) e vs = cc

pub joined_nesting : {A : Type 0} (ts us : Sexps A) → nesting_all (append ts us) ≡ max (nesting_all ts) (nesting_all us)
joined_nesting nil us = omega arith
joined_nesting (cons t ts) us = omega (arith, joined_nesting ts us)

mutual
  pub value_nesting : {A : Type 0} (f : Tok → A) (t : Sexp Tok) → nesting (map_sexp f (unplaced t)) ≡ nesting t
  value_nesting f (atom t) = refl
  value_nesting f (list at ts) = ap suc (values_nesting f ts)

  pub values_nesting : {A : Type 0} (f : Tok → A) (ts : Sexps Tok) → nesting_all (map_sexps f (unplaced_all ts)) ≡ nesting_all ts
  values_nesting f nil = refl
  values_nesting f (cons t ts) = omega (arith, value_nesting f t, values_nesting f ts)

pub ruleset text_words = (arguments_nested, deepest_bound, none_bound, symbol_alone, symbol_declared, symbol_tests, pattern_constructs, sort_nesting, index_nesting, symbol_nesting, joined_nesting, value_nesting)
