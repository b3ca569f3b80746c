-- How deep the texts of the parts of commands nest.
use Rattle.std.proofs.Common.{◌≡◌, ◌≤◌, ℕ, suc, max, List, [], ◌∷◌, map, refl, ap, arith}
use Rattle.sexp_core.specs.Sexp.{Sexp, Sexps, list}
use Rattle.term_store.specs.CanonicalText.{Word, term_text, term_texts}
use Rattle.term_store.specs.Command.{PlainConstructor, PlainDatatype, PlainField}
use Rattle.term_store.specs.CommandText.{constructor_text, datatype_text, field_text, parametric_text, sexps, sort_declaration_text}
use Rattle.term_store.specs.Depth.{nesting, nesting_all}
use Rattle.term_store.specs.NumberedNodes.{terms}
use Rattle.term_store.specs.Term.{NumberedTerm, tree, trees}
use Rattle.term_store.proofs.TextDepths.{sort_nesting, symbol_nesting}

-- terms in a list
pub terms_nesting : (ts : List NumberedTerm) → nesting_all (sexps (map term_text (map tree ts))) ≡ nesting_all (term_texts (trees (terms ts)))
terms_nesting [] = refl
terms_nesting (t ∷ ts) = ap (max (nesting (term_text (tree t)))) (terms_nesting ts)

-- the names of the parameters of a datatype play no part
fields_nesting : (params : List ℕ) (fs : List PlainField) → nesting_all (sexps (map (field_text params) fs)) ≡ nesting_all (sexps (map (field_text []) fs))
fields_nesting params [] = refl
fields_nesting params (f ∷ fs) = omega (arith, sort_nesting params f.sort, sort_nesting [] f.sort, fields_nesting params fs)

pub constructors_nesting : (params : List ℕ) (cs : List PlainConstructor) → nesting_all (sexps (map (constructor_text params) cs)) ≡ nesting_all (sexps (map (constructor_text []) cs))
constructors_nesting params [] = refl
constructors_nesting params (c ∷ cs) = omega (arith, fields_nesting params c.fields, constructors_nesting params cs)

-- a list without parameters, and with some
pub alone_nesting : (params : List ℕ) (t : Sexp Word) → params ≡ [] → nesting (parametric_text params t) ≡ nesting t
alone_nesting [] t e = refl
alone_nesting (x ∷ xs) t e = cc

pub parametric_nesting : (params : List ℕ) (at : ℕ) (ts : Sexps Word) → (params ≡ [] → ⊥) → nesting (parametric_text params (list at ts)) ≡ suc (suc (nesting_all ts))
parametric_nesting [] at ts f = absurd (f refl)
parametric_nesting (x ∷ xs) at ts f = omega (arith, symbol_nesting xs)

one_list : (params : List ℕ) (at : ℕ) (ts : Sexps Word) → 1 ≤ nesting (parametric_text params (list at ts))
one_list [] at ts = omega arith
one_list (x ∷ xs) at ts = omega arith

-- the sort symbols of datatypes nest no deeper than the datatypes
pub declared_nesting : (ts : List PlainDatatype) → nesting_all (sexps (map sort_declaration_text ts)) ≤ nesting_all (sexps (map datatype_text ts))
declared_nesting [] = omega arith
declared_nesting (t ∷ ts) = omega (arith, one_list t.params 0 (sexps (map (constructor_text t.params) t.constructors)), declared_nesting ts)

pub ruleset declared_words = (constructors_nesting, alone_nesting, parametric_nesting)

pub ruleset command_words = (terms_nesting, declared_nesting, sort_nesting, symbol_nesting)
