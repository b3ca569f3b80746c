-- How deep the canonical text of a term nests, as far as a u32 tells it.
use Rattle.std.specs.Prelude.{ℕ, suc, max, min, List, [], ◌∷◌}
use Rattle.sexp_core.specs.Sexp.{Sexp, Sexps, atom, list, nil, cons}
use Rattle.term_store.specs.Term.{PlainTerm}
use Rattle.term_store.specs.CanonicalText.{term_text}

-- the greatest number of lists round a place
abbrev mutual
  pub nesting : {A : Type 0} → Sexp A → ℕ
  nesting (atom a) = 0
  nesting (list at ts) = suc (nesting_all ts)

  pub nesting_all : {A : Type 0} → Sexps A → ℕ
  nesting_all nil = 0
  nesting_all (cons t ts) = max (nesting t) (nesting_all ts)

-- the number itself, or the largest u32 where the number is greater
abbrev pub saturated : ℕ → ℕ
saturated n = min 4294967295 n

abbrev pub text_depth : PlainTerm → ℕ
text_depth t = saturated (nesting (term_text t))

-- how deep a symbol nests with these names after it
abbrev pub list_depth : List ℕ → ℕ
list_depth [] = 0
list_depth (n ∷ ns) = 1
