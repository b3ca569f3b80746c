-- The trees of a list view, one by one.
use Rattle.std.proofs.Common.{◌≡◌, ℕ, zero, suc, Bool, true, false, ◌&&◌, IsTrue, List, [], ◌∷◌, map, length, slice_get, Option, Some, option_map, refl, ap, sym, ◌∙◌, arith}
use Rattle.std.specs.List.{list_all}
use Rattle.std.proofs.lemmas.List.{length-map}
use Rattle.std.proofs.lemmas.Option.{slice_get-map}
use Rattle.lex_core.specs.declared.token.Tok.{Tok}
use Rattle.sexp_core.specs.Sexp.{Sexp, Sexps, nil, cons, count_of}
use Rattle.sexp_core.specs.Parts.{whole}
use Rattle.sexp_core.specs.declared.parts.Part.{Part}
use Rattle.cmd_grammar.specs.TreeLists.{each_tree}

length-each_tree : (ts : Sexps Tok) → length (each_tree ts) ≡ count_of ts
length-each_tree nil = refl
length-each_tree (cons t ts) = omega (arith, length-each_tree ts)

pub length-seen : {A : Type 0} (f : Sexp Tok → A) (ts : Sexps Tok) → length (map f (each_tree ts)) ≡ count_of ts
length-seen f ts = length-map (each_tree ts) f ∙ length-each_tree ts

found : (ts : Sexps Tok) (i : ℕ) (o : Option Part) (p : Part) → option_map whole o ≡ slice_get (each_tree ts) i → o ≡ Some p
    → Some (whole p) ≡ slice_get (each_tree ts) i
found ts i o p e k = sym (ap (option_map whole) k) ∙ e

-- what is seen at an index is what the tree there is seen as
pub seen_at : {A : Type 0} (f : Sexp Tok → A) (ts : Sexps Tok) (i : ℕ) (o : Option Part) (p : Part) → option_map whole o ≡ slice_get (each_tree ts) i → o ≡ Some p
    → Some (f (whole p)) ≡ slice_get (map f (each_tree ts)) i
seen_at f ts i o p e k = ap (option_map f) (found ts i o p e k) ∙ sym (slice_get-map f (each_tree ts) i)

pub both_true : (a b : Bool) → IsTrue (a && b) → IsTrue a × IsTrue b
both_true true b h = (refl, h)
both_true false b h = absurd (cc)

tree_passes : (test : Sexp Tok → Bool) (ts : List (Sexp Tok)) (i : ℕ) (t : Sexp Tok) → IsTrue (list_all test ts) → Some t ≡ slice_get ts i → IsTrue (test t)
tree_passes test [] i t h e = absurd (cc)
tree_passes test (u ∷ us) zero t h e = let p : t ≡ u = cc in rw p (both_true (test u) (list_all test us) h).0
tree_passes test (u ∷ us) (suc i) t h e = tree_passes test us i t (both_true (test u) (list_all test us) h).1 e

-- what all trees pass, the tree at an index does
pub passes_at : (test : Sexp Tok → Bool) (ts : Sexps Tok) (i : ℕ) (o : Option Part) (p : Part) → IsTrue (list_all test (each_tree ts))
    → option_map whole o ≡ slice_get (each_tree ts) i → o ≡ Some p → IsTrue (test (whole p))
passes_at test ts i o p h e k = tree_passes test (each_tree ts) i (whole p) h (found ts i o p e k)

pub ruleset counts = (length-seen)
