-- Replacing atoms before or after writing tokens is the same.
use Rattle.std.specs.Prelude.{map}
use Rattle.std.proofs.Common.{◌≡◌, ℕ, [], ◌∷◌, refl}
use Rattle.std.proofs.lemmas.List.{map-append}
use Rattle.lex_core.specs.declared.token.TokKind.{TokKind}
use Rattle.lex_core.specs.declared.token.TokKind.TheVariants as kind
use Rattle.sexp_core.specs.Sexp.{Sexp, Sexps, atom, list, nil, cons, Closing, flat, flat_all, map_sexp, map_sexps, map_flat}
use Rattle.sexp_core.specs.Tokens.{flat_of}

mutual
  pub flat-map_sexp : {A B : Type 0} (f : A → B) (t : Sexp A) → flat (map_sexp f t) ≡ map (map_flat f) (flat t)
  flat-map_sexp f (atom a) = refl
  flat-map_sexp f (list at ts) = rw (flat_all-map_sexps f ts, map-append (map_flat f) (flat_all ts) (Closing ∷ [])) refl

  pub flat_all-map_sexps : {A B : Type 0} (f : A → B) (ts : Sexps A) → flat_all (map_sexps f ts) ≡ map (map_flat f) (flat_all ts)
  flat_all-map_sexps f nil = refl
  flat_all-map_sexps f (cons t ts) = rw (flat-map_sexp f t, flat_all-map_sexps f ts, map-append (map_flat f) (flat t) (flat_all ts)) refl

pub map_flat-flat_of : {A B : Type 0} (f : A → B) (k : TokKind) (at : ℕ) (a : A) → map_flat f (flat_of k at a) ≡ flat_of k at (f a)
map_flat-flat_of f kind.Open at a = refl
map_flat-flat_of f kind.Close at a = refl
map_flat-flat_of f kind.Numeral at a = refl
map_flat-flat_of f kind.Decimal at a = refl
map_flat-flat_of f kind.Hexadecimal at a = refl
map_flat-flat_of f kind.Binary at a = refl
map_flat-flat_of f kind.Str at a = refl
map_flat-flat_of f kind.Symbol at a = refl
map_flat-flat_of f kind.Reserved at a = refl
map_flat-flat_of f kind.Keyword at a = refl
