-- Joined lists of s-expressions.
use Rattle.std.proofs.Common.{◌≡◌, List, ◌∷◌, ◌++◌, refl, ap, append_assoc, append-nil}
use Rattle.sexp_core.specs.Sexp.{Sexp, Sexps, nil, cons, flat, flat_all, append}
use Rattle.sexp_core.specs.OpenLists.{OpenList, add_sexp, open_tokens}

pub sexps_append_assoc : {A : Type 0} (ts us vs : Sexps A) → append (append ts us) vs ≡ append ts (append us vs)
sexps_append_assoc nil us vs = refl
sexps_append_assoc (cons t ts) us vs = ap (cons t) (sexps_append_assoc ts us vs)

pub sexps_append-nil : {A : Type 0} (ts : Sexps A) → append ts nil ≡ ts
sexps_append-nil nil = refl
sexps_append-nil (cons t ts) = ap (cons t) (sexps_append-nil ts)

pub flat_all-append : {A : Type 0} (ts us : Sexps A) → flat_all (append ts us) ≡ flat_all ts ++ flat_all us
flat_all-append nil us = refl
flat_all-append (cons t ts) us = rw (flat_all-append ts us, append_assoc) refl

pub open_tokens-add_sexp : {A : Type 0} (t : Sexp A) (f : OpenList A) (fs : List (OpenList A)) → open_tokens (add_sexp t (f ∷ fs)) ≡ open_tokens (f ∷ fs) ++ flat t
open_tokens-add_sexp t f fs = rw (flat_all-append, append-nil, append_assoc) refl
