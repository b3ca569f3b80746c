-- S-expressions as flat items with skip numbers.
use Rattle.std.specs.Prelude.{◌≡◌, ℕ, ◌+◌, ◌-◌, List, [], ◌∷◌, ◌++◌, length, refl, if◌then◌else◌, nat_le, ◌<◌, ◌^◌}
use Rattle.std.specs.Coded.{Coded, code_by, coded_list}
use Rattle.std.proofs.Common.{ap, sym, ◌∙◌, arith, append_assoc, append-nil, le-leb, add-zero, add_assoc}
use Rattle.std.proofs.lemmas.Bool.Decides.{nat_tests}
use Rattle.lex_core.specs.declared.token.Tok.{Tok}
use Rattle.sexp_core.specs.declared.tree.Item.{Item}
use Rattle.sexp_core.specs.declared.tree.Item.TheVariants as item
use Rattle.sexp_core.specs.Sexp.{Sexp, Sexps, atom, list, nil, cons, append}
use Rattle.sexp_core.specs.Codes.{item_code}

-- how many items an s-expression has
abbrev mutual
  pub size : Sexp Tok → ℕ
  size (atom t) = 1
  size (list at ts) = size_all ts + 1

  pub size_all : Sexps Tok → ℕ
  size_all nil = 0
  size_all (cons t ts) = size t + size_all ts

-- the items of an s-expression whose first item stands at a place
abbrev mutual
  pub items_from : ℕ → Sexp Tok → List Item
  items_from p (atom t) = item.Atom t ∷ []
  items_from p (list at ts) = item.Open (p + 1 + size_all ts) at ∷ items_all (p + 1) ts

  pub items_all : ℕ → Sexps Tok → List Item
  items_all p nil = []
  items_all p (cons t ts) = items_from p t ++ items_all (p + size t) ts

-- the s-expressions that lie in the first n places, and those after them
abbrev pub within : ℕ → Sexps Tok → Sexps Tok
within n nil = nil
within n (cons t ts) = if nat_le (size t) n then cons t (within (n - size t) ts) else nil

abbrev pub past : ℕ → Sexps Tok → Sexps Tok
past n nil = nil
past n (cons t ts) = if nat_le (size t) n then past (n - size t) ts else cons t ts

-- the s-expressions that items stand for, the first of them at a place
abbrev pub sexps_of : List Item → ℕ → Sexps Tok
sexps_of [] p = nil
sexps_of (item.Atom t ∷ r) p = cons (atom t) (sexps_of r (p + 1))
sexps_of (item.Open skip at ∷ r) p =
    cons (list at (within (skip - (p + 1)) (sexps_of r (p + 1)))) (past (skip - (p + 1)) (sexps_of r (p + 1)))

abbrev head : Sexps Tok → Sexp Tok
head nil = list 0 nil
head (cons t ts) = t

abbrev pub sexp_of : List Item → Sexp Tok
sexp_of is = head (sexps_of is 0)

pub size-pos : (t : Sexp Tok) → 0 < size t
size-pos (atom t) = omega arith
size-pos (list at ts) = omega arith

within-append : (ts us : Sexps Tok) → within (size_all ts) (append ts us) ≡ ts
within-append nil nil = refl
within-append nil (cons u us) = let h = size-pos u in grind (arith, nat_tests)
within-append (cons t ts) us = let e : size t + size_all ts - size t ≡ size_all ts = omega arith in
    rw (le-leb (size t) (size t + size_all ts) (omega arith), e, within-append ts us) refl

past-append : (ts us : Sexps Tok) → past (size_all ts) (append ts us) ≡ us
past-append nil nil = refl
past-append nil (cons u us) = let h = size-pos u in grind (arith, nat_tests)
past-append (cons t ts) us = let e : size t + size_all ts - size t ≡ size_all ts = omega arith in
    rw (le-leb (size t) (size t + size_all ts) (omega arith), e, past-append ts us) refl

mutual
  pub sexps_of-items_from : (t : Sexp Tok) (p : ℕ) (r : List Item) → sexps_of (items_from p t ++ r) p ≡ cons t (sexps_of r (p + size t))
  sexps_of-items_from (atom t) p r = refl
  sexps_of-items_from (list at ts) p r =
      let e : p + 1 + size_all ts - (p + 1) ≡ size_all ts = omega arith in
      let q : p + 1 + size_all ts ≡ p + (size_all ts + 1) = omega arith in
      let s = sexps_of r (p + 1 + size_all ts) in
      rw (sexps_of-items_all ts (p + 1) r, e, within-append ts s, past-append ts s, q) refl

  pub sexps_of-items_all : (ts : Sexps Tok) (p : ℕ) (r : List Item) → sexps_of (items_all p ts ++ r) p ≡ append ts (sexps_of r (p + size_all ts))
  sexps_of-items_all nil p r = rw add-zero refl
  sexps_of-items_all (cons t ts) p r =
      rw (append_assoc, sexps_of-items_from t p (items_all (p + size t) ts ++ r), sexps_of-items_all ts (p + size t) r, add_assoc p (size t) (size_all ts)) refl

pub sexp_of-items_from : (t : Sexp Tok) → sexp_of (items_from 0 t) ≡ t
sexp_of-items_from t = rw (← append-nil (items_from 0 t), sexps_of-items_from t 0 []) refl

abbrev pub sexp_code : Coded (Sexp Tok)
sexp_code = code_by (List Item) (coded_list item_code) (items_from 0) sexp_of sexp_of-items_from

abbrev pub parts_of : Sexp Tok → Sexps Tok
parts_of (atom t) = nil
parts_of (list at ts) = ts

abbrev pub sexps_code : Coded (Sexps Tok)
sexps_code = code_by (Sexp Tok) sexp_code (list 0) parts_of (λ _. refl)

-- the items are those of some s-expression
abbrev pub IsLaidOut : List Item → Type 0
IsLaidOut is = (t : Sexp Tok) × (is ≡ items_from 0 t) × (length is < 2 ^ 32)

pub laid_out : (is : List Item) (t : Sexp Tok) → IsLaidOut is → sexp_of is ≡ t → is ≡ items_from 0 t
laid_out is t (u, e, _) v = e ∙ ap (items_from 0) (sym (sexp_of-items_from u) ∙ sym (ap sexp_of e) ∙ v)

-- the items are those of some s-expressions, the first of them at a place
abbrev pub AreLaidOut : ℕ → List Item → Type 0
AreLaidOut p is = (ts : Sexps Tok) × (is ≡ items_all p ts) × (p + length is < 2 ^ 32)
