-- The first of some s-expressions, on items.
use Rattle.std.proofs.Common.{◌≡◌, ℕ, ◌+◌, ◌-◌, ◌<◌, ◌≤◌, ◌^◌, List, [], ◌∷◌, ◌++◌, length, take, drop, ap, sym, ◌∙◌, arith, length-append, length-take, length-drop, subst}
use Rattle.std.proofs.Math.Seq.{take-append_seam, drop-append_seam}
use Rattle.lex_core.specs.declared.token.Tok.{Tok}
use Rattle.sexp_core.specs.declared.tree.Item.{Item}
use Rattle.sexp_core.specs.declared.tree.Item.TheVariants as item
use Rattle.sexp_core.specs.Sexp.{Sexps, atom, list, nil, cons, count_of}
use Rattle.sexp_core.specs.Items.{size_all, size-pos, items_all, sexps_of, AreLaidOut}
use Rattle.sexp_core.proofs.OpenListItems.{sexps_of-items, length-items_all}

pub sexps_read : (p : ℕ) (is : List Item) (ts : Sexps Tok) → is ≡ items_all p ts → sexps_of is p ≡ ts
sexps_read p is ts e = rw e (sexps_of-items ts p)

pub after_atom : (p : ℕ) (t : Tok) (r : List Item) → AreLaidOut p (item.Atom t ∷ r) → AreLaidOut (p + 1) r
after_atom p t r (nil, e, b) = absurd (no p t r e)
  where
    no : (p : ℕ) (t : Tok) (r : List Item) → item.Atom t ∷ r ≡ [] → ⊥
    no p t r e = cc
after_atom p t r (cons (atom u) ts, e, b) = let x : r ≡ items_all (p + 1) ts = cc in (ts, x, omega arith)
after_atom p t r (cons (list at us) ts, e, b) = absurd (no p t r at us (items_all (p + (size_all us + 1)) ts) e)
  where
    no : (p : ℕ) (t : Tok) (r : List Item) (at : ℕ) (us : Sexps Tok) (xs : List Item) → item.Atom t ∷ r ≡ item.Open (p + 1 + size_all us) at ∷ (items_all (p + 1) us ++ xs) → ⊥
    no p t r at us xs e = cc

-- what follows the item of a list: its parts, and the other trees
pub record PartsAndRest (p skip at : ℕ) (r : List Item) : Type 0 where
  pub parts : Sexps Tok
  pub others : Sexps Tok
  pub items : r ≡ items_all (p + 1) parts ++ items_all skip others
  pub skip_is : skip ≡ p + 1 + size_all parts
  pub reads : sexps_of (item.Open skip at ∷ r) p ≡ cons (list at parts) others
  pub room : p + (length r + 1) < 2 ^ 32

pub after_open : (p skip at : ℕ) (r : List Item) → AreLaidOut p (item.Open skip at ∷ r) → PartsAndRest p skip at r
after_open p skip at r (nil, e, b) = absurd (no e)
  where
    no : item.Open skip at ∷ r ≡ [] → ⊥
    no e = cc
after_open p skip at r (cons (atom u) ts, e, b) = absurd (no (items_all (p + 1) ts) e)
  where
    no : (xs : List Item) → item.Open skip at ∷ r ≡ item.Atom u ∷ xs → ⊥
    no xs e = cc
after_open p skip at r (cons (list b us) ts, e, f) =
    let k : skip ≡ p + 1 + size_all us = cc in
    let q : p + (size_all us + 1) ≡ skip = omega arith in
    let x : r ≡ items_all (p + 1) us ++ items_all (p + (size_all us + 1)) ts = cc in
    let a : b ≡ at = cc in
    record { parts = us; others = ts; items = rw q at x; skip_is = k; reads = sexps_read p _ (cons (list b us) ts) e ∙ ap (λ (z : ℕ). cons (list z us) ts) a; room = omega arith }

split_seam : (n : ℕ) (a b r : List Item) → n ≡ length a → r ≡ a ++ b → (take n r ≡ a) × (drop n r ≡ b)
split_seam n a b r e f = (rw (e, f) (take-append_seam a b), rw (e, f) (drop-append_seam a b))

module _ (p skip at : ℕ) (r : List Item) (h : AreLaidOut p (item.Open skip at ∷ r)) where
  count_is : skip - p - 1 ≡ length (items_all (p + 1) (after_open p skip at r h).parts)
  count_is = omega (arith, (after_open p skip at r h).skip_is, length-items_all (after_open p skip at r h).parts (p + 1))

  pub begins_before : p + 1 ≤ skip
  begins_before = omega (arith, (after_open p skip at r h).skip_is)

  pub count_fits : skip - p - 1 ≤ length r
  count_fits = omega (arith, count_is, ap length (after_open p skip at r h).items, length-append (items_all (p + 1) (after_open p skip at r h).parts) (items_all skip (after_open p skip at r h).others))

  seam : (take (skip - p - 1) r ≡ items_all (p + 1) (after_open p skip at r h).parts) × (drop (skip - p - 1) r ≡ items_all skip (after_open p skip at r h).others)
  seam = split_seam (skip - p - 1) _ _ r count_is (after_open p skip at r h).items

  pub inner_laid_out : AreLaidOut (p + 1) (take (skip - p - 1) r)
  inner_laid_out = ((after_open p skip at r h).parts, seam.0, omega (arith, count_fits, (after_open p skip at r h).room, length-take (skip - p - 1) r))

  pub others_laid_out : AreLaidOut skip (drop (skip - p - 1) r)
  others_laid_out = ((after_open p skip at r h).others, seam.1, omega (arith, begins_before, count_fits, (after_open p skip at r h).room, length-drop (skip - p - 1) r))

  pub split_list : sexps_of (item.Open skip at ∷ r) p ≡ cons (list at (sexps_of (take (skip - p - 1) r) (p + 1))) (sexps_of (drop (skip - p - 1) r) skip)
  split_list = let f = after_open p skip at r h in
      rw (sexps_read (p + 1) _ f.parts seam.0, sexps_read skip _ f.others seam.1) f.reads

-- what is known of the items once the first one has been looked at
pub looked_at : (p : ℕ) (is : List Item) (i j : Item) (r : List Item) → AreLaidOut p is → is ≡ i ∷ r → i ≡ j → AreLaidOut p (j ∷ r)
looked_at p is i j r h e f = let x : is ≡ j ∷ r = e ∙ ap (λ (k : Item). k ∷ r) f in subst (AreLaidOut p) x h

pub same_sexps : (p : ℕ) (is : List Item) (i j : Item) (r : List Item) (ts us : Sexps Tok) → sexps_of is p ≡ ts → is ≡ i ∷ r → i ≡ j → sexps_of (j ∷ r) p ≡ us → ts ≡ us
same_sexps p is i j r ts us h e f g = let x : is ≡ j ∷ r = e ∙ ap (λ (k : Item). k ∷ r) f in sym h ∙ ap (λ (xs : List Item). sexps_of xs p) x ∙ g

count_of-size_all : (ts : Sexps Tok) → count_of ts ≤ size_all ts
count_of-size_all nil = omega arith
count_of-size_all (cons t ts) = omega (arith, count_of-size_all ts, size-pos t)

-- there are no more s-expressions than items
pub few_sexps : (p : ℕ) (is : List Item) (ts : Sexps Tok) → AreLaidOut p is → sexps_of is p ≡ ts → count_of ts < 2 ^ 32
few_sexps p is ts (us, e, b) h =
    let k : us ≡ ts = sym (sexps_read p is us e) ∙ h in
    rw (← k) (omega (arith, count_of-size_all us, length-items_all us p, ap length e))
