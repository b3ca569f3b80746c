-- What a token does to the items and places of the open lists.
use Rattle.std.proofs.Common.{◌≡◌, ℕ, ◌+◌, ◌<◌, List, [], ◌∷◌, ◌++◌, length, refl, drop, get_or, set, reverse, ap, sym, ◌∙◌, arith, append_assoc, append-nil, length-append, add-zero, add-one, add_assoc, Ok, ◌≢◌, Bool, true, false}
use Rattle.std.proofs.lemmas.Bool.Decides.{nat_tests}
use Rattle.std.proofs.Math.Dec.{eqb}
use Rattle.std.proofs.Math.Seq.{set-append_seam, take-append_seam}
use Rattle.std.proofs.lemmas.List.{get_or-append-add, reverse-append, append_cancel_right}
use Rattle.lex_core.specs.declared.token.Tok.{Tok}
use Rattle.sexp_core.specs.declared.tree.Item.{Item}
use Rattle.sexp_core.specs.declared.tree.Item.TheVariants as item
use Rattle.sexp_core.specs.Sexp.{Sexp, Sexps, atom, list, nil, cons, append}
use Rattle.sexp_core.specs.Items.{size, size_all, items_from, items_all, sexps_of, sexps_of-items_all}
use Rattle.sexp_core.specs.OpenLists.{OpenList, add_sexp, open_items, open_places, open_lists, Represents, opening_byte}
use Rattle.sexp_core.specs.Builder.{AddsAtom, EndsList}
use Rattle.sexp_core.proofs.SexpLists.{sexps_append-nil}

mutual
  pub length-items_from : (t : Sexp Tok) (p : ℕ) → length (items_from p t) ≡ size t
  length-items_from (atom t) p = refl
  length-items_from (list at ts) p = omega (arith, length-items_all ts (p + 1))

  pub length-items_all : (ts : Sexps Tok) (p : ℕ) → length (items_all p ts) ≡ size_all ts
  length-items_all nil p = refl
  length-items_all (cons t ts) p = rw (length-append, length-items_from t p, length-items_all ts (p + size t)) refl

items_all-append : (ts us : Sexps Tok) (p : ℕ) → items_all p (append ts us) ≡ items_all p ts ++ items_all (p + size_all ts) us
items_all-append nil us p = rw add-zero refl
items_all-append (cons t ts) us p = rw (items_all-append ts us (p + size t), append_assoc, add_assoc) refl

-- the next free place in the innermost list is the number of items
next_place : (f : OpenList Tok) (fs : List (OpenList Tok)) → length (open_items fs) + 1 + size_all f.1 ≡ length (open_items (f ∷ fs))
next_place f fs = rw (length-append, length-items_all) (omega arith)

open_items-add_sexp : (t : Sexp Tok) (f : OpenList Tok) (fs : List (OpenList Tok)) → open_items (add_sexp t (f ∷ fs)) ≡ open_items (f ∷ fs) ++ items_from (length (open_items (f ∷ fs))) t
open_items-add_sexp t f fs = rw (items_all-append, next_place f fs, append-nil, append_assoc) refl

-- the item where the innermost list begins, with its skip number
set-open_items : (f : OpenList Tok) (fs : List (OpenList Tok)) → set (open_items (f ∷ fs)) (length (open_items fs)) (item.Open (length (open_items (f ∷ fs))) f.0) ≡ open_items fs ++ items_from (length (open_items fs)) (list f.0 f.1)
set-open_items f fs = rw (set-append_seam, next_place f fs) refl

get_or-open_items : (f : OpenList Tok) (fs : List (OpenList Tok)) (d : Item) → get_or (open_items (f ∷ fs)) (length (open_items fs)) d ≡ item.Open 0 f.0
get_or-open_items f fs d = let e = get_or-append-add (open_items fs) (item.Open 0 f.0 ∷ items_all (length (open_items fs) + 1) f.1) 0 d in rw add-zero at e

drop-past : (xs : List Item) (y : Item) (ys : List Item) → drop (length xs + 1) (xs ++ y ∷ ys) ≡ ys
drop-past [] y ys = refl
drop-past (x ∷ xs) y ys = rw add-one (rw add-one at (drop-past xs y ys))

pub sexps_of-items : (ts : Sexps Tok) (p : ℕ) → sexps_of (items_all p ts) p ≡ ts
sexps_of-items ts p = let e = sexps_of-items_all ts p [] in rw (append-nil, sexps_append-nil) at e

-- the open lists are read back from their items and places
pub open_lists-items : (fs : List (OpenList Tok)) → open_lists (open_places fs) (open_items fs) ≡ fs
open_lists-items [] = refl
open_lists-items (f ∷ fs) =
    let r = reverse-append (open_places fs) (length (open_items fs) ∷ []) in
    let g = get_or-open_items f fs (item.Open 0 0) in
    let d = drop-past (open_items fs) (item.Open 0 f.0) (items_all (length (open_items fs) + 1) f.1) in
    let t = take-append_seam (open_items fs) (item.Open 0 f.0 ∷ items_all (length (open_items fs) + 1) f.1) in
    let w = sexps_of-items f.1 (length (open_items fs) + 1) in
    rw (r, g, d, t, w, open_lists-items fs) refl

pub atom_added : (fs : List (OpenList Tok)) (t : Tok) (is : List Item) (os : List ℕ) (ns : List Item) → length os ≢ 0 → Represents fs is os → ns ≡ is ++ item.Atom t ∷ [] → AddsAtom fs t (Ok tt) ns os
atom_added [] t is os ns some h e = absurd (some (ap length h.starts))
atom_added (f ∷ fs) t is os ns some h e = record {
  items = e ∙ ap (λ (xs : List Item). xs ++ item.Atom t ∷ []) h.items ∙ sym (open_items-add_sexp (atom t) f fs);
  starts = h.starts;
}

pub length-open_places : (fs : List (OpenList Tok)) → length (open_places fs) ≡ length fs
length-open_places [] = refl
length-open_places (f ∷ fs) = rw length-append (omega (arith, length-open_places fs))

-- as many lists are open as have a place
pub not_full : (fs : List (OpenList Tok)) (is : List Item) (os : List ℕ) (n : ℕ) → Represents fs is os → length os ≢ n → length fs ≢ n
not_full fs is os n h some e = some (ap length h.starts ∙ length-open_places fs ∙ e)

snoc_same : {A : Type 0} (xs ys : List A) (x y : A) → xs ++ x ∷ [] ≡ ys ++ y ∷ [] → (xs ≡ ys) × (x ≡ y)
snoc_same xs ys x y e =
    let r : y ∷ reverse ys ≡ x ∷ reverse xs = sym (reverse-append ys (y ∷ [])) ∙ ap reverse (sym e) ∙ reverse-append xs (x ∷ []) in
    let h : x ≡ y = cc in
    (append_cancel_right xs ys (y ∷ []) (rw h at e), h)

-- the last place is that of an item
pub start_inside : (fs : List (OpenList Tok)) (is : List Item) (os : List ℕ) (before : List ℕ) (start : ℕ) → Represents fs is os → os ≡ before ++ start ∷ [] → start < length is
start_inside [] is os before start h e = let n = ap length (sym h.starts ∙ e) in absurd (omega (arith, length-append {A = ℕ}, n))
start_inside (f ∷ fs) is os before start h e =
    let s = snoc_same (open_places fs) before (length (open_items fs)) start (sym h.starts ∙ e) in
    omega (arith, s.1, ap length h.items, length-append {A = Item})

-- the items once the innermost list's skip number is known
closed_items : (f : OpenList Tok) (fs : List (OpenList Tok)) (is : List Item) (start : ℕ) (d : Item) → is ≡ open_items (f ∷ fs) → length (open_items fs) ≡ start
    → set is start (item.Open (length is) (opening_byte (get_or is start d))) ≡ open_items fs ++ items_from (length (open_items fs)) (list f.0 f.1)
closed_items f fs is start d h s = rw (h, ← s, get_or-open_items f fs d) (set-open_items f fs)

is_false : (r : Bool) → (r ≡ true → ⊥) → r ≡ false
is_false true h = absurd (h refl)
is_false false h = refl

list_ended : (fs : List (OpenList Tok)) (at : ℕ) (is : List Item) (os : List ℕ) (before : List ℕ) (start : ℕ) (d : Item) (r : Bool)
    → Represents fs is os → os ≡ before ++ start ∷ [] → (r ≡ true → length before ≡ 0) → (length before ≡ 0 → r ≡ true)
    → EndsList fs at (Ok r) (set is start (item.Open (length is) (opening_byte (get_or is start d)))) before
list_ended [] at is os before start d r h e y n = let m = ap length (sym h.starts ∙ e) in absurd (omega (arith, length-append {A = ℕ}, m))
list_ended (f ∷ []) at is os before start d r h e y n =
    let s = snoc_same [] before 0 start (sym h.starts ∙ e) in
    (ap Ok (n (ap length (sym s.0))), closed_items f [] is start d h.items s.1, sym s.0)
list_ended (f ∷ g ∷ gs) at is os before start d r h e y n =
    let s = snoc_same (open_places (g ∷ gs)) before (length (open_items (g ∷ gs))) start (sym h.starts ∙ e) in
    let some : length before ≢ 0 = λ z. let l = ap length s.0 in absurd (omega (arith, length-open_places (g ∷ gs))) in (
      ap Ok (is_false r (λ t. some (y t))),
      record {
        items = closed_items f (g ∷ gs) is start d h.items s.1 ∙ sym (open_items-add_sexp (list f.0 f.1) g gs);
        starts = sym s.0;
      },
    )

-- the same with names for what the code computed
pub list_ended_by : (fs : List (OpenList Tok)) (at : ℕ) (is : List Item) (os : List ℕ) (before : List ℕ) (start skip opened n : ℕ) (x : Item) (r : Bool)
    → Represents fs is os → os ≡ before ++ start ∷ [] → n ≡ length before → r ≡ eqb n 0 → skip ≡ length is → opened ≡ opening_byte x → x ≡ get_or is start x
    → EndsList fs at (Ok r) (set is start (item.Open skip opened)) before
list_ended_by fs at is os before start skip opened n x r h e l t s o i =
    rw (s, o, i) (list_ended fs at is os before start x r h e (λ y. grind (arith, nat_tests)) (λ y. grind (arith, nat_tests)))
