-- The items of s-expressions, moved to another place.
use Rattle.std.specs.Prelude.{map}
use Rattle.std.proofs.Common.{◌≡◌, ℕ, ◌+◌, ◌-◌, ◌≤◌, List, [], ◌∷◌, length, refl, ap, sym, ◌∙◌, arith, All}
use Rattle.std.proofs.lemmas.List.{map-append, length-map}
use Rattle.std.proofs.lemmas.List.Elements.{All-append, All-cons, All-nil}
use Rattle.lex_core.specs.declared.token.Tok.{Tok}
use Rattle.sexp_core.specs.declared.tree.Item.{Item}
use Rattle.sexp_core.specs.declared.tree.Item.TheVariants as item
use Rattle.sexp_core.specs.Sexp.{Sexp, Sexps, atom, list, nil, cons}
use Rattle.sexp_core.specs.Items.{size, size_all, items_from, items_all, sexps_of, sexp_of, sexp_of-items_from, AreLaidOut}
use Rattle.sexp_core.proofs.OpenListItems.{length-items_all}
use Rattle.sexp_core.proofs.FirstSexp.{sexps_read}
use Rattle.sexp_core.specs.Parts.{moved_item, SkipsWithin}

mutual
  pub moved-items_from : (p q : ℕ) (k : ℕ) (t : Sexp Tok) → q ≡ p + k → map (moved_item p) (items_from q t) ≡ items_from (k + 1) t
  moved-items_from p q k (atom t) e = refl
  moved-items_from p q k (list at ts) e =
      let s : q + 1 + size_all ts - p + 1 ≡ k + 1 + 1 + size_all ts = omega (arith, e) in
      rw (s, moved-items_all p (q + 1) (k + 1) ts (omega (arith, e))) refl

  pub moved-items_all : (p q : ℕ) (k : ℕ) (ts : Sexps Tok) → q ≡ p + k → map (moved_item p) (items_all q ts) ≡ items_all (k + 1) ts
  moved-items_all p q k nil e = refl
  moved-items_all p q k (cons t ts) e =
      let s : k + size t + 1 ≡ k + 1 + size t = omega arith in
      let h = moved-items_all p (q + size t) (k + size t) ts (omega (arith, e)) in
      rw (map-append (moved_item p) (items_from q t) (items_all (q + size t) ts), moved-items_from p q k t e, h, s) refl

mutual
  skips-items_from : (low high p : ℕ) (t : Sexp Tok) → low ≤ p → p + size t ≤ high → All (SkipsWithin low high) (items_from p t)
  skips-items_from low high p (atom t) l h = All-cons (SkipsWithin low high) (item.Atom t) [] tt (All-nil (SkipsWithin low high))
  skips-items_from low high p (list at ts) l h =
      All-cons (SkipsWithin low high) (item.Open (p + 1 + size_all ts) at) (items_all (p + 1) ts) (omega arith, omega arith)
      (skips-items_all low high (p + 1) ts (omega arith) (omega arith))

  pub skips-items_all : (low high p : ℕ) (ts : Sexps Tok) → low ≤ p → p + size_all ts ≤ high → All (SkipsWithin low high) (items_all p ts)
  skips-items_all low high p nil l h = All-nil (SkipsWithin low high)
  skips-items_all low high p (cons t ts) l h =
      All-append (SkipsWithin low high) (items_from p t) (items_all (p + size t) ts) (skips-items_from low high p t l (omega arith))
      (skips-items_all low high (p + size t) ts (omega arith) (omega arith))

pub laid_out_skips : (p : ℕ) (is : List Item) → AreLaidOut p is → All (SkipsWithin p (p + length is)) is
laid_out_skips p is (ts, e, b) = rw e (skips-items_all p (p + length (items_all p ts)) p ts (omega arith) (omega (arith, length-items_all ts p)))

-- the items of a list that were made from those of its parts
module _ (p at : ℕ) (is new : List Item) (ts : Sexps Tok) (h : AreLaidOut p is) (v : sexps_of is p ≡ ts) (m : new ≡ item.Open (length is + 1) at ∷ map (moved_item p) is) where
  pub copied_items : new ≡ items_from 0 (list at ts)
  copied_items =
      let k : h.0 ≡ ts = sym (sexps_read p is h.0 h.1) ∙ v in
      let n : length is + 1 ≡ 0 + 1 + size_all h.0 = omega (arith, ap length h.1, length-items_all h.0 p) in
      let i : map (moved_item p) is ≡ items_all (0 + 1) h.0 = ap (map (moved_item p)) h.1 ∙ moved-items_all p p 0 h.0 (omega arith) in
      m ∙ ap (λ (x : ℕ). item.Open x at ∷ map (moved_item p) is) n ∙ ap (λ (js : List Item). item.Open (0 + 1 + size_all h.0) at ∷ js) i ∙ ap (λ (us : Sexps Tok). items_from 0 (list at us)) k

  pub length-copied : length new ≡ length is + 1
  length-copied = omega (arith, ap length m, length-map is (moved_item p))

  pub copied_sexp : sexp_of new ≡ list at ts
  copied_sexp = ap sexp_of copied_items ∙ sexp_of-items_from (list at ts)
