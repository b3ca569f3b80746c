-- Values are equal, wherever they stood, exactly where their items are.
use Rattle.std.proofs.Common.{◌≡◌, ℕ, ◌+◌, List, [], ◌∷◌, ◌++◌, map, refl, ap, sym, ◌∙◌, arith}
use Rattle.std.proofs.lemmas.List.{map-append}
use Rattle.lex_core.specs.declared.token.Tok.{Tok}
use Rattle.sexp_core.specs.declared.tree.Item.{Item}
use Rattle.sexp_core.specs.declared.tree.Item.TheVariants as item
use Rattle.sexp_core.specs.Items.{size, size_all, items_from, items_all, sexp_of, sexp_of-items_from}
use Rattle.sexp_core.specs.Sexp.{Sexp, Sexps, atom, list, nil, cons}
use Rattle.term_store.specs.Value.{unplaced, unplaced_all, unplaced_item}

mutual
  size-unplaced : (t : Sexp Tok) → size (unplaced t) ≡ size t
  size-unplaced (atom t) = refl
  size-unplaced (list at ts) = omega (arith, size_all-unplaced ts)

  size_all-unplaced : (ts : Sexps Tok) → size_all (unplaced_all ts) ≡ size_all ts
  size_all-unplaced nil = refl
  size_all-unplaced (cons t ts) = omega (arith, size-unplaced t, size_all-unplaced ts)

mutual
  items-unplaced : (t : Sexp Tok) (p : ℕ) → map unplaced_item (items_from p t) ≡ items_from p (unplaced t)
  items-unplaced (atom t) p = refl
  items-unplaced (list at ts) p =
      ap (λ is. item.Open (p + 1 + size_all ts) 0 ∷ is) (all_items-unplaced ts (p + 1))
      ∙ ap (λ n. item.Open (p + 1 + n) 0 ∷ items_all (p + 1) (unplaced_all ts)) (sym (size_all-unplaced ts))

  all_items-unplaced : (ts : Sexps Tok) (p : ℕ) → map unplaced_item (items_all p ts) ≡ items_all p (unplaced_all ts)
  all_items-unplaced nil p = refl
  all_items-unplaced (cons t ts) p =
      map-append unplaced_item (items_from p t) (items_all (p + size t) ts)
      ∙ ap (λ is. is ++ map unplaced_item (items_all (p + size t) ts)) (items-unplaced t p)
      ∙ ap (λ is. items_from p (unplaced t) ++ is) (all_items-unplaced ts (p + size t))
      ∙ ap (λ n. items_from p (unplaced t) ++ items_all (p + n) (unplaced_all ts)) (sym (size-unplaced t))

pub value_from_items : (a b : Sexp Tok) (xs ys : List Item) → xs ≡ items_from 0 a → ys ≡ items_from 0 b → map unplaced_item xs ≡ map unplaced_item ys → unplaced a ≡ unplaced b
value_from_items a b xs ys p q e =
    sym (sexp_of-items_from (unplaced a)) ∙ ap sexp_of (sym (items-unplaced a 0) ∙ ap (map unplaced_item) (sym p) ∙ e ∙ ap (map unplaced_item) q ∙ items-unplaced b 0) ∙ sexp_of-items_from (unplaced b)

pub items_from_value : (a b : Sexp Tok) (xs ys : List Item) → xs ≡ items_from 0 a → ys ≡ items_from 0 b → unplaced a ≡ unplaced b → map unplaced_item xs ≡ map unplaced_item ys
items_from_value a b xs ys p q e =
    ap (map unplaced_item) p ∙ items-unplaced a 0 ∙ ap (items_from 0) e ∙ sym (items-unplaced b 0) ∙ sym (ap (map unplaced_item) q)

pub ruleset value_words = (value_from_items, items_from_value)
