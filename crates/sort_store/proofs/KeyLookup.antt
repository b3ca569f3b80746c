-- What the derived `==` of keys says, and what a look-up finds by it.
use Rattle.std.proofs.Common.{◌≡◌, ℕ, suc, zero, Bool, true, false, List, [], ◌∷◌, refl, ap, sym, ◌∙◌, rules, Some, None, Option, cond}
use Rattle.std.specs.Map.{lookup}
use Rattle.std.specs.List.{slice_get}
use Rattle.sort_store.specs.declared.sort_key.SortKey.{SortKey}
use Rattle.sort_store.specs.Tree.{NumberedSort}
use Rattle.sort_store.specs.SortKeys.{IsSameKey, MapsTo, LacksKey}
use Rattle.sort_store.specs.contracts.sort_key.SortKeyPartialEq.TheImpl.{eq-value}

pub same_from_eq : (a b : SortKey) → eq-value.it a b ≡ true → IsSameKey a b
same_from_eq a b e = search rules

pub eq_from_same : (a b : SortKey) → IsSameKey a b → eq-value.it a b ≡ true
eq_from_same a b s = search rules

-- a look-up by a test
pub lookup_some : (test : SortKey → Bool) (es : List (SortKey × NumberedSort)) (r : NumberedSort) → lookup test es ≡ Some r → (k : ℕ) × (e : SortKey × NumberedSort) × (slice_get es k ≡ Some e) × (test e.0 ≡ true) × (e.1 ≡ r)
lookup_some test [] r h = cc
lookup_some test (e ∷ es) r h = by (test e.0) refl (lookup_some test es r)
  where
    by : (b : Bool) → test e.0 ≡ b → (lookup test es ≡ Some r → (k : ℕ) × (f : SortKey × NumberedSort) × (slice_get es k ≡ Some f) × (test f.0 ≡ true) × (f.1 ≡ r))
        → (k : ℕ) × (f : SortKey × NumberedSort) × (slice_get (e ∷ es) k ≡ Some f) × (test f.0 ≡ true) × (f.1 ≡ r)
    by true t rest = (0, e, refl, t, (let g : Some e.1 ≡ Some r = sym (ap (λ b. cond b (Some e.1) (lookup test es)) t) ∙ h in cc))
    by false t rest = let p = rest (sym (ap (λ b. cond b (Some e.1) (lookup test es)) t) ∙ h) in (suc p.0, p.1, p.2, p.3, p.4)

pub lookup_none : (test : SortKey → Bool) (es : List (SortKey × NumberedSort)) → lookup test es ≡ None → (k : ℕ) (e : SortKey × NumberedSort) → slice_get es k ≡ Some e → test e.0 ≡ true → ⊥
lookup_none test [] h k e g t = cc
lookup_none test (f ∷ es) h k e g t = by (test f.0) refl (lookup_none test es) k g
  where
    by : (b : Bool) → test f.0 ≡ b → (lookup test es ≡ None → (k : ℕ) (e : SortKey × NumberedSort) → slice_get es k ≡ Some e → test e.0 ≡ true → ⊥) → (k : ℕ) → slice_get (f ∷ es) k ≡ Some e → ⊥
    by true s rest k g = let j : Some f.1 ≡ None = sym (ap (λ b. cond b (Some f.1) (lookup test es)) s) ∙ h in cc
    by false s rest zero g = cc
    by false s rest (suc k) g = rest (sym (ap (λ b. cond b (Some f.1) (lookup test es)) s) ∙ h) k e g t

pub has_from_lookup : (es : List (SortKey × NumberedSort)) (key : SortKey) (r : NumberedSort) → lookup (eq-value.it key) es ≡ Some r → MapsTo es key r
has_from_lookup es key r h =
    let p = lookup_some (eq-value.it key) es r h in
    (p.0, p.1, p.2, same_from_eq key p.1.0 p.3, p.4)

pub lacks_from_lookup : (es : List (SortKey × NumberedSort)) (key : SortKey) → lookup (eq-value.it key) es ≡ None → LacksKey es key
lacks_from_lookup es key h k e g s = lookup_none (eq-value.it key) es h k e g (eq_from_same key e.0 s)

pub lookup_from_lacks : (es : List (SortKey × NumberedSort)) (key : SortKey) → LacksKey es key → lookup (eq-value.it key) es ≡ None
lookup_from_lacks es key h = by (lookup (eq-value.it key) es) refl
  where
    by : (o : Option NumberedSort) → lookup (eq-value.it key) es ≡ o → o ≡ None
    by None e = refl
    by (Some r) e = let p = has_from_lookup es key r e in absurd (h p.0 p.1 p.2 p.3)
