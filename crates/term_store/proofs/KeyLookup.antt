-- What the derived `==` of keys says, and what a look-up finds by it.
use Rattle.std.proofs.Common.{◌≡◌, ℕ, suc, zero, Bool, true, false, List, [], ◌∷◌, refl, ap, sym, ◌∙◌, rules, Some, None, Option, cond}
use Rattle.std.specs.Map.{lookup}
use Rattle.std.specs.List.{slice_get}
use Rattle.term_store.specs.declared.key.TermKey.{TermKey}
use Rattle.term_store.specs.Term.{NumberedTerm}
use Rattle.term_store.specs.TermKeys.{Entries, IsAlike, IsSameKey, MapsTo, LacksKey}
use Rattle.term_store.specs.contracts.key.TermKeyPartialEq.TheImpl.{eq-value}

pub kind_from_eq : (a b : TermKey) → eq-value.it a b ≡ true → a.kind ≡ b.kind
kind_from_eq a b e = search rules

pub name_from_eq : (a b : TermKey) → eq-value.it a b ≡ true → a.name ≡ b.name
name_from_eq a b e = search rules

pub numbers_from_eq : (a b : TermKey) → eq-value.it a b ≡ true → a.numbers.items ≡ b.numbers.items
numbers_from_eq a b e = search rules

pub ordinal_from_eq : (a b : TermKey) → eq-value.it a b ≡ true → a.ordinal ≡ b.ordinal
ordinal_from_eq a b e = search rules

pub same_from_eq : (a b : TermKey) → eq-value.it a b ≡ true → IsSameKey a b
same_from_eq a b e = record {
  alike = record { kinds = kind_from_eq a b e; names = name_from_eq a b e; counted = numbers_from_eq a b e };
  ordinals = ordinal_from_eq a b e;
}

eq_from_parts : (a b : TermKey) → a.kind ≡ b.kind → a.name ≡ b.name → a.numbers.items ≡ b.numbers.items → a.ordinal ≡ b.ordinal → eq-value.it a b ≡ true
eq_from_parts a b k n m o = search rules

pub eq_from_same : (a b : TermKey) → IsSameKey a b → eq-value.it a b ≡ true
eq_from_same a b s = eq_from_parts a b s.alike.kinds s.alike.names s.alike.counted s.ordinals

-- a look-up by a test
lookup_some : (test : TermKey → Bool) (es : Entries) (t : NumberedTerm) → lookup test es ≡ Some t → (k : ℕ) × (e : TermKey × NumberedTerm) × (slice_get es k ≡ Some e) × (test e.0 ≡ true) × (e.1 ≡ t)
lookup_some test [] t h = cc
lookup_some test (e ∷ es) t h = by (test e.0) refl (lookup_some test es t)
  where
    by : (b : Bool) → test e.0 ≡ b → (lookup test es ≡ Some t → (k : ℕ) × (f : TermKey × NumberedTerm) × (slice_get es k ≡ Some f) × (test f.0 ≡ true) × (f.1 ≡ t))
        → (k : ℕ) × (f : TermKey × NumberedTerm) × (slice_get (e ∷ es) k ≡ Some f) × (test f.0 ≡ true) × (f.1 ≡ t)
    by true s rest = (0, e, refl, s, (let g : Some e.1 ≡ Some t = sym (ap (λ b. cond b (Some e.1) (lookup test es)) s) ∙ h in cc))
    by false s rest = let p = rest (sym (ap (λ b. cond b (Some e.1) (lookup test es)) s) ∙ h) in (suc p.0, p.1, p.2, p.3, p.4)

lookup_none : (test : TermKey → Bool) (es : Entries) → lookup test es ≡ None → (k : ℕ) (e : TermKey × NumberedTerm) → slice_get es k ≡ Some e → test e.0 ≡ true → ⊥
lookup_none test [] h k e g t = cc
lookup_none test (f ∷ es) h k e g t = by (test f.0) refl (lookup_none test es) k g
  where
    by : (b : Bool) → test f.0 ≡ b → (lookup test es ≡ None → (k : ℕ) (e : TermKey × NumberedTerm) → slice_get es k ≡ Some e → test e.0 ≡ true → ⊥) → (k : ℕ) → slice_get (f ∷ es) k ≡ Some e → ⊥
    by true s rest k g = let j : Some f.1 ≡ None = sym (ap (λ b. cond b (Some f.1) (lookup test es)) s) ∙ h in cc
    by false s rest zero g = cc
    by false s rest (suc k) g = rest (sym (ap (λ b. cond b (Some f.1) (lookup test es)) s) ∙ h) k e g t

pub maps_from_lookup : (es : Entries) (key : TermKey) (t : NumberedTerm) → lookup (eq-value.it key) es ≡ Some t → MapsTo es key t
maps_from_lookup es key t h =
    let p = lookup_some (eq-value.it key) es t h in
    record { place = p.0; entry = p.1; stands = p.2; same = same_from_eq key p.1.0 p.3; value = p.4 }

pub lacks_from_lookup : (es : Entries) (key : TermKey) → lookup (eq-value.it key) es ≡ None → LacksKey es key
lacks_from_lookup es key h k e g s = lookup_none (eq-value.it key) es h k e g (eq_from_same key e.0 s)

pub lookup_from_lacks : (es : Entries) (key : TermKey) → LacksKey es key → lookup (eq-value.it key) es ≡ None
lookup_from_lacks es key h = by (lookup (eq-value.it key) es) refl
  where
    by : (o : Option NumberedTerm) → lookup (eq-value.it key) es ≡ o → o ≡ None
    by None e = refl
    by (Some t) e = let p = maps_from_lookup es key t e in absurd (h p.place p.entry p.stands p.same)
