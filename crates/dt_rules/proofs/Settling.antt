-- Fields and constructors whose sorts are not in a list, one by one.
use Rattle.std.proofs.Common.{◌≡◌, ℕ, ◌+◌, ◌<◌, ◌≤◌, ◌↔◌, true, false, IsTrue, List, length, map, take, get_or, sym, ◌∙◌, subst, refl, inl, inr, arith}
use Rattle.std.proofs.lemmas.Bool.{false≢true}
use Rattle.std.specs.List.{Contains}
use Rattle.sort_store.specs.Instance.{inst}
use Rattle.sort_store.specs.Tree.{Sort, NumberedSort, tree}
use Rattle.term_store.specs.Command.{PlainConstructor, plain_constructor, plain_field}
use Rattle.term_store.specs.declared.command.Constructor.{Constructor}
use Rattle.term_store.specs.declared.command.Field.{Field}
use Rattle.dt_rules.specs.Settling.{HasNoFieldSort, HasConstructorWithout}
use Rattle.dt_rules.proofs.Gaining.{field_more, mapped, mapped_cases, mapped_all, all_fields}

pub apart_none : (fs : List Field) (args unsettled : List Sort) → HasNoFieldSort (map plain_field (take 0 fs)) args unsettled
apart_none fs args unsettled = λ s f c. omega (arith, f.1.1)

pub apart_more : (fs : List Field) (args unsettled : List Sort) (k : ℕ) (f : Field) (r : NumberedSort) → k < length fs → f ≡ get_or fs k f → tree r ≡ inst args (tree f.sort) → (Contains unsettled (tree r) → ⊥)
    → HasNoFieldSort (map plain_field (take k fs)) args unsettled → HasNoFieldSort (map plain_field (take (k + 1) fs)) args unsettled
apart_more fs args unsettled k f r l at same absent h = λ s p c. elim (field_more fs args k f l at s p) [ inl a ↦ h s a c | inr e ↦ absent (subst (Contains unsettled) (e ∙ sym same) c) ]

pub apart_found : (fs : List Field) (args unsettled : List Sort) (k : ℕ) (f : Field) (r : NumberedSort) → k < length fs → f ≡ get_or fs k f → tree r ≡ inst args (tree f.sort) → Contains unsettled (tree r)
    → IsTrue false ↔ HasNoFieldSort (map plain_field fs) args unsettled
apart_found fs args unsettled k f r l at same has = ((λ e. absurd (false≢true e)), λ h. absurd (h (tree r) (plain_field f, mapped plain_field fs k f l at, same) has))

pub apart_all : (fs : List Field) (args unsettled : List Sort) (k : ℕ) → length fs ≤ k → HasNoFieldSort (map plain_field (take k fs)) args unsettled → IsTrue true ↔ HasNoFieldSort (map plain_field fs) args unsettled
apart_all fs args unsettled k l h = ((λ e. λ s p c. h s (all_fields fs args k l s p) c), λ n. refl)

pub without_none : (cs : List Constructor) (args unsettled : List Sort) → HasConstructorWithout (map plain_constructor (take 0 cs)) args unsettled → ⊥
without_none cs args unsettled h = omega (arith, h.1.1)

pub without_more : (cs : List Constructor) (args unsettled : List Sort) (k : ℕ) (c : Constructor) → k < length cs → c ≡ get_or cs k c → (HasNoFieldSort (map plain_field c.fields) args unsettled → ⊥)
    → (HasConstructorWithout (map plain_constructor (take k cs)) args unsettled → ⊥) → HasConstructorWithout (map plain_constructor (take (k + 1) cs)) args unsettled → ⊥
without_more cs args unsettled k c l at not before (d, has, apart) =
    elim (mapped_cases plain_constructor cs k c d l at has) [ inl here ↦ before (d, here, apart) | inr same ↦ not (subst (λ (z : PlainConstructor). HasNoFieldSort z.fields args unsettled) same apart) ]

pub without_all : (cs : List Constructor) (args unsettled : List Sort) (k : ℕ) → length cs ≤ k → (HasConstructorWithout (map plain_constructor (take k cs)) args unsettled → ⊥)
    → IsTrue false ↔ HasConstructorWithout (map plain_constructor cs) args unsettled
without_all cs args unsettled k l none = ((λ e. absurd (false≢true e)), λ h. absurd (none (h.0, mapped_all plain_constructor cs k h.0 l h.1, h.2)))
