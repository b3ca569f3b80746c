-- Sorts that come into the list of members.
use Rattle.std.proofs.Common.{◌≡◌, ℕ, zero, suc, ◌+◌, ◌<◌, ◌≤◌, ◌⊎◌, ◌↔◌, List, [], ◌∷◌, ◌++◌, length, map, take, get_or, Some, Result, Ok, Err, refl, ap, sym, ◌∙◌, subst, inl, inr, arith, append_assoc, add-one, slice_get}
use Rattle.std.specs.Prelude.{OnOk}
use Rattle.std.specs.Result.{IsErrOf}
use Rattle.std.specs.List.{Contains}
use Rattle.std.proofs.lemmas.List.{append-nil, length-append, length-map, map-append, map_more, take_all}
use Rattle.std.proofs.lemmas.List.Elements.{Contains-append_left, Contains-push, Contains-push_cases, Contains-get_or}
use Rattle.sort_store.specs.declared.error.SortError.{SortError}
use Rattle.sort_store.specs.declared.head.Head.TheVariants as head
use Rattle.sort_store.specs.Instance.{inst}
use Rattle.sort_store.specs.Interned.{IsInterned, AllInterned, HasNoRepeats, Grows}
use Rattle.sort_store.specs.Tree.{Sort, sort, no_sorts, sorts, NumberedSort, tree, node_count, nodes_count}
use Rattle.sort_store.proofs.GrownStores.{all_interned_grown, all_interned_push}
use Rattle.sort_store.proofs.InstanceLaws.{all_interned_at}
use Rattle.sort_store.proofs.InternedSorts.{distinct_push}
use Rattle.term_store.specs.Command.{PlainConstructor, PlainDatatype, PlainField, plain_constructor, plain_datatype, plain_field}
use Rattle.term_store.specs.declared.command.Constructor.{Constructor}
use Rattle.term_store.specs.declared.command.Datatype.{Datatype}
use Rattle.term_store.specs.declared.command.Field.{Field}
use Rattle.dt_rules.specs.declared.error.DtError.{DtError}
use Rattle.dt_rules.specs.declared.error.DtError.TheVariants as error
use Rattle.dt_rules.specs.Groups.{param_sorts, own_sort, IsOwnSort, IsFieldSort, IsConstructorFieldSort}
use Rattle.dt_rules.specs.Unfolding.{IsMember, own, IsTooWide}
use Rattle.dt_rules.specs.Worklist.{AreMembers, Extends, HasAdded, HasGained, Gains}
use Rattle.dt_rules.proofs.Lists.{contains_map}

-- Lists that are filled in a loop.

pub taken_step : {X : Type 0} (xs : List X) (i : ℕ) (x : X) → slice_get xs i ≡ Some x → take (i + 1) xs ≡ take i xs ++ x ∷ []
taken_step xs i x e = rw add-one (by xs i e)
  where
    by : {X : Type 0} {x : X} (xs : List X) (i : ℕ) → slice_get xs i ≡ Some x → take (suc i) xs ≡ take i xs ++ x ∷ []
    by [] i e = cc
    by (y ∷ xs) zero e = cc
    by (y ∷ xs) (suc i) e = ap (λ z. y ∷ z) (by xs i e)

pub args_step : (old new parts : List NumberedSort) (i : ℕ) (r : NumberedSort) → old ≡ take i parts → slice_get parts i ≡ Some r → new ≡ old ++ r ∷ [] → new ≡ take (i + 1) parts
args_step old new parts i r e at put = put ∙ ap (λ z. z ++ r ∷ []) e ∙ sym (taken_step parts i r at)

pub params_step : (old new : List NumberedSort) (i : ℕ) (r : NumberedSort) → map tree old ≡ param_sorts i → tree r ≡ sort (head.Param i) no_sorts → new ≡ old ++ r ∷ [] → map tree new ≡ param_sorts (i + 1)
params_step old new i r e same put = rw add-one (ap (map tree) put ∙ map-append tree old (r ∷ []) ∙ ap (λ z. z ++ tree r ∷ []) e ∙ ap (λ z. param_sorts i ++ z ∷ []) same)

pub interned_step : (before after : List Sort) (old new : List NumberedSort) (r : NumberedSort) → Grows before after → AllInterned before old → IsInterned after r → new ≡ old ++ r ∷ [] → AllInterned after new
interned_step before after old new r g h k put = subst (AllInterned after) (sym put) (all_interned_push after old r (all_interned_grown before after old g h) k)

-- how many nodes the datatype at its own parameters has
nodes-append : (ss ts : List Sort) → nodes_count (sorts (ss ++ ts)) ≡ nodes_count (sorts ss) + nodes_count (sorts ts)
nodes-append [] ts = omega arith
nodes-append (s ∷ ss) ts = omega (arith, nodes-append ss ts)

param_nodes : (n : ℕ) → nodes_count (sorts (param_sorts n)) ≡ n
param_nodes zero = refl
param_nodes (suc n) = omega (arith, nodes-append (param_sorts n) (sort (head.Param n) no_sorts ∷ []), param_nodes n)

pub own_size : (t : PlainDatatype) → node_count (own_sort t) ≡ length t.params + 1
own_size t = omega (arith, param_nodes (length t.params))

pub own_large : (t : PlainDatatype) (ps : List ℕ) → ps ≡ t.params → 1000 ≤ length ps → 1000 < node_count (own_sort t)
own_large t ps e l = omega (arith, own_size t, ap length e, l)

-- Members.

within : (m n : ℕ) → (n < m → ⊥) → m ≤ n
within zero n f = omega arith
within (suc m) zero f = absurd (f (omega arith))
within (suc m) (suc n) f = omega (arith, within m n (λ h. f (omega (arith, h))))

pub not_large : (r : NumberedSort) (n : ℕ) → (IsErrOf (Ok r) SortError.TooLarge ↔ (1000 < n)) → n ≤ 1000
not_large r n h = within n 1000 (λ l. by (h.1 l))
  where
    by : Ok r ≡ Err SortError.TooLarge → ⊥
    by e = cc

module _ (ts group : List PlainDatatype) where
  pub members_grown : (before after : List Sort) (rs : List NumberedSort) → Grows before after → AreMembers ts group before rs → AreMembers ts group after rs
  members_grown before after rs g h =
      record { interned = all_interned_grown before after rs g h.interned; members = h.members; distinct = h.distinct; few = h.few; small = h.small }

  tree_push : (old : List NumberedSort) (r : NumberedSort) → map tree (old ++ r ∷ []) ≡ map tree old ++ tree r ∷ []
  tree_push old r = map-append tree old (r ∷ [])

  each_pushed : (P : Sort → Type 0) (old : List NumberedSort) (r : NumberedSort) → ((s : Sort) → Contains (map tree old) s → P s) → P (tree r) → (s : Sort) → Contains (map tree old ++ tree r ∷ []) s → P s
  each_pushed P old r h k s c = elim (Contains-push_cases (map tree old) (tree r) s c) [ inl d ↦ h s d | inr e ↦ subst P e k ]

  module _ (store : List Sort) (old : List NumberedSort) (r : NumberedSort) (h : AreMembers ts group store old) (m : IsMember ts group (tree r)) where
    pushed : IsInterned store r → node_count (tree r) ≤ 1000 → (Contains (map tree old) (tree r) → ⊥) → length (old ++ r ∷ []) ≤ 2000 → AreMembers ts group store (old ++ r ∷ [])
    pushed k l absent few = record {
      interned = all_interned_push store old r h.interned k;
      members = subst (λ z. (s : Sort) → Contains z s → IsMember ts group s) (sym (tree_push old r)) (each_pushed (IsMember ts group) old r h.members m);
      distinct = subst HasNoRepeats (sym (tree_push old r)) (distinct_push (map tree old) (tree r) h.distinct absent);
      few = few;
      small = subst (λ z. (s : Sort) → Contains z s → node_count s ≤ 1000) (sym (tree_push old r)) (each_pushed (λ s. node_count s ≤ 1000) old r h.small l);
    }

    gained_one : (new : List NumberedSort) → IsInterned store r → node_count (tree r) ≤ 1000 → HasAdded old new r → HasGained ts group (λ s. s ≡ tree r) store old new
    gained_one new k l (inl p) = record {
      still = subst (AreMembers ts group store) (sym p.1) h;
      more = ([], p.1 ∙ sym (append-nil old));
      has = λ s e. subst (λ z. Contains (map tree z) s) (sym p.1) (subst (Contains (map tree old)) (sym e) p.0);
    }
    gained_one new k l (inr p) = record {
      still = subst (AreMembers ts group store) (sym p.1) (pushed k l p.0 (subst (λ z. length z ≤ 2000) p.1 p.2));
      more = (r ∷ [], p.1);
      has = λ s e. subst (λ z. Contains (map tree z) s) (sym p.1) (subst (λ z. Contains z s) (sym (tree_push old r)) (subst (Contains (map tree old ++ tree r ∷ [])) (sym e) (Contains-push (map tree old) (tree r))));
    }

    too_many : (Contains (map tree old) (tree r) → ⊥) → 2000 ≤ length old → IsTooWide ts group
    too_many absent many = inl (record {
      some = map tree old ++ tree r ∷ [];
      members = each_pushed (IsMember ts group) old r h.members m;
      distinct = distinct_push (map tree old) (tree r) h.distinct absent;
      many = omega (arith, length-append (map tree old) (tree r ∷ []), length-map old tree, many);
    })

    pub add_gains : (result : Result (Unit {0}) DtError) (new : List NumberedSort) → IsInterned store r → node_count (tree r) ≤ 1000 → OnOk result (HasAdded old new r)
        → (result ≡ Err error.TooWide → (Contains (map tree old) (tree r) → ⊥) × (2000 ≤ length old)) → ((i : ℕ) → result ≡ Err (error.NotSettled i) → ⊥)
        → Gains result ts group (λ s. s ≡ tree r) store old new
    add_gains (Ok u) new k l ok wide settled = gained_one new k l ok
    add_gains (Err error.TooWide) new k l ok wide settled = too_many (wide refl).0 (wide refl).1
    add_gains (Err (error.NotSettled i)) new k l ok wide settled = settled i refl
    add_gains (Err error.NoMemory) new k l ok wide settled = tt

  pub gains_same : (P Q : Sort → Type 0) (result : Result (Unit {0}) DtError) (store : List Sort) (old new : List NumberedSort) → ((s : Sort) → Q s → P s) → Gains result ts group P store old new → Gains result ts group Q store old new
  gains_same P Q (Ok u) store old new f g = record { still = g.still; more = g.more; has = λ s q. g.has s (f s q) }
  gains_same P Q (Err error.TooWide) store old new f g = g
  gains_same P Q (Err (error.NotSettled i)) store old new f g = g
  gains_same P Q (Err error.NoMemory) store old new f g = tt

  pub gains_fail : (P Q : Sort → Type 0) (e : DtError) (store after : List Sort) (old new start end : List NumberedSort) → Gains (Err e) ts group P store old new → Gains (Err e) ts group Q after start end
  gains_fail P Q error.TooWide store after old new start end g = g
  gains_fail P Q (error.NotSettled i) store after old new start end g = g
  gains_fail P Q error.NoMemory store after old new start end g = tt

  pub gained_none : (P : Sort → Type 0) (store : List Sort) (rs : List NumberedSort) → AreMembers ts group store rs → ((s : Sort) → P s → ⊥) → HasGained ts group P store rs rs
  gained_none P store rs h none = record { still = h; more = ([], sym (append-nil rs)); has = λ s p. absurd (none s p) }

  pub still_has : (old new : List NumberedSort) (s : Sort) → Extends old new → Contains (map tree old) s → Contains (map tree new) s
  still_has old new s e c = subst (λ z. Contains (map tree z) s) (sym e.1) (subst (λ z. Contains z s) (sym (map-append tree old e.0)) (Contains-append_left (map tree old) (map tree e.0) s c))

  pub gained_more : (P Q R : Sort → Type 0) (before after : List Sort) (old mid new : List NumberedSort) → HasGained ts group P before old mid → HasGained ts group Q after mid new → ((s : Sort) → R s → P s ⊎ Q s)
      → HasGained ts group R after old new
  gained_more P Q R before after old mid new p q f = record {
    still = q.still;
    more = (p.more.0 ++ q.more.0, q.more.1 ∙ ap (λ z. z ++ q.more.0) p.more.1 ∙ append_assoc old p.more.0 q.more.0);
    has = λ s r. elim (f s r) [ inl a ↦ still_has mid new s q.more (p.has s a) | inr b ↦ q.has s b ];
  }

-- an item at a place, in the list and where each item is replaced
pub element : {X : Type 0} (xs : List X) (k : ℕ) (x : X) → k < length xs → x ≡ get_or xs k x → Contains xs x
element xs k x l at = subst (Contains xs) (sym at) (Contains-get_or xs k x l)

pub mapped : {X Y : Type 0} (f : X → Y) (xs : List X) (k : ℕ) (x : X) → k < length xs → x ≡ get_or xs k x → Contains (map f xs) (f x)
mapped f xs k x l at = contains_map f xs x (element xs k x l at)

-- what is among the items so far and one more
pub mapped_cases : {X Y : Type 0} (f : X → Y) (xs : List X) (k : ℕ) (x : X) (y : Y) → k < length xs → x ≡ get_or xs k x → Contains (map f (take (k + 1) xs)) y → Contains (map f (take k xs)) y ⊎ (y ≡ f x)
mapped_cases f xs k x y l at c =
    elim (Contains-push_cases (map f (take k xs)) (f (get_or xs k x)) y (subst (λ z. Contains z y) (map_more f xs k x l) c)) [
      | inl d ↦ inl d
      | inr same ↦ inr (sym same ∙ sym (ap f at))
    ]

pub mapped_all : {X Y : Type 0} (f : X → Y) (xs : List X) (k : ℕ) (y : Y) → length xs ≤ k → Contains (map f xs) y → Contains (map f (take k xs)) y
mapped_all f xs k y l c = subst (λ z. Contains (map f z) y) (sym (take_all k xs l)) c

-- the sorts of the fields so far, and of one more
pub no_field : (fs : List Field) (args : List Sort) (s : Sort) → IsFieldSort (map plain_field (take 0 fs)) args s → ⊥
no_field fs args s (f, c, e) = omega (arith, c.1)

pub field_more : (fs : List Field) (args : List Sort) (k : ℕ) (f : Field) → k < length fs → f ≡ get_or fs k f → (s : Sort) → IsFieldSort (map plain_field (take (k + 1) fs)) args s
    → IsFieldSort (map plain_field (take k fs)) args s ⊎ (s ≡ inst args (tree f.sort))
field_more fs args k f l at s (g, c, e) = elim (mapped_cases plain_field fs k f g l at c) [ inl d ↦ inl (g, d, e) | inr same ↦ inr (e ∙ ap (λ (z : PlainField). inst args z.sort) same) ]

pub all_fields : (fs : List Field) (args : List Sort) (k : ℕ) → length fs ≤ k → (s : Sort) → IsFieldSort (map plain_field fs) args s → IsFieldSort (map plain_field (take k fs)) args s
all_fields fs args k l s (f, has, e) = (f, mapped_all plain_field fs k f l has, e)

-- .. and so for the constructors
pub no_constructor : (cs : List Constructor) (args : List Sort) (s : Sort) → IsConstructorFieldSort (map plain_constructor (take 0 cs)) args s → ⊥
no_constructor cs args s (c, has, f) = omega (arith, has.1)

pub constructor_more : (cs : List Constructor) (args : List Sort) (k : ℕ) (c : Constructor) → k < length cs → c ≡ get_or cs k c → (s : Sort) → IsConstructorFieldSort (map plain_constructor (take (k + 1) cs)) args s
    → IsConstructorFieldSort (map plain_constructor (take k cs)) args s ⊎ IsFieldSort (map plain_field c.fields) args s
constructor_more cs args k c l at s (d, has, f) = elim (mapped_cases plain_constructor cs k c d l at has) [ inl h ↦ inl (d, h, f) | inr same ↦ inr (subst (λ (z : PlainConstructor). IsFieldSort z.fields args s) same f) ]

pub all_constructors : (cs : List Constructor) (args : List Sort) (k : ℕ) → length cs ≤ k → (s : Sort) → IsConstructorFieldSort (map plain_constructor cs) args s → IsConstructorFieldSort (map plain_constructor (take k cs)) args s
all_constructors cs args k l s (c, has, f) = (c, mapped_all plain_constructor cs k c l has, f)

-- .. and so for the sorts of a list
pub no_sort : (rs : List NumberedSort) (s : Sort) → Contains (map tree (take 0 rs)) s → ⊥
no_sort rs s c = omega (arith, c.1)

pub sort_more : (rs : List NumberedSort) (k : ℕ) (r : NumberedSort) → k < length rs → r ≡ get_or rs k r → (s : Sort) → Contains (map tree (take (k + 1) rs)) s → Contains (map tree (take k rs)) s ⊎ (s ≡ tree r)
sort_more rs k r l at s c = mapped_cases tree rs k r s l at c

pub sort_at : (rs : List NumberedSort) (k : ℕ) (r : NumberedSort) → k < length rs → r ≡ get_or rs k r → Contains (map tree rs) (tree r)
sort_at rs k r l at = mapped tree rs k r l at

pub all_sorts : (rs : List NumberedSort) (k : ℕ) → length rs ≤ k → (s : Sort) → Contains (map tree rs) s → Contains (map tree (take k rs)) s
all_sorts rs k l s c = mapped_all tree rs k s l c

pub interned_copy : (store : List Sort) (rs : List NumberedSort) (k : ℕ) (r copy : NumberedSort) → AllInterned store rs → k < length rs → r ≡ get_or rs k r → copy ≡ r → IsInterned store copy
interned_copy store rs k r copy h l at same = subst (IsInterned store) (sym (same ∙ at)) (all_interned_at store rs k r l h)

pub gained_ok : (ts group : List PlainDatatype) (P : Sort → Type 0) (result : Result (Unit {0}) DtError) (store : List Sort) (old new : List NumberedSort) (u : Unit {0}) → result ≡ Ok u → Gains result ts group P store old new
    → HasGained ts group P store old new
gained_ok ts group P result store old new u is g = subst (λ z. Gains z ts group P store old new) is g

pub gains_failed : (ts group : List PlainDatatype) (P : Sort → Type 0) (result : Result (Unit {0}) DtError) (store : List Sort) (old new : List NumberedSort) (e : DtError) → result ≡ Err e → Gains result ts group P store old new
    → Gains (Err e) ts group P store old new
gains_failed ts group P result store old new e is g = subst (λ z. Gains z ts group P store old new) is g

-- the own sorts of the datatypes so far, and of one more
pub own_more : (ts : List Datatype) (k : ℕ) (t : Datatype) → k < length ts → t ≡ get_or ts k t → (s : Sort) → IsOwnSort (map plain_datatype (take (k + 1) ts)) s
    → IsOwnSort (map plain_datatype (take k ts)) s ⊎ (s ≡ own_sort (plain_datatype t))
own_more ts k t l at s (u, has, e) = elim (mapped_cases plain_datatype ts k t u l at has) [ inl d ↦ inl (u, d, e) | inr same ↦ inr (e ∙ ap own_sort same) ]

pub all_own : (ts : List Datatype) (k : ℕ) → length ts ≤ k → (s : Sort) → IsOwnSort (map plain_datatype ts) s → IsOwnSort (map plain_datatype (take k ts)) s
all_own ts k l s (t, has, e) = (t, mapped_all plain_datatype ts k t l has, e)

pub own_member : (ts group : List PlainDatatype) (t : PlainDatatype) → Contains group t → IsMember ts group (own_sort t)
own_member ts group t c = own t c
