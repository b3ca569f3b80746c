-- What is kept under numbers that are given one after the other.
use Rattle.std.proofs.Common.{◌≡◌, ℕ, zero, suc, ◌+◌, ◌<◌, ◌≤◌, ◌==◌, cond, eq-eqb, List, [], ◌∷◌, ◌++◌, length, map, take, Option, Some, None, refl, ap, sym, ◌∙◌, subst, arith, append_assoc, slice_index_or, inl, inr}
use Rattle.std.specs.Option.{option_map}
use Rattle.std.specs.List.{Contains}
use Rattle.std.proofs.lemmas.List.Elements.{All-contains}
use Rattle.std.proofs.lemmas.Bool.{cases_Bool, ne_eqb}
use Rattle.term_store.specs.Command.{PlainDatatype, PlainDef, plain_datatype, plain_def}
use Rattle.term_store.specs.Declarations.{Declaration, sort_symbol, function_symbol, datatype, constructor_of, selector_of, definition, term_name, number_given}
use Rattle.term_store.specs.Definitions.{Definitions, IsUnused, datatype_in, def_in}
use Rattle.term_store.specs.Script.{Kept}
use Rattle.term_store.specs.SoundScript.{KeepsDeclared, named_def}
use Rattle.term_store.specs.declared.command.Datatype.{Datatype}
use Rattle.term_store.specs.declared.command.Def.{Def}
use Rattle.dt_rules.specs.Groups.{numbered}
use Rattle.typer.proofs.LiveDeclarations.{Each, all_of_each, each_of_all}
use Rattle.script_core.specs.Keeping.{EachDatatypeUnused, EachUnused, KeepsBelow, KeepsEarlier, KeepsGroupPart, KeepsPart, datatypes_in, defined_by, defined_in, with_datatypes, with_some}
use Rattle.script_core.proofs.SoundNumbers.{AscendFrom, AscendTo, ascend_span}

-- the thing with this number
abbrev look : {X : Type 0} → (X → ℕ) → List X → ℕ → Option X
look number [] n = None
look number (x ∷ xs) n = cond (n == number x) (Some x) (look number xs n)

abbrev with_one : {X : Type 0} → Option X → List X → List X
with_one None xs = xs
with_one (Some x) xs = x ∷ xs

-- the things that declarations are
abbrev those_in : {X : Type 0} → (Declaration → Option X) → List Declaration → List X
those_in its [] = []
those_in its (d ∷ ds) = with_one (its d) (those_in its ds)

each_raised : {X : Type 0} (P Q : X → Type 0) (xs : List X) → ((x : X) → P x → Q x) → Each P xs → Each Q xs
each_raised P Q [] f h = tt
each_raised P Q (x ∷ xs) f h = (f x h.0, each_raised P Q xs f h.1)

each_joined : {X : Type 0} (P : X → Type 0) (xs ys : List X) → Each P xs → Each P ys → Each P (xs ++ ys)
each_joined P [] ys h k = k
each_joined P (x ∷ xs) ys h k = (h.0, each_joined P xs ys h.1 k)

-- Things with numbers.
module _ {X : Type 0} (number : X → ℕ) where
  other_number : (k m : ℕ) (o p : Option X) → (k ≡ m → ⊥) → cond (k == m) o p ≡ p
  other_number k m o p different = ap (λ b. cond b o p) (ne_eqb k m different)

  own_option : (k m : ℕ) (o p : Option X) → k ≡ m → cond (k == m) o p ≡ o
  own_option k m o p same = ap (λ b. cond b o p) (eq-eqb k m same)

  -- things with lower numbers are passed over
  passed : (xs ys : List X) (k : ℕ) → Each (λ x. number x < k) xs → look number (xs ++ ys) k ≡ look number ys k
  passed [] ys k h = refl
  passed (x ∷ xs) ys k h = other_number k (number x) (Some x) (look number (xs ++ ys) k) (λ e. omega (arith, h.0, e)) ∙ passed xs ys k h.1

  none_kept : (xs : List X) (k : ℕ) → Each (λ x. number x < k) xs → look number xs k ≡ None
  none_kept [] k h = refl
  none_kept (x ∷ xs) k h = other_number k (number x) (Some x) (look number xs k) (λ e. omega (arith, h.0, e)) ∙ none_kept xs k h.1

  -- .. and things with higher ones play no part
  found_before : (xs ys : List X) (k : ℕ) → Each (λ x. k < number x) ys → look number (xs ++ ys) k ≡ look number xs k
  found_before [] [] k h = refl
  found_before [] (y ∷ ys) k h = other_number k (number y) (Some y) (look number ys k) (λ e. omega (arith, h.0, e)) ∙ found_before [] ys k h.1
  found_before (x ∷ xs) ys k h = ap (λ o. cond (k == number x) (Some x) o) (found_before xs ys k h)

  past_first : (xs : List X) (n i : ℕ) → AscendFrom n (map number xs) → Each (λ x. n ≤ number x) (take i xs)
  past_first xs n zero h = tt
  past_first [] n (suc i) h = tt
  past_first (x ∷ xs) n (suc i) h = (h.0, each_raised (λ y. number x + 1 ≤ number y) (λ y. n ≤ number y) (take i xs) (λ y l. omega (arith, l, h.0)) (past_first xs (number x + 1) i h.1))

  earlier_found : (kept xs : List X) (n i k : ℕ) → AscendFrom n (map number xs) → k < n → look number (kept ++ take i xs) k ≡ look number kept k
  earlier_found kept xs n i k h l = found_before kept (take i xs) k (each_raised (λ x. n ≤ number x) (λ x. k < number x) (take i xs) (λ x m. omega (arith, m, l)) (past_first xs n i h))

  below_later : (kept : List X) (n k : ℕ) → n ≤ k → Each (λ x. number x < n) kept → Each (λ x. number x < k) kept
  below_later kept n k l h = each_raised (λ x. number x < n) (λ x. number x < k) kept (λ x m. omega (arith, m, l)) h

  -- nothing is kept under the number of a thing when its turn comes
  none_next : (kept xs : List X) (n : ℕ) → Each (λ x. number x < n) kept → AscendFrom n (map number xs) → (i : ℕ) (x : X) → i < length xs → x ≡ slice_index_or xs i x → (look number (kept ++ take i xs) (number x) ≡ None) × (n ≤ number x)
  none_next kept [] n below ascend i x few at = absurd (omega (arith, few))
  none_next kept (y ∷ xs) n below ascend zero x few at = (
    none_kept (kept ++ []) (number x) (each_joined (λ z. number z < number x) kept [] (below_later kept n (number x) (omega (arith, ascend.0, ap number at)) below) tt),
    omega (arith, ascend.0, ap number at),
  )
  none_next kept (y ∷ xs) n below ascend (suc i) x few at =
      let later = none_next (kept ++ y ∷ []) xs (number y + 1) (each_joined (λ z. number z < number y + 1) kept (y ∷ []) (below_later kept n (number y + 1) (omega (arith, ascend.0)) below) (omega arith, tt)) ascend.1 i x (omega (arith, few)) at in
      (subst (λ (zs : List X). look number zs (number x) ≡ None) (append_assoc kept (y ∷ []) (take i xs)) later.0, omega (arith, ascend.0, later.1))

  -- Each declaration that is a thing has its number.
  module _ (its : Declaration → Option X) (own_number : (d : Declaration) (x : X) → its d ≡ Some x → number x ≡ number_given d) where
    -- no thing has a number below the first one
    none_below : (ds : List Declaration) (n k : ℕ) → AscendFrom n (map number_given ds) → k < n → look number (those_in its ds) k ≡ None
    none_below [] n k h l = refl
    none_below (d ∷ ds) n k h l = skip (its d) refl (none_below ds (number_given d + 1) k h.1 (omega (arith, l, h.0)))
      where
        skip : (o : Option X) → its d ≡ o → look number (those_in its ds) k ≡ None → look number (with_one o (those_in its ds)) k ≡ None
        skip None e rest = rest
        skip (Some x) e rest = other_number k (number x) (Some x) (look number (those_in its ds) k) (λ same. omega (arith, same, own_number d x e, l, h.0)) ∙ rest

    one_joined : (front : List X) (o : Option X) (xs : List X) → (front ++ with_one o []) ++ xs ≡ front ++ with_one o xs
    one_joined front None xs = append_assoc front [] xs
    one_joined front (Some d) xs = append_assoc front (d ∷ []) xs

    -- each declaration has its own thing, or none, under its number
    each_own : (front : List X) (ds : List Declaration) (n : ℕ) → AscendFrom n (map number_given ds) → Each (λ x. number x < n) front → Each (λ d. look number (front ++ those_in its ds) (number_given d) ≡ its d) ds
    each_own front [] n h below = tt
    each_own front (d ∷ ds) n h below = (
      passed front (with_one (its d) (those_in its ds)) (number_given d) (below_later front n (number_given d) h.0 below) ∙ here (its d) refl,
      subst (λ (xs : List X). Each (λ e. look number xs (number_given e) ≡ its e) ds) (one_joined front (its d) (those_in its ds))
          (each_own (front ++ with_one (its d) []) ds (number_given d + 1) h.1
          (each_joined (λ x. number x < number_given d + 1) front (with_one (its d) []) (below_later front n (number_given d + 1) (omega (arith, h.0)) below) (last (its d) refl))),
    )
      where
        here : (o : Option X) → its d ≡ o → look number (with_one o (those_in its ds)) (number_given d) ≡ o
        here None e = none_below ds (number_given d + 1) (number_given d) h.1 (omega arith)
        here (Some x) e = own_option (number_given d) (number x) (Some x) (look number (those_in its ds) (number_given d)) (sym (own_number d x e))

        last : (o : Option X) → its d ≡ o → Each (λ x. number x < number_given d + 1) (with_one o [])
        last None e = tt
        last (Some x) e = (omega (arith, own_number d x e), tt)

    -- all have numbers below the next one
    those_below : (ds : List Declaration) (n top : ℕ) → AscendTo n (map number_given ds) top → Each (λ x. number x < top) (those_in its ds)
    those_below [] n top h = tt
    those_below (d ∷ ds) n top h = add (its d) refl (those_below ds (number_given d + 1) top h.1)
      where
        add : (o : Option X) → its d ≡ o → Each (λ x. number x < top) (those_in its ds) → Each (λ x. number x < top) (with_one o (those_in its ds))
        add None e rest = rest
        add (Some x) e rest = (omega (arith, own_number d x e, ascend_span (number_given d + 1) (map number_given ds) top h.1), rest)

-- Definitions and datatypes are such things, by their trees too.
abbrev def_number : Def → ℕ
def_number d = d.no.0

abbrev plain_def_number : PlainDef → ℕ
plain_def_number d = d.no.0

abbrev datatype_number : Datatype → ℕ
datatype_number t = t.no.0

abbrev plain_datatype_number : PlainDatatype → ℕ
plain_datatype_number t = t.no.0

-- the datatype that a declaration is
abbrev datatype_by : Declaration → Option PlainDatatype
datatype_by (datatype t) = Some t
datatype_by d = None

own_def : (d : Declaration) (e : PlainDef) → defined_by d ≡ Some e → plain_def_number e ≡ number_given d
own_def (definition x) e h = let same : x ≡ e = cc in ap plain_def_number (sym same)
own_def (term_name n m t) e h = let same : named_def n m t ≡ e = cc in ap plain_def_number (sym same)
own_def (sort_symbol n m a) e h = cc
own_def (function_symbol n m args r) e h = cc
own_def (datatype t) e h = cc
own_def (constructor_of t c) e h = cc
own_def (selector_of t c f) e h = cc

own_datatype : (d : Declaration) (e : PlainDatatype) → datatype_by d ≡ Some e → plain_datatype_number e ≡ number_given d
own_datatype (datatype t) e h = let same : t ≡ e = cc in ap plain_datatype_number (sym same)
own_datatype (sort_symbol n m a) e h = cc
own_datatype (function_symbol n m args r) e h = cc
own_datatype (constructor_of t c) e h = cc
own_datatype (selector_of t c f) e h = cc
own_datatype (definition d) e h = cc
own_datatype (term_name n m t) e h = cc

those_defined : (ds : List Declaration) → defined_in ds ≡ those_in defined_by ds
those_defined [] = refl
those_defined (d ∷ ds) = put (defined_by d) (those_defined ds)
  where
    put : (o : Option PlainDef) → defined_in ds ≡ those_in defined_by ds → with_some o (defined_in ds) ≡ with_one o (those_in defined_by ds)
    put None e = e
    put (Some x) e = ap (λ xs. x ∷ xs) e

those_datatypes : (ds : List Declaration) → datatypes_in ds ≡ those_in datatype_by ds
those_datatypes [] = refl
those_datatypes (datatype t ∷ ds) = ap (λ ts. t ∷ ts) (those_datatypes ds)
those_datatypes (sort_symbol n m a ∷ ds) = those_datatypes ds
those_datatypes (function_symbol n m args r ∷ ds) = those_datatypes ds
those_datatypes (constructor_of t c ∷ ds) = those_datatypes ds
those_datatypes (selector_of t c f ∷ ds) = those_datatypes ds
those_datatypes (definition d ∷ ds) = those_datatypes ds
those_datatypes (term_name n m t ∷ ds) = those_datatypes ds

def_found : (ds : List Def) (n : ℕ) → def_in ds n ≡ look def_number ds n
def_found [] n = refl
def_found (d ∷ ds) n = ap (λ o. cond (n == d.no.0) (Some d) o) (def_found ds n)

datatype_found : (ts : List Datatype) (n : ℕ) → datatype_in ts n ≡ look datatype_number ts n
datatype_found [] n = refl
datatype_found (t ∷ ts) n = ap (λ o. cond (n == t.no.0) (Some t) o) (datatype_found ts n)

plain_def_found : (ds : List Def) (n : ℕ) → option_map plain_def (def_in ds n) ≡ look plain_def_number (map plain_def ds) n
plain_def_found [] n = refl
plain_def_found (d ∷ ds) n = elim (cases_Bool (n == d.no.0)) [
  | inl same ↦ rw same refl
  | inr other ↦ rw other (plain_def_found ds n)
]

plain_datatype_found : (ts : List Datatype) (n : ℕ) → option_map plain_datatype (datatype_in ts n) ≡ look plain_datatype_number (map plain_datatype ts) n
plain_datatype_found [] n = refl
plain_datatype_found (t ∷ ts) n = elim (cases_Bool (n == t.no.0)) [
  | inl same ↦ rw same refl
  | inr other ↦ rw other (plain_datatype_found ts n)
]

none_of_map : {X Y : Type 0} (f : X → Y) (o : Option X) → option_map f o ≡ None → o ≡ None
none_of_map f None e = refl
none_of_map f (Some d) e = cc

unused_by : (kept : Definitions) (n : ℕ) → option_map plain_def (def_in kept.defs n) ≡ None → option_map plain_datatype (datatype_in kept.datatypes n) ≡ None → IsUnused kept (record { 0 = n })
unused_by kept n e f = record { no_def = none_of_map plain_def (def_in kept.defs n) e; no_datatype = none_of_map plain_datatype (datatype_in kept.datatypes n) f }

kept_declared : (kept : Definitions) (d : Declaration) → option_map plain_def (def_in kept.defs (number_given d)) ≡ defined_by d → option_map plain_datatype (datatype_in kept.datatypes (number_given d)) ≡ datatype_by d → KeepsDeclared kept d
kept_declared kept (sort_symbol n m a) e f = unused_by kept n.0 e f
kept_declared kept (function_symbol n m args r) e f = unused_by kept n.0 e f
kept_declared kept (datatype t) e f = (none_of_map plain_def (def_in kept.defs t.no.0) e, f)
kept_declared kept (constructor_of t c) e f = unused_by kept c.no.0 e f
kept_declared kept (selector_of t c x) e f = unused_by kept x.no.0 e f
kept_declared kept (definition d) e f = (e, none_of_map plain_datatype (datatype_in kept.datatypes d.no.0) f)
kept_declared kept (term_name n m t) e f = (e, none_of_map plain_datatype (datatype_in kept.datatypes n.0) f)

-- each declaration is kept where its definitions and datatypes are
pub each_kept : (kept : Definitions) (ds : List Declaration) (n : ℕ) → map plain_def kept.defs ≡ defined_in ds → map plain_datatype kept.datatypes ≡ datatypes_in ds → AscendFrom n (map number_given ds) → Each (KeepsDeclared kept) ds
each_kept kept ds n defs datatypes ascend = all_kept ds (each_own plain_def_number defined_by own_def [] ds n ascend tt) (each_own plain_datatype_number datatype_by own_datatype [] ds n ascend tt)
  where
    all_kept : (es : List Declaration) → Each (λ d. look plain_def_number (those_in defined_by ds) (number_given d) ≡ defined_by d) es → Each (λ d. look plain_datatype_number (those_in datatype_by ds) (number_given d) ≡ datatype_by d) es
        → Each (KeepsDeclared kept) es
    all_kept [] h k = tt
    all_kept (d ∷ es) h k = (
      kept_declared kept d (plain_def_found kept.defs (number_given d) ∙ (ap (λ (xs : List PlainDef). look plain_def_number xs (number_given d)) (defs ∙ those_defined ds) ∙ h.0))
          (plain_datatype_found kept.datatypes (number_given d) ∙ (ap (λ (xs : List PlainDatatype). look plain_datatype_number xs (number_given d)) (datatypes ∙ those_datatypes ds) ∙ k.0)),
      all_kept es h.1 k.1,
    )

-- a declared datatype is found under its number among those that are declared
numbered_found : (ts : List PlainDatatype) (n : ℕ) → numbered ts n ≡ look plain_datatype_number ts n
numbered_found [] n = refl
numbered_found (t ∷ ts) n = ap (λ o. cond (n == t.no.0) (Some t) o) (numbered_found ts n)

pub declared_found : (ds : List Declaration) (n : ℕ) → AscendFrom n (map number_given ds) → (t : PlainDatatype) → Contains ds (datatype t) → numbered (datatypes_in ds) t.no.0 ≡ Some t
declared_found ds n ascend t c =
    numbered_found (datatypes_in ds) t.no.0 ∙ (ap (λ (ts : List PlainDatatype). look plain_datatype_number ts t.no.0) (those_datatypes ds)
    ∙ All-contains (λ d. look plain_datatype_number (those_in datatype_by ds) (number_given d) ≡ datatype_by d) ds (datatype t)
    (all_of_each (λ d. look plain_datatype_number (those_in datatype_by ds) (number_given d) ≡ datatype_by d) ds (each_own plain_datatype_number datatype_by own_datatype [] ds n ascend tt)) c)

pub datatypes_below : (ds : List Declaration) (n top : ℕ) → AscendTo n (map number_given ds) top → Each (λ (t : PlainDatatype). t.no.0 < top) (datatypes_in ds)
datatypes_below ds n top ascend = subst (Each (λ (t : PlainDatatype). t.no.0 < top)) (sym (those_datatypes ds)) (those_below plain_datatype_number datatype_by own_datatype ds n top ascend)

defs_of_plain : (ds : List Def) (top : ℕ) → Each (λ (x : PlainDef). x.no.0 < top) (map plain_def ds) → Each (λ (d : Def). d.no.0 < top) ds
defs_of_plain [] top h = tt
defs_of_plain (d ∷ ds) top h = (h.0, defs_of_plain ds top h.1)

datatypes_of_plain : (ts : List Datatype) (top : ℕ) → Each (λ (x : PlainDatatype). x.no.0 < top) (map plain_datatype ts) → Each (λ (t : Datatype). t.no.0 < top) ts
datatypes_of_plain [] top h = tt
datatypes_of_plain (t ∷ ts) top h = (h.0, datatypes_of_plain ts top h.1)

pub kept_below : (kept : Definitions) (ds : List Declaration) (n top : ℕ) → map plain_def kept.defs ≡ defined_in ds → map plain_datatype kept.datatypes ≡ datatypes_in ds → AscendTo n (map number_given ds) top → KeepsBelow top kept
kept_below kept ds n top defs datatypes ascend = record {
  defs = all_of_each (λ (d : Def). d.no.0 < top) kept.defs
      (defs_of_plain kept.defs top (subst (Each (λ (x : PlainDef). x.no.0 < top)) (sym (defs ∙ those_defined ds)) (those_below plain_def_number defined_by own_def ds n top ascend)));
  datatypes = all_of_each (λ (t : Datatype). t.no.0 < top) kept.datatypes (datatypes_of_plain kept.datatypes top (subst (Each (λ (x : PlainDatatype). x.no.0 < top)) (sym datatypes) (datatypes_below ds n top ascend)));
}

-- Nothing is kept under the numbers that come next.
no_def_at : (kept : List Def) (n k : ℕ) → Each (λ (d : Def). d.no.0 < n) kept → n ≤ k → def_in kept k ≡ None
no_def_at kept n k h l = def_found kept k ∙ none_kept def_number kept k (below_later def_number kept n k l h)

no_datatype_at : (kept : List Datatype) (n k : ℕ) → Each (λ (t : Datatype). t.no.0 < n) kept → n ≤ k → datatype_in kept k ≡ None
no_datatype_at kept n k h l = datatype_found kept k ∙ none_kept datatype_number kept k (below_later datatype_number kept n k l h)

pub each_unused : (kept : Definitions) (ds : List Def) (n : ℕ) → KeepsBelow n kept → AscendFrom n (map (λ (d : Def). d.no.0) ds) → EachUnused kept ds
each_unused kept ds n below ascend i d few at =
    let next = none_next def_number kept.defs ds n (each_of_all (λ (x : Def). x.no.0 < n) kept.defs below.defs) ascend i d few at in record {
      no_def = def_found (kept.defs ++ take i ds) d.no.0 ∙ next.0;
      no_datatype = no_datatype_at kept.datatypes n d.no.0 (each_of_all (λ (t : Datatype). t.no.0 < n) kept.datatypes below.datatypes) next.1;
    }

pub each_datatype_unused : (kept : Definitions) (ts : List Datatype) (n : ℕ) → KeepsBelow n kept → AscendFrom n (map (λ (t : Datatype). t.no.0) ts) → EachDatatypeUnused kept ts
each_datatype_unused kept ts n below ascend i t few at =
    let next = none_next datatype_number kept.datatypes ts n (each_of_all (λ (x : Datatype). x.no.0 < n) kept.datatypes below.datatypes) ascend i t few at in record {
      no_def = no_def_at kept.defs n t.no.0 (each_of_all (λ (d : Def). d.no.0 < n) kept.defs below.defs) next.1;
      no_datatype = datatype_found (kept.datatypes ++ take i ts) t.no.0 ∙ next.0;
    }

-- What is kept later has no part in what earlier numbers have.
unused_same : (a b : Definitions) (n : ℕ) → def_in b.defs n ≡ def_in a.defs n → datatype_in b.datatypes n ≡ datatype_in a.datatypes n → IsUnused a (record { 0 = n }) → IsUnused b (record { 0 = n })
unused_same a b n e f u = record { no_def = e ∙ u.no_def; no_datatype = f ∙ u.no_datatype }

kept_same : (a b : Definitions) (d : Declaration) → def_in b.defs (number_given d) ≡ def_in a.defs (number_given d) → datatype_in b.datatypes (number_given d) ≡ datatype_in a.datatypes (number_given d) → KeepsDeclared a d → KeepsDeclared b d
kept_same a b (sort_symbol n m x) e f k = unused_same a b n.0 e f k
kept_same a b (function_symbol n m args r) e f k = unused_same a b n.0 e f k
kept_same a b (datatype t) e f k = (e ∙ k.0, ap (option_map plain_datatype) f ∙ k.1)
kept_same a b (constructor_of t c) e f k = unused_same a b c.no.0 e f k
kept_same a b (selector_of t c x) e f k = unused_same a b x.no.0 e f k
kept_same a b (definition d) e f k = (ap (option_map plain_def) e ∙ k.0, f ∙ k.1)
kept_same a b (term_name n m t) e f k = (ap (option_map plain_def) e ∙ k.0, f ∙ k.1)

pub part_earlier : (old new : Kept) (ds : List Def) (n : ℕ) → AscendFrom n (map (λ (d : Def). d.no.0) ds) → KeepsPart old ds new → KeepsEarlier n old new
part_earlier old new ds n ascend (i, e) = record {
  commands = ap (λ (k : Kept). k.commands) e;
  kept = λ d low kept. kept_same old.defs new.defs d (ap (λ (k : Kept). def_in k.defs.defs (number_given d)) e ∙ (def_found (old.defs.defs ++ take i ds) (number_given d)
      ∙ (earlier_found def_number old.defs.defs ds n i (number_given d) ascend low ∙ sym (def_found old.defs.defs (number_given d))))) (ap (λ (k : Kept). datatype_in k.defs.datatypes (number_given d)) e) kept;
}

pub group_part_earlier : (old new : Kept) (ts : List Datatype) (n : ℕ) → AscendFrom n (map (λ (t : Datatype). t.no.0) ts) → KeepsGroupPart old ts new → KeepsEarlier n old new
group_part_earlier old new ts n ascend (i, e) = record {
  commands = ap (λ (k : Kept). k.commands) e;
  kept = λ d low kept. kept_same old.defs new.defs d (ap (λ (k : Kept). def_in k.defs.defs (number_given d)) e) (ap (λ (k : Kept). datatype_in k.defs.datatypes (number_given d)) e ∙ (datatype_found (old.defs.datatypes ++ take i ts) (number_given d)
      ∙ (earlier_found datatype_number old.defs.datatypes ts n i (number_given d) ascend low ∙ sym (datatype_found old.defs.datatypes (number_given d))))) kept;
}

all_taken_first : {X : Type 0} (xs : List X) → take (length xs) xs ≡ xs
all_taken_first [] = refl
all_taken_first (x ∷ xs) = ap (λ ys. x ∷ ys) (all_taken_first xs)

-- .. where all datatypes of the group are kept
pub group_earlier : (old new : Kept) (ts : List Datatype) (n : ℕ) → AscendFrom n (map (λ (t : Datatype). t.no.0) ts) → new ≡ with_datatypes old ts → KeepsEarlier n old new
group_earlier old new ts n ascend e = group_part_earlier old new ts n ascend (length ts, e ∙ ap (λ (xs : List Datatype). with_datatypes old xs) (sym (all_taken_first ts)))

pub same_earlier : (old new : Kept) (n : ℕ) → new ≡ old → KeepsEarlier n old new
same_earlier old new n e = record { commands = ap (λ (k : Kept). k.commands) e; kept = λ d low kept. subst (λ (k : Kept). KeepsDeclared k.defs d) (sym e) kept }
