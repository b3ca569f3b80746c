-- The tables lead to what has the number.
use Rattle.std.proofs.Common.{◌≡◌, ℕ, Bool, List, [], ◌∷◌, ◌++◌, refl, ap, sym, ◌∙◌, cond, eqb, eq-eqb, true, false, Some, None}
use Rattle.std.specs.List.{All}
use Rattle.std.specs.Map.{lookup, values_of}
use Rattle.std.proofs.lemmas.Bool.{eqb-true}
use Rattle.std.proofs.lemmas.List.{map-append}
use Rattle.std.proofs.lemmas.List.Elements.{All-head, All-tail, All-push}
use Rattle.term_store.specs.declared.command.Def.{Def}
use Rattle.term_store.specs.declared.command.Datatype.{Datatype}
use Rattle.term_store.specs.DefinitionTables.{AreDefs, AreDatatypes, is_number}
use Rattle.term_store.specs.Definitions.{def_in, datatype_in}

abbrev IsAtNumber : ℕ × Def → Type 0
IsAtNumber e = e.0 ≡ e.1.no.0

abbrev IsDatatypeAtNumber : ℕ × Datatype → Type 0
IsDatatypeAtNumber e = e.0 ≡ e.1.no.0

pub def_found : (es : List (ℕ × Def)) (n : ℕ) → AreDefs es → lookup (is_number n) es ≡ def_in (values_of es) n
def_found [] n a = refl
def_found (e ∷ es) n a =
    ap (λ o. cond (eqb n e.0) (Some e.1) o) (def_found es n (All-tail IsAtNumber e es a))
    ∙ ap (λ m. cond (eqb n m) (Some e.1) (def_in (values_of es) n)) (All-head IsAtNumber e es a)

pub datatype_found : (es : List (ℕ × Datatype)) (n : ℕ) → AreDatatypes es → lookup (is_number n) es ≡ datatype_in (values_of es) n
datatype_found [] n a = refl
datatype_found (e ∷ es) n a =
    ap (λ o. cond (eqb n e.0) (Some e.1) o) (datatype_found es n (All-tail IsDatatypeAtNumber e es a))
    ∙ ap (λ m. cond (eqb n m) (Some e.1) (datatype_in (values_of es) n)) (All-head IsDatatypeAtNumber e es a)

pub defs_kept : (es : List (ℕ × Def)) (d : Def) → AreDefs es → AreDefs (es ++ (d.no.0, d) ∷ [])
defs_kept es d a = All-push IsAtNumber es (d.no.0, d) a refl

pub datatypes_kept : (es : List (ℕ × Datatype)) (d : Datatype) → AreDatatypes es → AreDatatypes (es ++ (d.no.0, d) ∷ [])
datatypes_kept es d a = All-push IsDatatypeAtNumber es (d.no.0, d) a refl

pub def_values : (es : List (ℕ × Def)) (d : Def) → values_of (es ++ (d.no.0, d) ∷ []) ≡ values_of es ++ d ∷ []
def_values es d = map-append (λ (e : ℕ × Def). e.1) es ((d.no.0, d) ∷ [])

pub datatype_values : (es : List (ℕ × Datatype)) (d : Datatype) → values_of (es ++ (d.no.0, d) ∷ []) ≡ values_of es ++ d ∷ []
datatype_values es d = map-append (λ (e : ℕ × Datatype). e.1) es ((d.no.0, d) ∷ [])

pub ruleset kept_words = (def_found, datatype_found, defs_kept, datatypes_kept, def_values, datatype_values)

-- for callers: what is kept after one more
pub def_in-push_new : (ds : List Def) (d : Def) (n : ℕ) → def_in ds n ≡ None → n ≡ d.no.0 → def_in (ds ++ d ∷ []) n ≡ Some d
def_in-push_new [] d n h e = ap (λ b. cond b (Some d) None) (eq-eqb n d.no.0 e)
def_in-push_new (c ∷ ds) d n h e = by (eqb n c.no.0) refl (def_in-push_new ds d n)
  where
    by : (b : Bool) → eqb n c.no.0 ≡ b → (def_in ds n ≡ None → n ≡ d.no.0 → def_in (ds ++ d ∷ []) n ≡ Some d) → def_in ((c ∷ ds) ++ d ∷ []) n ≡ Some d
    by true t rest = let k : Some c ≡ None = sym (ap (λ b. cond b (Some c) (def_in ds n)) t) ∙ h in cc
    by false t rest = ap (λ b. cond b (Some c) (def_in (ds ++ d ∷ []) n)) t ∙ rest (sym (ap (λ b. cond b (Some c) (def_in ds n)) t) ∙ h) e

pub def_in-push_other : (ds : List Def) (d : Def) (n : ℕ) → (n ≡ d.no.0 → ⊥) → def_in (ds ++ d ∷ []) n ≡ def_in ds n
def_in-push_other [] d n f = by (eqb n d.no.0) refl
  where
    by : (b : Bool) → eqb n d.no.0 ≡ b → cond (eqb n d.no.0) (Some d) None ≡ None
    by true t = absurd (f (eqb-true n d.no.0 t))
    by false t = ap (λ b. cond b (Some d) None) t
def_in-push_other (c ∷ ds) d n f = ap (λ o. cond (eqb n c.no.0) (Some c) o) (def_in-push_other ds d n f)

pub datatype_in-push_new : (ds : List Datatype) (d : Datatype) (n : ℕ) → datatype_in ds n ≡ None → n ≡ d.no.0 → datatype_in (ds ++ d ∷ []) n ≡ Some d
datatype_in-push_new [] d n h e = ap (λ b. cond b (Some d) None) (eq-eqb n d.no.0 e)
datatype_in-push_new (c ∷ ds) d n h e = by (eqb n c.no.0) refl (datatype_in-push_new ds d n)
  where
    by : (b : Bool) → eqb n c.no.0 ≡ b → (datatype_in ds n ≡ None → n ≡ d.no.0 → datatype_in (ds ++ d ∷ []) n ≡ Some d) → datatype_in ((c ∷ ds) ++ d ∷ []) n ≡ Some d
    by true t rest = let k : Some c ≡ None = sym (ap (λ b. cond b (Some c) (datatype_in ds n)) t) ∙ h in cc
    by false t rest = ap (λ b. cond b (Some c) (datatype_in (ds ++ d ∷ []) n)) t ∙ rest (sym (ap (λ b. cond b (Some c) (datatype_in ds n)) t) ∙ h) e

pub datatype_in-push_other : (ds : List Datatype) (d : Datatype) (n : ℕ) → (n ≡ d.no.0 → ⊥) → datatype_in (ds ++ d ∷ []) n ≡ datatype_in ds n
datatype_in-push_other [] d n f = by (eqb n d.no.0) refl
  where
    by : (b : Bool) → eqb n d.no.0 ≡ b → cond (eqb n d.no.0) (Some d) None ≡ None
    by true t = absurd (f (eqb-true n d.no.0 t))
    by false t = ap (λ b. cond b (Some d) None) t
datatype_in-push_other (c ∷ ds) d n f = ap (λ o. cond (eqb n c.no.0) (Some c) o) (datatype_in-push_other ds d n f)
