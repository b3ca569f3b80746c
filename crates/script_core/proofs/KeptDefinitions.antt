-- Definitions that are kept one after the other.
use Rattle.std.proofs.Common.{◌≡◌, ℕ, zero, suc, ◌+◌, ◌<◌, ◌≤◌, List, [], ◌∷◌, ◌++◌, length, take, slice_index_or, Result, Ok, Err, refl, ap, sym, ◌∙◌, subst, arith, append_assoc, length-append}
use Rattle.std.specs.Result.{OnErr, OnOk}
use Rattle.term_store.specs.Definitions.{Definitions, IsUnused}
use Rattle.term_store.specs.Script.{Kept}
use Rattle.term_store.specs.declared.command.Def.{Def}
use Rattle.term_store.specs.declared.command.TypedCommand.{TypedCommand}
use Rattle.script_core.specs.declared.scope.StepError.{StepError}
use Rattle.script_core.specs.Keeping.{EachUnused, KeepsPart, definitions_in, with_definitions, with_defs}

-- nothing is kept yet under the number of the next one
pub next_unused : (old script : Kept) (ds : List Def) (i : ℕ) (d copy : Def) → EachUnused old.defs ds → script ≡ with_definitions old (take i ds) → i < length ds → d ≡ slice_index_or ds i d → copy ≡ d → IsUnused script.defs copy.no
next_unused old script ds i d copy unused here few at same =
    subst (λ (k : Kept). IsUnused k.defs copy.no) (sym here) (subst (λ (x : Def). IsUnused (with_definitions old (take i ds)).defs x.no) (sym same) (unused i d few at))

-- the definitions of the command are these
pub all_unused : (old : Kept) (c : TypedCommand) (ds items : List Def) → EachUnused old.defs (definitions_in c) → definitions_in c ≡ ds → items ≡ ds → EachUnused old.defs items
all_unused old c ds items unused own same =
    subst (λ (xs : List Def). EachUnused old.defs xs) (sym same) (subst (λ (xs : List Def). EachUnused old.defs xs) own unused)

-- the first of these definitions are unused, and the others once the first are kept
pub first_unused : (kept : Definitions) (ds es : List Def) → EachUnused kept (ds ++ es) → EachUnused kept ds
first_unused kept ds es unused i d few at =
    subst (λ (xs : List Def). IsUnused (with_defs kept xs) d.no) (take_first ds es i (omega (arith, few))) (unused i d (omega (arith, few, length-append ds es)) (at ∙ sym (index_first ds es i d few)))
  where
    take_first : (ds es : List Def) (i : ℕ) → i ≤ length ds → take i (ds ++ es) ≡ take i ds
    take_first ds es zero l = refl
    take_first [] es (suc i) l = absurd (omega (arith, l))
    take_first (d ∷ ds) es (suc i) l = ap (λ xs. d ∷ xs) (take_first ds es i (omega (arith, l)))

    index_first : (ds es : List Def) (i : ℕ) (d : Def) → i < length ds → slice_index_or (ds ++ es) i d ≡ slice_index_or ds i d
    index_first [] es i d l = absurd (omega (arith, l))
    index_first (x ∷ ds) es zero d l = refl
    index_first (x ∷ ds) es (suc i) d l = index_first ds es i d (omega (arith, l))

none_plus : (n : ℕ) → 0 + n ≡ n
none_plus n = omega arith

suc_plus : (m n : ℕ) → suc m + n ≡ suc (m + n)
suc_plus m n = omega arith

take_past : (ds es : List Def) (n : ℕ) → take (length ds + n) (ds ++ es) ≡ ds ++ take n es
take_past [] es n = ap (λ (m : ℕ). take m es) (none_plus n)
take_past (d ∷ ds) es n = ap (λ (m : ℕ). take m (d ∷ (ds ++ es))) (suc_plus (length ds) n) ∙ ap (λ xs. d ∷ xs) (take_past ds es n)

pub others_unused : (old mid : Kept) (ds es : List Def) → mid ≡ with_definitions old ds → EachUnused old.defs (ds ++ es) → EachUnused mid.defs es
others_unused old mid ds es is unused i d few at =
    subst (λ (k : Kept). IsUnused (with_defs k.defs (take i es)) d.no) (sym is)
    (subst (λ (xs : List Def). IsUnused (record { defs = xs; datatypes = old.defs.datatypes }) d.no) (ap (λ xs. old.defs.defs ++ xs) (take_past ds es i) ∙ sym (append_assoc old.defs.defs ds (take i es)))
    (unused (length ds + i) d (omega (arith, few, length-append ds es)) (at ∙ sym (index_past ds es i d))))
  where
    index_past : (ds es : List Def) (i : ℕ) (d : Def) → slice_index_or (ds ++ es) (length ds + i) d ≡ slice_index_or es i d
    index_past [] es i d = ap (λ (m : ℕ). slice_index_or es m d) (none_plus i)
    index_past (x ∷ ds) es i d = ap (λ (m : ℕ). slice_index_or (x ∷ (ds ++ es)) m d) (suc_plus (length ds) i) ∙ index_past ds es i d

pub others_kept : (old mid new : Kept) (ds es : List Def) → mid ≡ with_definitions old ds → new ≡ with_definitions mid es → new ≡ with_definitions old (ds ++ es)
others_kept old mid new ds es is more =
    more ∙ (ap (λ (k : Kept). with_definitions k es) is ∙ ap (λ (xs : List Def). record { commands = old.commands; defs = record { defs = xs; datatypes = old.defs.datatypes } }) (append_assoc old.defs.defs ds es))

-- some of the first ones are some of all
pub first_part : (old new : Kept) (ds es : List Def) → KeepsPart old ds new → KeepsPart old (ds ++ es) new
first_part old new ds es (n, e) = (least ds n, e ∙ ap (with_definitions old) (take_least ds es n))
  where
    least : (ds : List Def) (n : ℕ) → ℕ
    least [] n = 0
    least (d ∷ ds) zero = 0
    least (d ∷ ds) (suc n) = suc (least ds n)

    take_least : (ds es : List Def) (n : ℕ) → take n ds ≡ take (least ds n) (ds ++ es)
    take_least [] es zero = refl
    take_least [] es (suc n) = refl
    take_least (d ∷ ds) es zero = refl
    take_least (d ∷ ds) es (suc n) = ap (λ xs. d ∷ xs) (take_least ds es n)

pub other_part : (old mid new : Kept) (ds es : List Def) → mid ≡ with_definitions old ds → KeepsPart mid es new → KeepsPart old (ds ++ es) new
other_part old mid new ds es is (n, e) = (length ds + n, others_kept old mid new ds (take n es) is e ∙ ap (with_definitions old) (sym (take_past ds es n)))

-- the others are kept, or some of them
pub when_kept : (r : Result (Unit {0}) StepError) (old mid new : Kept) (ds es : List Def) → mid ≡ with_definitions old ds → OnOk r (new ≡ with_definitions mid es) → OnOk r (new ≡ with_definitions old (ds ++ es))
when_kept (Ok u) old mid new ds es is h = others_kept old mid new ds es is h
when_kept (Err e) old mid new ds es is h = tt

pub when_part : (r : Result (Unit {0}) StepError) (old mid new : Kept) (ds es : List Def) → mid ≡ with_definitions old ds → OnErr r (KeepsPart mid es new) → OnErr r (KeepsPart old (ds ++ es) new)
when_part (Ok u) old mid new ds es is h = tt
when_part (Err e) old mid new ds es is h = other_part old mid new ds es is h
