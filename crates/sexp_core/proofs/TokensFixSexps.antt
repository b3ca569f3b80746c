-- Tokens fix what they read as: a machine that keeps the open lists reads it back.
use Rattle.std.proofs.Common.{◌≡◌, List, [], ◌∷◌, ◌++◌, refl, ap, sym, ◌∙◌, append_assoc, append-nil}
use Rattle.sexp_core.specs.Sexp.{Sexp, atom, list, Sexps, nil, cons, FlatToken, Opening, Closing, Word, flat, flat_all, append}
use Rattle.sexp_core.specs.Reading.{flat_each}
use Rattle.sexp_core.specs.OpenLists.{OpenList, add_sexp, open_tokens}
use Rattle.sexp_core.proofs.SexpLists.{sexps_append_assoc, sexps_append-nil}

-- what a token makes of the open lists
abbrev pub step : {A : Type 0} → FlatToken A → List (OpenList A) → List (OpenList A)
step (Word a) fs = add_sexp (atom a) fs
step (Opening at) fs = (at, nil) ∷ fs
step Closing [] = []
step Closing (f ∷ fs) = add_sexp (list f.0 f.1) fs

abbrev pub run : {A : Type 0} → List (FlatToken A) → List (OpenList A) → List (OpenList A)
run [] fs = fs
run (p ∷ ps) fs = run ps (step p fs)

abbrev add_all : {A : Type 0} → Sexps A → List (OpenList A) → List (OpenList A)
add_all ts [] = []
add_all ts (f ∷ fs) = (f.0, append f.1 ts) ∷ fs

add_all-add_sexp : {A : Type 0} (t : Sexp A) (ts : Sexps A) (fs : List (OpenList A)) → add_all ts (add_sexp t fs) ≡ add_all (cons t ts) fs
add_all-add_sexp t ts [] = refl
add_all-add_sexp t ts (f ∷ fs) = ap (λ x. (f.0, x) ∷ fs) (sexps_append_assoc f.1 (cons t nil) ts)

add_all-nil : {A : Type 0} (fs : List (OpenList A)) → add_all nil fs ≡ fs
add_all-nil [] = refl
add_all-nil (f ∷ fs) = ap (λ x. (f.0, x) ∷ fs) (sexps_append-nil f.1)

mutual
  pub run-flat : {A : Type 0} (t : Sexp A) (ps : List (FlatToken A)) (fs : List (OpenList A)) → run (flat t ++ ps) fs ≡ run ps (add_sexp t fs)
  run-flat (atom a) ps fs = refl
  run-flat (list at ts) ps fs = rw (append_assoc, run-flat_all ts (Closing ∷ ps) ((at, nil) ∷ fs)) refl

  run-flat_all : {A : Type 0} (ts : Sexps A) (ps : List (FlatToken A)) (fs : List (OpenList A)) → run (flat_all ts ++ ps) fs ≡ run ps (add_all ts fs)
  run-flat_all nil ps fs = rw add_all-nil refl
  run-flat_all (cons t ts) ps fs = rw (append_assoc, run-flat t (flat_all ts ++ ps) fs, run-flat_all ts ps (add_sexp t fs), add_all-add_sexp t ts fs) refl

abbrev last_sexp : {A : Type 0} → List (OpenList A) → Sexp A
last_sexp [] = list 0 nil
last_sexp ((at, nil) ∷ fs) = list 0 nil
last_sexp ((at, cons t ts) ∷ fs) = t

read_back : {A : Type 0} (t : Sexp A) → last_sexp (run (flat t) ((0, nil) ∷ [])) ≡ t
read_back t = rw (← append-nil (flat t), run-flat t [] ((0, nil) ∷ [])) refl

-- Tokens fix their s-expression.
pub flat_fixes : {A : Type 0} (t u : Sexp A) → flat t ≡ flat u → t ≡ u
flat_fixes {A} t u e = sym (read_back t) ∙ ap (λ (ps : List (FlatToken A)). last_sexp (run ps ((0, nil) ∷ []))) e ∙ read_back u

abbrev sexps : {A : Type 0} → List (Sexp A) → Sexps A
sexps [] = nil
sexps (t ∷ ts) = cons t (sexps ts)

abbrev each : {A : Type 0} → Sexps A → List (Sexp A)
each nil = []
each (cons t ts) = t ∷ each ts

each-sexps : {A : Type 0} (ts : List (Sexp A)) → each (sexps ts) ≡ ts
each-sexps [] = refl
each-sexps (t ∷ ts) = ap (λ us. t ∷ us) (each-sexps ts)

flat_each-sexps : {A : Type 0} (ts : List (Sexp A)) → flat_each ts ≡ flat_all (sexps ts)
flat_each-sexps [] = refl
flat_each-sexps (t ∷ ts) = ap (λ ps. flat t ++ ps) (flat_each-sexps ts)

run-open_tokens : {A : Type 0} (fs gs : List (OpenList A)) (ps : List (FlatToken A)) → run (open_tokens fs ++ ps) gs ≡ run ps (fs ++ gs)
run-open_tokens [] gs ps = refl
run-open_tokens (f ∷ fs) gs ps = rw (append_assoc, run-open_tokens fs gs (Opening f.0 ∷ (flat_all f.1 ++ ps)), run-flat_all f.1 ps ((f.0, nil) ∷ (fs ++ gs))) refl

-- the machine over a list that collects the whole s-expressions
collected : {A : Type 0} (ts : List (Sexp A)) (fs : List (OpenList A)) → run (flat_each ts ++ open_tokens fs) ((0, nil) ∷ []) ≡ fs ++ (0, sexps ts) ∷ []
collected ts fs =
    rw (flat_each-sexps ts, run-flat_all (sexps ts) (open_tokens fs) ((0, nil) ∷ []), ← append-nil (open_tokens fs), run-open_tokens fs ((0, sexps ts) ∷ []) []) refl

-- the last of some open lists, and those before it
abbrev base : {A : Type 0} → List (OpenList A) → Sexps A
base [] = nil
base (f ∷ []) = f.1
base (f ∷ g ∷ fs) = base (g ∷ fs)

abbrev above : {A : Type 0} → List (OpenList A) → List (OpenList A)
above [] = []
above (f ∷ []) = []
above (f ∷ g ∷ fs) = f ∷ above (g ∷ fs)

base-append : {A : Type 0} (fs : List (OpenList A)) (ts : Sexps A) → base (fs ++ (0, ts) ∷ []) ≡ ts
base-append [] ts = refl
base-append (f ∷ []) ts = refl
base-append (f ∷ g ∷ fs) ts = base-append (g ∷ fs) ts

above-append : {A : Type 0} (fs : List (OpenList A)) (ts : Sexps A) → above (fs ++ (0, ts) ∷ []) ≡ fs
above-append [] ts = refl
above-append (f ∷ []) ts = refl
above-append (f ∷ g ∷ fs) ts = ap (λ hs. f ∷ hs) (above-append (g ∷ fs) ts)

-- Tokens fix the whole s-expressions that they begin with and the open lists after them.
pub collected_once : {A : Type 0} (ts us : List (Sexp A)) (fs gs : List (OpenList A)) → flat_each ts ++ open_tokens fs ≡ flat_each us ++ open_tokens gs → (ts ≡ us) × (fs ≡ gs)
collected_once {A} ts us fs gs e =
    let same : fs ++ (0, sexps ts) ∷ [] ≡ gs ++ (0, sexps us) ∷ [] =
    sym (collected ts fs) ∙ ap (λ (ps : List (FlatToken A)). run ps ((0, nil) ∷ [])) e ∙ collected us gs in
    let lists : sexps ts ≡ sexps us = sym (base-append fs (sexps ts)) ∙ ap base same ∙ base-append gs (sexps us) in (
      sym (each-sexps ts) ∙ ap each lists ∙ each-sexps us,
      sym (above-append fs (sexps ts)) ∙ ap above same ∙ above-append gs (sexps us),
    )
