-- The tokens of open lists are those that a list begins with and that lack its end.
use Rattle.std.proofs.Common.{◌≡◌, ◌≢◌, ℕ, ◌+◌, ◌-◌, List, [], ◌∷◌, ◌++◌, length, refl, ap, sym, ◌∙◌, arith, append_assoc, append-nil, add-one, ◌⊎◌, inl, inr}
use Rattle.sexp_core.specs.Sexp.{Sexp, atom, list, Sexps, nil, cons, FlatToken, Opening, Closing, Word, flat, flat_all, append}
use Rattle.sexp_core.specs.Reading.{open_count, IsUnfinished}
use Rattle.sexp_core.specs.OpenLists.{OpenList, add_sexp, open_tokens}
use Rattle.sexp_core.proofs.SexpLists.{open_tokens-add_sexp}

back : (n : ℕ) → n + 1 - 1 ≡ n
back n = omega arith

mutual
  pub open_count-flat : {A : Type 0} (t : Sexp A) (n : ℕ) (ps : List (FlatToken A)) → open_count n (flat t ++ ps) ≡ open_count n ps
  open_count-flat (atom t) n ps = refl
  open_count-flat (list at ts) n ps = rw (append_assoc, open_count-flat_all ts (n + 1) (Closing ∷ ps), back n) refl

  pub open_count-flat_all : {A : Type 0} (ts : Sexps A) (n : ℕ) (ps : List (FlatToken A)) → open_count n (flat_all ts ++ ps) ≡ open_count n ps
  open_count-flat_all nil n ps = refl
  open_count-flat_all (cons t ts) n ps = rw (append_assoc, open_count-flat t n (flat_all ts ++ ps), open_count-flat_all ts n ps) refl

open_count-append : {A : Type 0} (fs : List (OpenList A)) (ps : List (FlatToken A)) → open_count 0 (open_tokens fs ++ ps) ≡ open_count (length fs) ps
open_count-append [] ps = refl
open_count-append (f ∷ fs) ps = rw (append_assoc, open_count-append fs (Opening f.0 ∷ (flat_all f.1 ++ ps)), open_count-flat_all f.1 (length fs + 1) ps, add-one) refl

pub open_count-open_tokens : {A : Type 0} (fs : List (OpenList A)) → open_count 0 (open_tokens fs) ≡ length fs
open_count-open_tokens fs = rw append-nil at (open_count-append fs [])

-- open lists are no whole list
pub not_whole : {A : Type 0} (f : OpenList A) (fs : List (OpenList A)) (at : ℕ) (ts : Sexps A) → flat (list at ts) ≢ open_tokens (f ∷ fs)
not_whole f fs at ts e =
    let a = open_count-flat (list at ts) 0 [] in
    let b = open_count-open_tokens (f ∷ fs) in
    let c : open_count 0 (flat (list at ts)) ≡ 0 = rw append-nil at a in
    let d = ap (open_count 0) e in
    let l : length (f ∷ fs) ≡ 0 = sym b ∙ sym d ∙ c in
    absurd (omega arith)

-- with more tokens, open lists are a whole list
record Ended {A : Type 0} (tokens : List (FlatToken A)) : Type 0 where
  at : ℕ
  ts : Sexps A
  more : List (FlatToken A)
  spelled : flat (list at ts) ≡ tokens ++ Closing ∷ more

ended : {A : Type 0} (f : OpenList A) (fs : List (OpenList A)) → Ended (open_tokens (f ∷ fs))
ended f [] = record { at = f.0; ts = f.1; more = []; spelled = refl }
ended {A} f (g ∷ fs) =
    let e = ended (g.0, append g.1 (cons (list f.0 f.1) nil)) fs in
    record { at = e.at; ts = e.ts; more = Closing ∷ e.more; spelled = e.spelled ∙ same e.more }
  where
    same : (ps : List (FlatToken A)) → open_tokens (add_sexp (list f.0 f.1) (g ∷ fs)) ++ Closing ∷ ps ≡ open_tokens (f ∷ g ∷ fs) ++ Closing ∷ Closing ∷ ps
    same ps =
        ap (λ xs. xs ++ Closing ∷ ps) (open_tokens-add_sexp (list f.0 f.1) g fs)
        ∙ append_assoc (open_tokens (g ∷ fs)) (flat (list f.0 f.1)) (Closing ∷ ps)
        ∙ ap (λ xs. open_tokens (g ∷ fs) ++ Opening f.0 ∷ xs) (append_assoc (flat_all f.1) (Closing ∷ []) (Closing ∷ ps))
        ∙ sym (append_assoc (open_tokens (g ∷ fs)) (Opening f.0 ∷ flat_all f.1) (Closing ∷ Closing ∷ ps))

pub unfinished : {A : Type 0} (fs : List (OpenList A)) → IsUnfinished (open_tokens fs)
unfinished [] = record { at = 0; parts = nil; more = Opening 0 ∷ Closing ∷ []; spelled = refl; lacks_some = λ e. cc }
unfinished (f ∷ fs) = let e = ended f fs in record { at = e.at; parts = e.ts; more = Closing ∷ e.more; spelled = e.spelled; lacks_some = λ z. cc }

-- Tokens p, with which the tokens of an s-expression and r begin, end in it or go beyond it.
abbrev pub EndsIn : {A : Type 0} → Sexp A → (p q r : List (FlatToken A)) → Type 0
EndsIn {A} t p q r =
    ((fs : List (OpenList A)) × (p ≡ open_tokens fs)) ⊎ ((s : List (FlatToken A)) × (p ≡ flat t ++ s) × (r ≡ s ++ q))

abbrev EndsInAll : {A : Type 0} → Sexps A → (p q r : List (FlatToken A)) → Type 0
EndsInAll {A} ts p q r =
    ((us : Sexps A) × (fs : List (OpenList A)) × (p ≡ flat_all us ++ open_tokens fs)) ⊎ ((s : List (FlatToken A)) × (p ≡ flat_all ts ++ s) × (r ≡ s ++ q))

-- a list round the open lists
open_tokens-outer : {A : Type 0} (at : ℕ) (us : Sexps A) (fs : List (OpenList A)) → open_tokens (fs ++ (at, us) ∷ []) ≡ Opening at ∷ (flat_all us ++ open_tokens fs)
open_tokens-outer at us [] = ap (λ ps. Opening at ∷ ps) (sym (append-nil (flat_all us)))
open_tokens-outer at us (f ∷ fs) = rw (open_tokens-outer at us fs, append_assoc) refl

in_atom : {A : Type 0} (a : A) (x : FlatToken A) (p q r : List (FlatToken A)) → Word a ∷ r ≡ x ∷ (p ++ q) → EndsIn (atom a) (x ∷ p) q r
in_atom a x p q r e = inr (p, (let h : x ∷ p ≡ Word a ∷ p = cc in h), (let h : r ≡ p ++ q = cc in h))

in_list : {A : Type 0} (at : ℕ) (ts : Sexps A) (p q r : List (FlatToken A)) → EndsInAll ts p q (Closing ∷ r) → EndsIn (list at ts) (Opening at ∷ p) q r
in_list at ts p q r (inl (us, fs, e)) = inl (fs ++ (at, us) ∷ [], ap (λ ps. Opening at ∷ ps) e ∙ sym (open_tokens-outer at us fs))
in_list at ts p q r (inr ([], e, k)) = inl ((at, ts) ∷ [], ap (λ ps. Opening at ∷ ps) (e ∙ append-nil (flat_all ts)))
in_list at ts p q r (inr (y ∷ s, e, k)) = inr (s, ap (λ ps. Opening at ∷ ps) (e ∙ same), (let h : r ≡ s ++ q = cc in h))
  where
    same : flat_all ts ++ y ∷ s ≡ (flat_all ts ++ Closing ∷ []) ++ s
    same = let h : y ≡ Closing = cc in rw (h, append_assoc) refl

in_list_from : {A : Type 0} (at : ℕ) (ts : Sexps A) (x : FlatToken A) (p q r : List (FlatToken A)) → flat (list at ts) ++ r ≡ x ∷ (p ++ q)
    → (flat_all ts ++ Closing ∷ r ≡ p ++ q → EndsInAll ts p q (Closing ∷ r)) → EndsIn (list at ts) (x ∷ p) q r
in_list_from at ts x p q r e f =
    let h : x ≡ Opening at = cc in
    let k : (flat_all ts ++ Closing ∷ []) ++ r ≡ p ++ q = cc in
    rw h (in_list at ts p q r (f (sym (append_assoc (flat_all ts) (Closing ∷ []) r) ∙ k)))

in_rest : {A : Type 0} (t : Sexp A) (ts : Sexps A) (p q r : List (FlatToken A)) → EndsIn t p q (flat_all ts ++ r)
    → ((s : List (FlatToken A)) → flat_all ts ++ r ≡ s ++ q → EndsInAll ts s q r) → EndsInAll (cons t ts) p q r
in_rest t ts p q r (inl (fs, e)) f = inl (nil, fs, e)
in_rest t ts p q r (inr (s, e, k)) f = onward (f s k)
  where
    onward : EndsInAll ts s q r → EndsInAll (cons t ts) p q r
    onward (inl (us, fs, l)) = inl (cons t us, fs, e ∙ ap (λ ps. flat t ++ ps) l ∙ sym (append_assoc (flat t) (flat_all us) (open_tokens fs)))
    onward (inr (m, l, o)) = inr (m, e ∙ ap (λ ps. flat t ++ ps) l ∙ sym (append_assoc (flat t) (flat_all ts) m), o)

mutual
  pub ends_in : {A : Type 0} (t : Sexp A) (p q r : List (FlatToken A)) → flat t ++ r ≡ p ++ q → EndsIn t p q r
  ends_in t [] q r e = inl ([], refl)
  ends_in (atom a) (x ∷ p) q r e = in_atom a x p q r e
  ends_in (list at ts) (x ∷ p) q r e = in_list_from at ts x p q r e (λ k. ends_in_all ts p q (Closing ∷ r) k)

  ends_in_all : {A : Type 0} (ts : Sexps A) (p q r : List (FlatToken A)) → flat_all ts ++ r ≡ p ++ q → EndsInAll ts p q r
  ends_in_all nil p q r e = inr (p, refl, e)
  ends_in_all (cons t ts) p q r e =
      in_rest t ts p q r (ends_in t p q (flat_all ts ++ r) (sym (append_assoc (flat t) (flat_all ts) r) ∙ e)) (λ s k. ends_in_all ts s q r k)

-- What lacks the end of a list is the tokens of open lists.
pub opened : {A : Type 0} (ps : List (FlatToken A)) → IsUnfinished ps → (fs : List (OpenList A)) × (ps ≡ open_tokens fs)
opened {A} ps u = found (ends_in (list u.at u.parts) ps u.more [] (append-nil (flat (list u.at u.parts)) ∙ u.spelled))
  where
    none : (s : List (FlatToken A)) → [] ≡ s ++ u.more → ⊥
    none [] k = u.lacks_some (sym k)
    none (x ∷ s) k = cc

    found : EndsIn (list u.at u.parts) ps u.more [] → (fs : List (OpenList A)) × (ps ≡ open_tokens fs)
    found (inl (fs, k)) = (fs, k)
    found (inr (s, k, l)) = absurd (none s l)
