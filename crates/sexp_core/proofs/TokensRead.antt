-- How a reading of tokens goes on with the next token, and that a token either goes on or breaks one rule.
use Rattle.std.proofs.Common.{◌≡◌, ◌≢◌, ℕ, ◌+◌, ◌-◌, ◌≤◌, List, [], ◌∷◌, ◌++◌, length, refl, ap, sym, ◌∙◌, arith, append_assoc, append-nil, length-append, ◌⊎◌, inl, inr, subst}
use Rattle.std.proofs.lemmas.List.Elements.{All-append, All-cons, All-nil}
use Rattle.std.proofs.lemmas.Bool.Decides.{eqb_tells}
use Rattle.sig_table.specs.declared.code.Code.{Code}
use Rattle.sig_table.specs.declared.code.Code.TheVariants as code
use Rattle.sexp_core.specs.declared.builder.TheConstants.{MAX_DEPTH}
use Rattle.sexp_core.specs.Sexp.{Sexp, atom, list, nil, FlatToken, Opening, Closing, Word, flat, flat_all}
use Rattle.sexp_core.specs.Reading.{open_count, IsUnfinished, TreeFault, IsWithinDepth, IsList, flat_each, Reads, ReadsOrBreaks, reads, breaks_in}
use Rattle.sexp_core.specs.OpenLists.{OpenList, add_sexp, open_tokens}
use Rattle.sexp_core.proofs.SexpLists.{open_tokens-add_sexp}
use Rattle.sexp_core.proofs.TokensFixSexps.{collected_once}
use Rattle.sexp_core.proofs.UnfinishedLists.{open_count-flat, open_count-open_tokens, unfinished, opened}
use Rattle.sexp_core.proofs.TokensTaken.{some_open}

pub open_count-append : {A : Type 0} (n : ℕ) (ps qs : List (FlatToken A)) → open_count n (ps ++ qs) ≡ open_count (open_count n ps) qs
open_count-append n [] qs = refl
open_count-append n (Word a ∷ ps) qs = open_count-append n ps qs
open_count-append n (Opening at ∷ ps) qs = open_count-append (n + 1) ps qs
open_count-append n (Closing ∷ ps) qs = open_count-append (n - 1) ps qs

pub open_count-flat_each : {A : Type 0} (n : ℕ) (ts : List (Sexp A)) (ps : List (FlatToken A)) → open_count n (flat_each ts ++ ps) ≡ open_count n ps
open_count-flat_each n [] ps = refl
open_count-flat_each n (t ∷ ts) ps = rw (append_assoc, open_count-flat t n (flat_each ts ++ ps), open_count-flat_each n ts ps) refl

pub flat_each-append : {A : Type 0} (ts us : List (Sexp A)) → flat_each (ts ++ us) ≡ flat_each ts ++ flat_each us
flat_each-append [] us = refl
flat_each-append (t ∷ ts) us = rw (flat_each-append ts us, append_assoc) refl

-- the same number of lists is open after all tokens and after those of the unfinished list
pub open_count-read : {A : Type 0} (tokens : List (FlatToken A)) (lists : List (Sexp A)) (u : List (FlatToken A)) → Reads tokens lists u → open_count 0 tokens ≡ open_count 0 u
open_count-read tokens lists u r = rw r.spelled (open_count-flat_each 0 lists u)

-- the unfinished list has no more tokens than there are
pub length-unfinished : {A : Type 0} (tokens : List (FlatToken A)) (lists : List (Sexp A)) (u : List (FlatToken A)) → Reads tokens lists u → length u ≤ length tokens
length-unfinished tokens lists u r = omega (arith, ap length r.spelled, length-append (flat_each lists) u)

-- a part of a list with one more item: all of it, or a part of the list
part_of_snoc : {A : Type 0} (xs : List A) (x : A) (p q : List A) → xs ++ x ∷ [] ≡ p ++ q → (p ≡ xs ++ x ∷ []) ⊎ ((r : List A) × (xs ≡ p ++ r))
part_of_snoc xs x [] q e = inr (xs, refl)
part_of_snoc [] x (y ∷ []) q e = inl (let h : x ≡ y = cc in rw h refl)
part_of_snoc [] x (y ∷ z ∷ p) q e = absurd (let h : [] ≡ z ∷ (p ++ q) = cc in no h)
  where
    no : [] ≡ z ∷ (p ++ q) → ⊥
    no h = cc
part_of_snoc {A} (w ∷ xs) x (y ∷ p) q e = on (part_of_snoc xs x p q (let h : xs ++ x ∷ [] ≡ p ++ q = cc in h))
  where
    same : w ≡ y
    same = cc

    on : (p ≡ xs ++ x ∷ []) ⊎ ((r : List A) × (xs ≡ p ++ r)) → (y ∷ p ≡ (w ∷ xs) ++ x ∷ []) ⊎ ((r : List A) × (w ∷ xs ≡ y ∷ (p ++ r)))
    on (inl h) = inl (rw (h, same) refl)
    on (inr (r, h)) = inr (r, rw (h, same) refl)

within_snoc : {A : Type 0} (ps : List (FlatToken A)) (p : FlatToken A) → IsWithinDepth ps → open_count 0 (ps ++ p ∷ []) ≤ MAX_DEPTH → IsWithinDepth (ps ++ p ∷ [])
within_snoc {A} ps p w h before after e = on (part_of_snoc ps p before after e)
  where
    on : (before ≡ ps ++ p ∷ []) ⊎ ((r : List (FlatToken A)) × (ps ≡ before ++ r)) → open_count 0 before ≤ MAX_DEPTH
    on (inl k) = rw k h
    on (inr (r, k)) = w before r k

last_within : {A : Type 0} (n : ℕ) (before : List (FlatToken A)) (p : FlatToken A) → open_count 0 before ≡ n → n ≤ MAX_DEPTH → ((rule : Code) → TreeFault before p rule → ⊥) → open_count n (p ∷ []) ≤ MAX_DEPTH
last_within n before (Word a) e h fine = h
last_within n before Closing e h fine = omega arith
last_within n before (Opening at) e h fine = let some : n ≢ MAX_DEPTH = λ q. fine code.ListsTooDeep (e ∙ q, refl) in omega arith

-- No token reads as no list.
pub reads_nothing : {A : Type 0} → Reads {A = A} [] [] []
reads_nothing {A} = record {
  spelled = refl;
  are_lists = All-nil IsList;
  is_unfinished = unfinished [];
  within_depth = λ before after e. none before after e;
}
  where
    none : (before after : List (FlatToken A)) → [] ≡ before ++ after → open_count 0 before ≤ MAX_DEPTH
    none [] after e = omega arith
    none (p ∷ ps) after e = absurd (let h : [] ≡ p ∷ (ps ++ after) = e in no h)
      where
        no : [] ≡ p ∷ (ps ++ after) → ⊥
        no h = cc

whole_within : {A : Type 0} (ps : List (FlatToken A)) → IsWithinDepth ps → open_count 0 ps ≤ MAX_DEPTH
whole_within ps w = w ps [] (sym (append-nil ps))

-- A token that breaks no rule goes on with the unfinished list.
pub reads_more : {A : Type 0} (tokens : List (FlatToken A)) (lists : List (Sexp A)) (u : List (FlatToken A)) (next : FlatToken A)
    → Reads tokens lists u → ((rule : Code) → TreeFault u next rule → ⊥) → IsUnfinished (u ++ next ∷ []) → Reads (tokens ++ next ∷ []) lists (u ++ next ∷ [])
reads_more tokens lists u next r fine i = record {
  spelled = ap (λ ps. ps ++ next ∷ []) r.spelled ∙ append_assoc (flat_each lists) u (next ∷ []);
  are_lists = r.are_lists;
  is_unfinished = i;
  within_depth = within_snoc tokens next r.within_depth depth;
}
  where
    depth : open_count 0 (tokens ++ next ∷ []) ≤ MAX_DEPTH
    depth = rw (open_count-append 0 tokens (next ∷ [])) (last_within (open_count 0 tokens) u next (sym (open_count-read tokens lists u r)) (whole_within tokens r.within_depth) fine)

-- A token that completes the unfinished list gives that list.
pub reads_list : {A : Type 0} (tokens : List (FlatToken A)) (lists : List (Sexp A)) (u : List (FlatToken A)) (next : FlatToken A) (t : Sexp A)
    → Reads tokens lists u → IsList t → flat t ≡ u ++ next ∷ [] → Reads (tokens ++ next ∷ []) (lists ++ t ∷ []) []
reads_list tokens lists u next t r is e = record {
  spelled = spelling ∙ sym (append-nil (flat_each (lists ++ t ∷ [])));
  are_lists = All-append IsList lists (t ∷ []) r.are_lists (All-cons IsList t [] is (All-nil IsList));
  is_unfinished = unfinished [];
  within_depth = within_snoc tokens next r.within_depth (rw spelling depth);
}
  where
    spelling : tokens ++ next ∷ [] ≡ flat_each (lists ++ t ∷ [])
    spelling =
        ap (λ ps. ps ++ next ∷ []) r.spelled ∙ append_assoc (flat_each lists) u (next ∷ []) ∙ ap (λ ps. flat_each lists ++ ps) (sym e ∙ sym (append-nil (flat t)))
        ∙ sym (flat_each-append lists (t ∷ []))

    depth : open_count 0 (flat_each (lists ++ t ∷ [])) ≤ MAX_DEPTH
    depth = let h : open_count 0 (flat_each (lists ++ t ∷ [])) ≡ 0 = rw append-nil at (open_count-flat_each 0 (lists ++ t ∷ []) []) in rw h (omega arith)

-- What a token makes of a reading: it breaks a rule, goes on with the unfinished list, or completes it.
pub data Next {A : Type 0} (u : List (FlatToken A)) (next : FlatToken A) : Type 0 where
  breaks : (rule : Code) → TreeFault u next rule → Next u next
  goes_on : IsUnfinished (u ++ next ∷ []) → ((rule : Code) → TreeFault u next rule → ⊥) → Next u next
  completes : (t : Sexp A) → IsList t → flat t ≡ u ++ next ∷ [] → Next u next

closing_inner : {A : Type 0} (f g : OpenList A) (fs : List (OpenList A)) → open_tokens (add_sexp (list f.0 f.1) (g ∷ fs)) ≡ open_tokens (f ∷ g ∷ fs) ++ Closing ∷ []
closing_inner f g fs = open_tokens-add_sexp (list f.0 f.1) g fs ∙ sym (append_assoc (open_tokens (g ∷ fs)) (Opening f.0 ∷ flat_all f.1) (Closing ∷ []))

next_of : {A : Type 0} (fs : List (OpenList A)) (next : FlatToken A) → Next (open_tokens fs) next
next_of [] (Word a) = breaks code.AtomOutsideLists (refl, refl)
next_of (f ∷ fs) (Word a) =
    goes_on (let e = open_tokens-add_sexp (atom a) f fs in subst IsUnfinished e (unfinished (add_sexp (atom a) (f ∷ fs)))) (λ rule q. some_open f fs q.0)
next_of [] Closing = breaks code.UnmatchedClose (refl, refl)
next_of (f ∷ []) Closing = completes (list f.0 f.1) tt refl
next_of (f ∷ g ∷ fs) Closing =
    goes_on (subst IsUnfinished (closing_inner f g fs) (unfinished (add_sexp (list f.0 f.1) (g ∷ fs)))) (λ rule q. some_open f (g ∷ fs) q.0)
next_of fs (Opening at) = elim (eqb_tells (length fs) MAX_DEPTH) [
  | inl h ↦ breaks code.ListsTooDeep (open_count-open_tokens fs ∙ h.1, refl)
  | inr h ↦ goes_on (unfinished ((at, nil) ∷ fs)) (λ rule q. h.1 (sym (open_count-open_tokens fs) ∙ q.0))
]

pub next_token : {A : Type 0} (u : List (FlatToken A)) (next : FlatToken A) → IsUnfinished u → Next u next
next_token u next i = let o = opened u i in rw (o.1) (next_of o.0 next)

along : {A : Type 0} {ps qs : List (FlatToken A)} → ps ≡ qs → ReadsOrBreaks ps → ReadsOrBreaks qs
along e h = subst ReadsOrBreaks e h

read_on : {A : Type 0} (rest tokens : List (FlatToken A)) (lists : List (Sexp A)) (u : List (FlatToken A)) → Reads tokens lists u → ReadsOrBreaks (tokens ++ rest)
read_on [] tokens lists u r = along (sym (append-nil tokens)) (reads lists u r)
read_on {A} (p ∷ ps) tokens lists u r =
    along (append_assoc tokens (p ∷ []) ps) (on (next_token u p r.is_unfinished) (λ ts v s. read_on ps (tokens ++ p ∷ []) ts v s))
  where
    on : Next u p → ((ts : List (Sexp A)) (v : List (FlatToken A)) → Reads (tokens ++ p ∷ []) ts v → ReadsOrBreaks ((tokens ++ p ∷ []) ++ ps)) → ReadsOrBreaks ((tokens ++ p ∷ []) ++ ps)
    on (breaks rule h) f = breaks_in (record {
      before = tokens;
      next = p;
      after = ps;
      rule = rule;
      spelled = append_assoc tokens (p ∷ []) ps;
      breaks = record { lists = lists; unfinished = u; reads = r; fault = h };
    })
    on (goes_on i fine) f = f lists (u ++ p ∷ []) (reads_more tokens lists u p r fine i)
    on (completes t is e) f = f (lists ++ t ∷ []) [] (reads_list tokens lists u p t r is e)

-- Tokens read, or some token is the first that breaks a rule.
pub reads_or_breaks : {A : Type 0} (tokens : List (FlatToken A)) → ReadsOrBreaks tokens
reads_or_breaks tokens = read_on tokens [] [] [] reads_nothing

-- Tokens read in one way at most.
pub reads_once : {A : Type 0} (tokens : List (FlatToken A)) (ts us : List (Sexp A)) (u v : List (FlatToken A)) → Reads tokens ts u → Reads tokens us v → (ts ≡ us) × (u ≡ v)
reads_once tokens ts us u v r s =
    let o = opened u r.is_unfinished in
    let n = opened v s.is_unfinished in
    let e : flat_each ts ++ open_tokens o.0 ≡ flat_each us ++ open_tokens n.0 =
    ap (λ ps. flat_each ts ++ ps) (sym o.1) ∙ sym r.spelled ∙ s.spelled ∙ ap (λ ps. flat_each us ++ ps) n.1 in
    let k = collected_once ts us o.0 n.0 e in
    (k.0, o.1 ∙ ap open_tokens k.1 ∙ sym n.1)
